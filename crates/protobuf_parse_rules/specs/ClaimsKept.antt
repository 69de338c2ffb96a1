-- No public clause rests on this file.
-- What the map of claims has.
use Rattle.std.specs.Prelude.{◌≡◌, ℕ, ℤ, List, [], ◌∷◌, ◌++◌, Option, Some, None, option_map}
use Rattle.std.specs.Prelude.{flat_map}
use Rattle.std.specs.Ordering.{int_cmp, nat_cmp, ordering_then}
use Rattle.std.specs.declared.cmp.Ordering.{Ordering}
use Rattle.std.specs.Borrow.{Bor}
use Rattle.std.specs.BTreeMap.{BTreeMap, get}
use Rattle.std.specs.Cmp.Lexicographic.{slice_cmp}
use Rattle.std.specs.Global.{Vec}
use Rattle.protobuf_parse_model.specs.Descriptors.{Text}
use Rattle.protobuf_parse_wire.specs.Declarations.{name_within}
use Rattle.protobuf_parse_rules.specs.Rules.{Breach, breaches_told}
use Rattle.protobuf_parse_rules.specs.declared.claims.Holder.{Holder}
use Rattle.protobuf_parse_rules.specs.declared.claims.Thing as code
use Rattle.protobuf_parse_rules.specs.declared.violation.Violation.{Violation}
use Rattle.protobuf_parse_rules.specs.Claims.{Claim, Rules, Thing, Who, conflicts, first_claim}
use Rattle.protobuf_parse_rules.specs.Bodies.{BodyParts}
use Rattle.protobuf_parse_rules.specs.Numbers.{number_rule}
use Rattle.protobuf_parse_rules.specs.Violations.{breaches_after, breaches_inside}
use Rattle.protobuf_parse_rules.specs.Wanted.{claims_wanted}

abbrev pub Key : Type 0
Key = ℤ × Bor (List ℕ) × Bor (List ℕ)

abbrev pub key_cmp : Key → Key → Ordering
key_cmp a b =
    ordering_then (ordering_then (int_cmp a.0 b.0) (slice_cmp nat_cmp a.1.now b.1.now))
    (slice_cmp nat_cmp a.2.now b.2.now)

abbrev pub thing_of : Key → Thing
thing_of k = record { number = k.0; name = k.1.now; scope = k.2.now }

abbrev pub thing_view : code.Thing → Thing
thing_view t = record { number = t.number; name = t.name.now; scope = t.scope.now }

-- the full name of what has the name in the scope, or else of what has the scope
abbrev pub spot_name : Text → Option (Bor (List ℕ)) → Text
spot_name scope None = scope
spot_name scope (Some name) = name_within scope name.now

abbrev pub holder_view : Holder → Who
holder_view h = record {
  file = h.file.now;
  name = spot_name h.scope.now h.name;
  number = h.number;
  kind = h.kind;
}

-- The map has who claimed each thing first.
abbrev pub Knows : BTreeMap Key Holder → List Claim → Type 0
Knows m before = (k : Key)
    → option_map holder_view (get key_cmp m k)
    ≡ option_map (λ (c : Claim). c.who) (first_claim before (thing_of k))

-- The map took these claims in addition, and the conflicts among them were told.
pub record Claims (rules : Rules) (old new : BTreeMap Key Holder)
    (told_before told : Vec Violation) (there : List Claim) : Type 0 where
  pub at : (before : List Claim) → Knows old before
      → Knows new (before ++ there)
      × (breaches_told told ≡ breaches_told told_before ++ conflicts rules before there)

-- what is told of bodies behind these claims, where only wanted numbers are looked at
abbrev pub breaches_wanted : List ℕ → (all : List BodyParts) → (before : List Claim)
    → List BodyParts → List Breach
breaches_wanted keys all before [] = []
breaches_wanted keys all before (p ∷ ps) =
    (conflicts number_rule before (claims_wanted keys p) ++ breaches_inside all p)
    ++ breaches_wanted keys all (before ++ claims_wanted keys p) ps

-- Then all is told of these bodies.
abbrev pub AreEnough : List ℕ → List BodyParts → Type 0
AreEnough keys ps =
    (all : List BodyParts) → breaches_wanted keys all [] ps ≡ breaches_after all [] ps

-- The map took the wanted claims of these bodies in addition, and what is wrong there was told.
pub record Checks (keys : List ℕ) (all : List BodyParts) (old new : BTreeMap Key Holder)
    (told_before told : Vec Violation) (there : List BodyParts) : Type 0 where
  pub at : (before : List Claim) → Knows old before
      → Knows new (before ++ flat_map (claims_wanted keys) there)
      × (breaches_told told ≡ breaches_told told_before ++ breaches_wanted keys all before there)
