-- Numbers of bodies that have a wanted one.
use Rattle.std.proofs.Common.{◌≡◌, ℕ, ◌+◌, ◌≤◌, Bool, true, false, cond, not, ◌||◌, List, [], ◌∷◌}
use Rattle.std.proofs.Common.{◌++◌, map, refl, sym, ap, subst, ◌∙◌, arith, append_assoc, Option, Some}
use Rattle.std.proofs.Common.{None, inl, inr}
use Rattle.std.proofs.Math.Dec.{eqb}
use Rattle.std.specs.Prelude.{filter, option_to_list}
use Rattle.std.specs.List.{IsDistinct, flat_map, list_any}
use Rattle.std.proofs.lemmas.Bool.{cases_Bool, eqb-true}
use Rattle.std.proofs.lemmas.List.{map-append}
use Rattle.std.proofs.lemmas.List.Elements.{filter-append}
use Rattle.std.proofs.lemmas.List.Folds.{list_any-append}
use Rattle.protobuf_parse_model.specs.Descriptors.{Text, FieldDescriptor}
use Rattle.protobuf_parse_rules.specs.Bodies.{BodyParts, extensions_of, fields_of}
use Rattle.protobuf_parse_rules.specs.Claims.{Claim, conflicts, same_thing}
use Rattle.protobuf_parse_rules.specs.ClaimsKept.{AreEnough, breaches_wanted}
use Rattle.protobuf_parse_rules.specs.Crowds.{how_many, one_if}
use Rattle.protobuf_parse_rules.specs.Keys.{claim_key, field_key, text_key}
use Rattle.protobuf_parse_rules.specs.Numbers.{claim_of, claims, extension_claim, extension_claims}
use Rattle.protobuf_parse_rules.specs.Numbers.{field_claims, number_rule}
use Rattle.protobuf_parse_rules.specs.Violations.{breaches_after, breaches_inside}
use Rattle.protobuf_parse_rules.specs.Wanted.{AreOnce, claims_wanted, has_key, is_wanted_extension}
use Rattle.protobuf_parse_rules.specs.Wanted.{is_wanted_field, is_wanted_number}
use Rattle.protobuf_parse_rules.proofs.Claiming.{thing_is}
use Rattle.protobuf_parse_rules.proofs.Crowding.{distinct}
use Rattle.protobuf_parse_rules.proofs.Keying.{by_thing, none_after}
use Rattle.protobuf_parse_rules.proofs.Lone.{how_many-append}
use Rattle.protobuf_parse_rules.proofs.Parting.{kept_head, left_head, none_kept, parted}
use Rattle.protobuf_parse_rules.proofs.Walking.{inside_alone}

-- ---- which bodies have one

any_field : (keys : List ℕ) (file scope : Text) (fs : List FieldDescriptor)
    → list_any (is_wanted_number keys) (field_claims file scope fs)
    ≡ list_any (is_wanted_field keys (text_key scope)) fs
any_field keys file scope [] = refl
any_field keys file scope (f ∷ fs) =
    ap (λ b. is_wanted_field keys (text_key scope) f || b) (any_field keys file scope fs)

one_extension : (keys : List ℕ) (file scope : Text) (e : FieldDescriptor)
    → list_any (is_wanted_number keys) (extension_claim file scope e) ≡ is_wanted_extension keys e
one_extension keys file scope e = at e.extendee
  where
    at : (x : Option Text)
        → list_any (is_wanted_number keys)
        (map (λ (m : Text). claim_of file scope m e) (option_to_list x))
        ≡ list_any (has_key keys)
        (map (λ (m : Text). field_key (text_key m) e) (option_to_list x))
    at None = refl
    at (Some m) = refl

any_extension : (keys : List ℕ) (file scope : Text) (es : List FieldDescriptor)
    → list_any (is_wanted_number keys) (extension_claims file scope es)
    ≡ list_any (is_wanted_extension keys) es
any_extension keys file scope [] = refl
any_extension keys file scope (e ∷ es) =
    list_any-append (is_wanted_number keys) (extension_claim file scope e)
    (extension_claims file scope es)
    ∙ ap (λ b. b || list_any (is_wanted_number keys) (extension_claims file scope es))
    (one_extension keys file scope e)
    ∙ ap (λ b. is_wanted_extension keys e || b) (any_extension keys file scope es)

-- A body has a wanted number where a field or an extension has one.
pub any_wanted_number : (keys : List ℕ) (p : BodyParts)
    → list_any (is_wanted_number keys) (claims p)
    ≡ (list_any (is_wanted_field keys (text_key p.scope)) (fields_of p.content)
    || list_any (is_wanted_extension keys) (extensions_of p.content))
any_wanted_number keys p =
    list_any-append (is_wanted_number keys) (field_claims p.file p.scope (fields_of p.content))
    (extension_claims p.file p.scope (extensions_of p.content))
    ∙ ap (λ b. b || list_any (is_wanted_number keys)
    (extension_claims p.file p.scope (extensions_of p.content)))
    (any_field keys p.file p.scope (fields_of p.content))
    ∙ ap (λ b. list_any (is_wanted_field keys (text_key p.scope)) (fields_of p.content) || b)
    (any_extension keys p.file p.scope (extensions_of p.content))

-- ---- how often keys stand among claims

abbrev count : ℕ → List Claim → ℕ
count k cs = how_many k (map claim_key cs)

count-append : (k : ℕ) (cs ds : List Claim) → count k (cs ++ ds) ≡ count k cs + count k ds
count-append k cs ds = ap (how_many k) (map-append claim_key cs ds)
    ∙ how_many-append k (map claim_key cs) (map claim_key ds)

part_fewer : (keys : List ℕ) (k : ℕ) (p : BodyParts)
    → count k (claims_wanted keys p) ≤ count k (claims p)
part_fewer keys k p = at (list_any (is_wanted_number keys) (claims p))
  where
    at : (b : Bool) → count k (cond b (claims p) []) ≤ count k (claims p)
    at true = omega arith
    at false = omega arith

-- claims of which fewer are kept, but all that are wanted
record KeepsWanted (keys : List ℕ) (before kept : List Claim) : Type 0 where
  fewer : (k : ℕ) → count k kept ≤ count k before
  wanted : filter (is_wanted_number keys) kept ≡ filter (is_wanted_number keys) before

module _ (keys : List ℕ) where
  abbrev is_other : Claim → Bool
  is_other c = not (is_wanted_number keys c)

  kept_fewer : (k : ℕ) (cs : List Claim) → count k (filter is_other cs) ≤ count k cs
  kept_fewer k [] = omega arith
  kept_fewer k (c ∷ cs) = at (is_other c) refl (kept_fewer k cs)
    where
      at : (b : Bool) → is_other c ≡ b → count k (filter is_other cs) ≤ count k cs
          → count k (filter is_other (c ∷ cs)) ≤ count k (c ∷ cs)
      at true e more =
          let whole : count k (filter is_other (c ∷ cs)) ≡ count k (c ∷ filter is_other cs) =
          ap (count k) (kept_head is_other c cs e) in
          omega (arith, whole, more)
      at false e more =
          let whole : count k (filter is_other (c ∷ cs)) ≡ count k (filter is_other cs) =
          ap (count k) (left_head is_other c cs e) in
          omega (arith, whole, more)

  -- a wanted key is that of no other claim
  others_none : (k : ℕ) (cs : List Claim) → has_key keys k ≡ true
      → count k (filter is_other cs) ≡ 0
  others_none k [] wanted = refl
  others_none k (c ∷ cs) wanted = at (is_wanted_number keys c) refl (others_none k cs wanted)
    where
      differs : is_wanted_number keys c ≡ false → eqb (claim_key c) k ≡ false
      differs other = elim (cases_Bool (eqb (claim_key c) k)) [
        | inl same ↦
            let never = sym other ∙ ap (has_key keys) (eqb-true (claim_key c) k same) ∙ wanted in
            absurd cc
        | inr apart ↦ apart
      ]

      at : (b : Bool) → is_wanted_number keys c ≡ b → count k (filter is_other cs) ≡ 0
          → count k (filter is_other (c ∷ cs)) ≡ 0
      at true e more = ap (count k) (left_head is_other c cs (ap not e)) ∙ more
      at false e more =
          let whole : count k (filter is_other (c ∷ cs)) ≡ count k (c ∷ filter is_other cs) =
          ap (count k) (kept_head is_other c cs (ap not e)) in
          let none : one_if (eqb (claim_key c) k) ≡ 0 = ap one_if (differs e) in
          omega (arith, whole, none, more)

  others_distinct : (cs : List Claim) → AreOnce keys cs
      → IsDistinct eqb (map claim_key (filter is_other cs))
  others_distinct cs once = distinct (map claim_key (filter is_other cs))
      (λ k. at k (has_key keys k) refl)
    where
      at : (k : ℕ) (b : Bool) → has_key keys k ≡ b → count k (filter is_other cs) ≤ 1
      at k true e = let none = others_none k cs e in omega (arith, none)
      at k false e =
          let some = kept_fewer k cs in
          let one = once k e in
          omega (arith, some, one)

  same_wanted : (a b : Claim) → same_thing a.thing b.thing ≡ true
      → is_wanted_number keys a ≡ is_wanted_number keys b
  same_wanted a b e = ap (has_key keys) (by_thing a b (thing_is a.thing b.thing e))

  -- only wanted numbers are in conflict
  only_wanted : (before cs : List Claim) → AreOnce keys (before ++ cs)
      → conflicts number_rule before cs
      ≡ conflicts number_rule (filter (is_wanted_number keys) before)
      (filter (is_wanted_number keys) cs)
  only_wanted before cs once =
      parted number_rule (is_wanted_number keys) same_wanted before cs
      (none_after claim_key by_thing number_rule (filter is_other before) (filter is_other cs)
      (subst (λ (ds : List Claim). IsDistinct eqb (map claim_key ds))
      (filter-append is_other before cs) (others_distinct (before ++ cs) once)))

  part_wanted : (p : BodyParts)
      → filter (is_wanted_number keys) (claims_wanted keys p)
      ≡ filter (is_wanted_number keys) (claims p)
  part_wanted p = at (list_any (is_wanted_number keys) (claims p)) refl
    where
      at : (b : Bool) → list_any (is_wanted_number keys) (claims p) ≡ b
          → filter (is_wanted_number keys) (claims_wanted keys p)
          ≡ filter (is_wanted_number keys) (claims p)
      at true e = ap (λ b. filter (is_wanted_number keys) (cond b (claims p) [])) e
      at false e = ap (λ b. filter (is_wanted_number keys) (cond b (claims p) [])) e
          ∙ sym (none_kept (is_wanted_number keys) (claims p) e)

  keeps_more : (before kept : List Claim) (p : BodyParts) → KeepsWanted keys before kept
      → KeepsWanted keys (before ++ claims p) (kept ++ claims_wanted keys p)
  keeps_more before kept p keeps = record {
    fewer = λ k. omega (
      arith,
      keeps.fewer k,
      part_fewer keys k p,
      count-append k before (claims p),
      count-append k kept (claims_wanted keys p),
    );
    wanted =
        filter-append (is_wanted_number keys) kept (claims_wanted keys p)
        ∙ ap (λ cs. cs ++ filter (is_wanted_number keys) (claims_wanted keys p)) keeps.wanted
        ∙ ap (λ cs. filter (is_wanted_number keys) before ++ cs) (part_wanted p)
        ∙ sym (filter-append (is_wanted_number keys) before (claims p));
  }

  body_same : (before kept : List Claim) (p : BodyParts) (rest : List Claim)
      → KeepsWanted keys before kept → AreOnce keys (before ++ (claims p ++ rest))
      → conflicts number_rule kept (claims_wanted keys p) ≡ conflicts number_rule before (claims p)
  body_same before kept p rest keeps once =
      only_wanted kept (claims_wanted keys p)
      (λ k e. let one = once k e in omega (
        arith,
        one,
        keeps.fewer k,
        part_fewer keys k p,
        count-append k kept (claims_wanted keys p),
        count-append k before (claims p ++ rest),
        count-append k (claims p) rest,
      ))
      ∙ ap (λ cs. conflicts number_rule cs (filter (is_wanted_number keys) (claims_wanted keys p)))
      keeps.wanted
      ∙ ap (conflicts number_rule (filter (is_wanted_number keys) before)) (part_wanted p)
      ∙ sym (only_wanted before (claims p)
      (λ k e. let one = once k e in omega (
        arith,
        one,
        count-append k before (claims p),
        count-append k before (claims p ++ rest),
        count-append k (claims p) rest,
      )))

  bodies_same : (all : List BodyParts) (before kept : List Claim) (ps : List BodyParts)
      → KeepsWanted keys before kept → AreOnce keys (before ++ flat_map claims ps)
      → breaches_wanted keys all kept ps ≡ breaches_after all before ps
  bodies_same all before kept [] keeps once = refl
  bodies_same all before kept (p ∷ ps) keeps once =
      ap (λ bs. (bs ++ breaches_inside all p)
      ++ breaches_wanted keys all (kept ++ claims_wanted keys p) ps)
      (body_same before kept p (flat_map claims ps) keeps once)
      ∙ ap (λ bs. (conflicts number_rule before (claims p) ++ breaches_inside all p) ++ bs)
      (bodies_same all (before ++ claims p) (kept ++ claims_wanted keys p) ps
      (keeps_more before kept p keeps)
      (subst (AreOnce keys) (sym (append_assoc before (claims p) (flat_map claims ps))) once))

  -- Where each other key stands once, wanted numbers are enough.
  pub enough : (ps : List BodyParts) → AreOnce keys (flat_map claims ps) → AreEnough keys ps
  enough ps once all =
      bodies_same all [] [] ps (record { fewer = λ k. omega arith; wanted = refl }) once

  -- where none is wanted
  none_of : (cs : List Claim) → ((k : ℕ) → has_key keys k ≡ false)
      → list_any (is_wanted_number keys) cs ≡ false
  none_of [] none = refl
  none_of (c ∷ cs) none =
      ap (λ b. b || list_any (is_wanted_number keys) cs) (none (claim_key c)) ∙ none_of cs none

  pub inside_only : (all : List BodyParts) (ps : List BodyParts)
      → ((k : ℕ) → has_key keys k ≡ false)
      → breaches_wanted keys all [] ps ≡ flat_map (breaches_inside all) ps
  inside_only all [] none = refl
  inside_only all (p ∷ ps) none =
      ap (λ (cs : List Claim). (conflicts number_rule [] cs ++ breaches_inside all p)
      ++ breaches_wanted keys all cs ps)
      (ap (λ b. cond b (claims p) []) (none_of (claims p) none))
      ∙ ap (λ bs. breaches_inside all p ++ bs) (inside_only all ps none)

  -- Where no number is in use, none is enough.
  pub none_enough : (ps : List BodyParts) → ((k : ℕ) → has_key keys k ≡ false)
      → conflicts number_rule [] (flat_map claims ps) ≡ [] → AreEnough keys ps
  none_enough ps none apart all = inside_only all ps none ∙ inside_alone all [] ps apart
