-- Names of bodies that have a wanted one.
use Rattle.std.proofs.Common.{◌≡◌, ℕ, ◌+◌, ◌≤◌, Bool, true, false, cond, not, ◌||◌, List, [], ◌∷◌}
use Rattle.std.proofs.Common.{◌++◌, map, refl, sym, ap, ◌∙◌, arith, append-nil, Option, Some}
use Rattle.std.proofs.Common.{None, inl, inr}
use Rattle.std.proofs.Math.Dec.{eqb}
use Rattle.std.specs.Prelude.{if◌then◌else◌}
use Rattle.std.specs.Prelude.{filter, find, bytes_eq, option_map, option_and_then, option_to_list}
use Rattle.std.specs.List.{flat_map, list_any}
use Rattle.std.specs.Option.{option_or}
use Rattle.std.proofs.lemmas.Bool.{cases_Bool, eqb-true}
use Rattle.std.proofs.lemmas.Grind.{flat_map-append}
use Rattle.std.proofs.lemmas.List.Elements.{filter-append}
use Rattle.std.proofs.lemmas.List.Folds.{find-append, list_any-append}
use Rattle.std.proofs.lemmas.Slice.Eq.{bytes_eq-Decides}
use Rattle.protobuf_parse_model.specs.Descriptors.{Text, FieldDescriptor}
use Rattle.protobuf_parse_wire.specs.Declarations.{name_within}
use Rattle.protobuf_parse_rules.specs.Bodies.{BodyParts, extensions_of}
use Rattle.protobuf_parse_rules.specs.Claims.{Claim, Thing, conflicts, same_thing}
use Rattle.protobuf_parse_rules.specs.Crowds.{how_many, one_if}
use Rattle.protobuf_parse_rules.specs.Keys.{is_package, keys_at, name_key, other_keys, packages_at}
use Rattle.protobuf_parse_rules.specs.Keys.{text_key}
use Rattle.protobuf_parse_rules.specs.Names.{Named, name_claim, name_rule, names_at, names_in_use}
use Rattle.protobuf_parse_rules.specs.Rules.{Broken, breaches_at, broken_by}
use Rattle.protobuf_parse_rules.specs.Runtimes.{is_lite_path, lite_extendee, lite_extension}
use Rattle.protobuf_parse_rules.specs.Runtimes.{lite_file}
use Rattle.protobuf_parse_rules.specs.Runtimes.{runtime_breaches, runtimes_among}
use Rattle.protobuf_parse_rules.specs.Wanted.{AreLone, IsLone, extendee_keys, has_key, is_wanted}
use Rattle.protobuf_parse_rules.specs.Wanted.{lite_keys, names_wanted}
use Rattle.protobuf_parse_rules.specs.declared.rule.Rule.TheVariants as rule
use Rattle.protobuf_parse_rules.proofs.Claiming.{thing_is}
use Rattle.protobuf_parse_rules.proofs.Crowding.{none_there}
use Rattle.protobuf_parse_rules.proofs.Keyed.{other_keys_are, package_keys_are}
use Rattle.protobuf_parse_rules.proofs.Lone.{eqb_same, how_many-append, lone_names, some_of}
use Rattle.protobuf_parse_rules.proofs.Parting.{kept_head, left_head, none_kept, parted}

left : (a b : Bool) → (a || b) ≡ false → a ≡ false
left false b e = refl
left true b e = absurd cc

right : (a b : Bool) → (a || b) ≡ false → b ≡ false
right false b e = e
right true b e = absurd cc

-- ---- which bodies have one

-- a name is wanted by its key, whether it is a package or not
by_kind : (keys : List ℕ) (n : Named)
    → is_wanted keys n ≡ (list_any (has_key keys) (keys_at false n)
    || list_any (has_key keys) (keys_at true n))
by_kind keys n = at (is_package n.kind) refl
  where
    or_false : (b : Bool) → b ≡ (b || false)
    or_false true = refl
    or_false false = refl

    at : (b : Bool) → is_package n.kind ≡ b
        → is_wanted keys n ≡ (list_any (has_key keys) (keys_at false n)
        || list_any (has_key keys) (keys_at true n))
    at true e =
        or_false (is_wanted keys n)
        ∙ sym (ap (λ b. list_any (has_key keys) (cond (not b) (name_key n ∷ []) [])
        || list_any (has_key keys) (cond b (name_key n ∷ []) [])) e)
    at false e =
        or_false (is_wanted keys n)
        ∙ or_false (is_wanted keys n || false)
        ∙ sym (ap (λ b. list_any (has_key keys) (cond (not b) (name_key n ∷ []) [])
        || list_any (has_key keys) (cond b (name_key n ∷ []) [])) e)

either_way : (a b c d : Bool) → ((a || b) || (c || d)) ≡ ((a || c) || (b || d))
either_way true b c d = refl
either_way false true true d = refl
either_way false true false d = refl
either_way false false c d = refl

any_kind : (keys : List ℕ) (ns : List Named)
    → list_any (is_wanted keys) ns
    ≡ (list_any (has_key keys) (flat_map (keys_at false) ns)
    || list_any (has_key keys) (flat_map (keys_at true) ns))
any_kind keys [] = refl
any_kind keys (n ∷ ns) =
    ap (λ b. b || list_any (is_wanted keys) ns) (by_kind keys n)
    ∙ ap (λ b. (list_any (has_key keys) (keys_at false n)
    || list_any (has_key keys) (keys_at true n)) || b) (any_kind keys ns)
    ∙ either_way (list_any (has_key keys) (keys_at false n))
    (list_any (has_key keys) (keys_at true n))
    (list_any (has_key keys) (flat_map (keys_at false) ns))
    (list_any (has_key keys) (flat_map (keys_at true) ns))
    ∙ ap (λ b. b || (list_any (has_key keys) (keys_at true n)
    || list_any (has_key keys) (flat_map (keys_at true) ns)))
    (sym (list_any-append (has_key keys) (keys_at false n) (flat_map (keys_at false) ns)))
    ∙ ap (λ b. list_any (has_key keys) (flat_map (keys_at false) (n ∷ ns)) || b)
    (sym (list_any-append (has_key keys) (keys_at true n) (flat_map (keys_at true) ns)))

pub any_key : (keys : List ℕ) (ns : List Named)
    → list_any (is_wanted keys) ns ≡ list_any (has_key keys) (map name_key ns)
any_key keys [] = refl
any_key keys (n ∷ ns) = ap (λ b. has_key keys (name_key n) || b) (any_key keys ns)

-- A body has a wanted name where one of its keys is wanted.
pub any_wanted : (keys : List ℕ) (p : BodyParts)
    → list_any (is_wanted keys) (names_at p)
    ≡ (list_any (has_key keys) (other_keys p) || list_any (is_wanted keys) (packages_at p))
any_wanted keys p =
    any_kind keys (names_at p)
    ∙ ap (λ ks. list_any (has_key keys) ks
    || list_any (has_key keys) (flat_map (keys_at true) (names_at p)))
    (ap (flat_map (keys_at false)) (sym (append-nil (names_at p))) ∙ other_keys_are (p ∷ [])
    ∙ append-nil (other_keys p))
    ∙ ap (λ ks. list_any (has_key keys) (other_keys p) || list_any (has_key keys) ks)
    (ap (flat_map (keys_at true)) (sym (append-nil (names_at p))) ∙ package_keys_are (p ∷ [])
    ∙ ap (map name_key) (append-nil (packages_at p)))
    ∙ ap (λ b. list_any (has_key keys) (other_keys p) || b) (sym (any_key keys (packages_at p)))

none_wanted : (keys : List ℕ) (ns : List Named) → keys ≡ [] → list_any (is_wanted keys) ns ≡ false
none_wanted keys [] e = refl
none_wanted keys (n ∷ ns) e =
    ap (λ (ks : List ℕ). has_key ks (name_key n) || list_any (is_wanted keys) ns) e
    ∙ none_wanted keys ns e

-- no body has one where none is wanted
pub none_named : (keys : List ℕ) (ps : List BodyParts) → keys ≡ []
    → flat_map (names_wanted keys) ps ≡ []
none_named keys [] e = refl
none_named keys (p ∷ ps) e =
    ap (λ b. cond b (names_at p) [] ++ flat_map (names_wanted keys) ps)
    (none_wanted keys (names_at p) e)
    ∙ none_named keys ps e

-- ---- fewer names have fewer keys

-- how often a key stands among names of which some are left out
abbrev count : Bool → ℕ → List Named → ℕ
count packages k ns = how_many k (flat_map (keys_at packages) ns)

count-append : (packages : Bool) (k : ℕ) (ms ns : List Named)
    → count packages k (ms ++ ns) ≡ count packages k ms + count packages k ns
count-append packages k ms ns =
    ap (how_many k) (flat_map-append (keys_at packages) ms ns)
    ∙ how_many-append k (flat_map (keys_at packages) ms) (flat_map (keys_at packages) ns)

-- one name more
count-first : (packages : Bool) (k : ℕ) (n : Named) (ns : List Named)
    → count packages k (n ∷ ns) ≡ how_many k (keys_at packages n) + count packages k ns
count-first packages k n ns =
    how_many-append k (keys_at packages n) (flat_map (keys_at packages) ns)

at_most_one : (b : Bool) → one_if b ≤ 1
at_most_one true = omega arith
at_most_one false = omega arith

-- names of which each key stands as often at most are lone where the others are
fewer_lone : (ms ns : List Named) (k : ℕ)
    → ((packages : Bool) → count packages k ms ≤ count packages k ns) → IsLone ns k → IsLone ms k
fewer_lone ms ns k fewer lone = at (has_key (flat_map (keys_at true) ns) k) refl
  where
    at : (b : Bool) → has_key (flat_map (keys_at true) ns) k ≡ b → IsLone ms k
    at true e =
        let one : one_if (has_key (flat_map (keys_at true) ns) k) ≡ 1 = ap one_if e in
        let most = at_most_one (has_key (flat_map (keys_at true) ms) k) in
        omega (arith, fewer false, lone, one, most)
    at false e =
        let none = none_there k (flat_map (keys_at true) ns) e in
        let absent : has_key (flat_map (keys_at true) ms) k ≡ false =
        elim (cases_Bool (has_key (flat_map (keys_at true) ms) k)) [
          | inl there ↦
              let some = some_of k (flat_map (keys_at true) ms) there in
              absurd (omega (arith, some, none, fewer true))
          | inr other ↦ other
        ] in
        let zero : one_if (has_key (flat_map (keys_at true) ms) k) ≡ 0 = ap one_if absent in
        omega (arith, fewer false, lone, zero)

-- those of some bodies
part_fewer : (keys : List ℕ) (packages : Bool) (k : ℕ) (p : BodyParts)
    → count packages k (names_wanted keys p) ≤ count packages k (names_at p)
part_fewer keys packages k p = at (list_any (is_wanted keys) (names_at p))
  where
    at : (b : Bool) → count packages k (cond b (names_at p) []) ≤ count packages k (names_at p)
    at true = omega arith
    at false = omega arith

some_fewer : (keys : List ℕ) (packages : Bool) (k : ℕ) (ps : List BodyParts)
    → count packages k (flat_map (names_wanted keys) ps) ≤ count packages k (flat_map names_at ps)
some_fewer keys packages k [] = omega arith
some_fewer keys packages k (p ∷ ps) =
    omega (
      arith,
      count-append packages k (names_wanted keys p) (flat_map (names_wanted keys) ps),
      count-append packages k (names_at p) (flat_map names_at ps),
      part_fewer keys packages k p,
      some_fewer keys packages k ps,
    )

-- those that pass a test
kept_fewer : (q : Named → Bool) (packages : Bool) (k : ℕ) (ns : List Named)
    → count packages k (filter q ns) ≤ count packages k ns
kept_fewer q packages k [] = omega arith
kept_fewer q packages k (n ∷ ns) = at (q n) refl (kept_fewer q packages k ns)
  where
    at : (b : Bool) → q n ≡ b → count packages k (filter q ns) ≤ count packages k ns
        → count packages k (filter q (n ∷ ns)) ≤ count packages k (n ∷ ns)
    at true e more =
        let whole : count packages k (filter q (n ∷ ns)) ≡ count packages k (n ∷ filter q ns) =
        ap (count packages k) (kept_head q n ns e) in
        omega (
          arith,
          whole,
          count-first packages k n (filter q ns),
          count-first packages k n ns,
          more,
        )
    at false e more =
        let whole : count packages k (filter q (n ∷ ns)) ≡ count packages k (filter q ns) =
        ap (count packages k) (left_head q n ns e) in
        omega (arith, whole, count-first packages k n ns, more)

abbrev is_other : List ℕ → Named → Bool
is_other keys n = not (is_wanted keys n)

-- a wanted key is that of no other name
no_other_key : (keys : List ℕ) (packages : Bool) (k : ℕ) (n : Named) → has_key keys k ≡ true
    → is_wanted keys n ≡ false → how_many k (keys_at packages n) ≡ 0
no_other_key keys packages k n wanted other =
    at (if packages then is_package n.kind else not (is_package n.kind))
  where
    differs : eqb (name_key n) k ≡ false
    differs = elim (cases_Bool (eqb (name_key n) k)) [
      | inl same ↦
          let never = sym other ∙ ap (has_key keys) (eqb-true (name_key n) k same) ∙ wanted in
          absurd cc
      | inr apart ↦ apart
    ]

    at : (b : Bool) → how_many k (cond b (name_key n ∷ []) []) ≡ 0
    at true =
        let none : one_if (eqb (name_key n) k) ≡ 0 = ap one_if differs in omega (arith, none)
    at false = refl

others_none : (keys : List ℕ) (packages : Bool) (k : ℕ) (ns : List Named) → has_key keys k ≡ true
    → count packages k (filter (is_other keys) ns) ≡ 0
others_none keys packages k [] wanted = refl
others_none keys packages k (n ∷ ns) wanted =
    at (is_wanted keys n) refl (others_none keys packages k ns wanted)
  where
    at : (b : Bool) → is_wanted keys n ≡ b → count packages k (filter (is_other keys) ns) ≡ 0
        → count packages k (filter (is_other keys) (n ∷ ns)) ≡ 0
    at true e more =
        ap (count packages k) (left_head (is_other keys) n ns (ap not e)) ∙ more
    at false e more =
        let whole : count packages k (filter (is_other keys) (n ∷ ns))
        ≡ count packages k (n ∷ filter (is_other keys) ns) =
        ap (count packages k) (kept_head (is_other keys) n ns (ap not e)) in
        let none = no_other_key keys packages k n wanted e in
        let first = count-first packages k n (filter (is_other keys) ns) in
        omega (arith, whole, first, none, more)

-- ---- names of which the others are lone

abbrev AreOthersLone : List ℕ → List Named → Type 0
AreOthersLone keys ns = (k : ℕ) → has_key keys k ≡ false → IsLone ns k

others_lone : (keys : List ℕ) (ns : List Named) → AreOthersLone keys ns
    → (k : ℕ) → IsLone (filter (is_other keys) ns) k
others_lone keys ns lone k = at (has_key keys k) refl
  where
    at : (b : Bool) → has_key keys k ≡ b → IsLone (filter (is_other keys) ns) k
    at true e =
        let most = at_most_one (has_key (flat_map (keys_at true) []) k) in
        fewer_lone (filter (is_other keys) ns) [] k
        (λ packages. let none = others_none keys packages k ns e in omega (arith, none))
        (omega (arith, most))
    at false e = fewer_lone (filter (is_other keys) ns) ns k
        (λ packages. kept_fewer (is_other keys) packages k ns) (lone k e)

mapped_kept : {X Y : Type 0} (p : Y → Bool) (f : X → Y) (xs : List X)
    → filter p (map f xs) ≡ map f (filter (λ (x : X). p (f x)) xs)
mapped_kept p f [] = refl
mapped_kept p f (x ∷ xs) = at (p (f x)) (mapped_kept p f xs)
  where
    at : (b : Bool) → filter p (map f xs) ≡ map f (filter (λ y. p (f y)) xs)
        → cond b (f x ∷ filter p (map f xs)) (filter p (map f xs))
        ≡ map f (cond b (x ∷ filter (λ y. p (f y)) xs) (filter (λ y. p (f y)) xs))
    at true more = ap (λ ys. f x ∷ ys) more
    at false more = more

abbrev is_wanted_claim : List ℕ → Claim → Bool
is_wanted_claim keys c = has_key keys (text_key c.thing.name)

same_wanted : (keys : List ℕ) (a b : Claim) → same_thing a.thing b.thing ≡ true
    → is_wanted_claim keys a ≡ is_wanted_claim keys b
same_wanted keys a b e =
    ap (λ (t : Thing). has_key keys (text_key t.name)) (thing_is a.thing b.thing e)

only_wanted : (keys : List ℕ) (ns : List Named) → AreOthersLone keys ns
    → conflicts name_rule [] (map name_claim ns)
    ≡ conflicts name_rule [] (map name_claim (filter (is_wanted keys) ns))
only_wanted keys ns lone =
    parted name_rule (is_wanted_claim keys) (same_wanted keys) [] (map name_claim ns)
    (ap (conflicts name_rule [])
    (mapped_kept (λ (c : Claim). not (is_wanted_claim keys c)) name_claim ns)
    ∙ lone_names (filter (is_other keys) ns) (others_lone keys ns lone))
    ∙ ap (conflicts name_rule []) (mapped_kept (is_wanted_claim keys) name_claim ns)

-- the wanted names of the bodies that have one are all
all_wanted : (keys : List ℕ) (ps : List BodyParts)
    → filter (is_wanted keys) (flat_map (names_wanted keys) ps)
    ≡ filter (is_wanted keys) (flat_map names_at ps)
all_wanted keys [] = refl
all_wanted keys (p ∷ ps) =
    filter-append (is_wanted keys) (names_wanted keys p) (flat_map (names_wanted keys) ps)
    ∙ ap (λ ns. ns ++ filter (is_wanted keys) (flat_map (names_wanted keys) ps))
    (at (list_any (is_wanted keys) (names_at p)) refl)
    ∙ ap (λ ns. filter (is_wanted keys) (names_at p) ++ ns) (all_wanted keys ps)
    ∙ sym (filter-append (is_wanted keys) (names_at p) (flat_map names_at ps))
  where
    at : (b : Bool) → list_any (is_wanted keys) (names_at p) ≡ b
        → filter (is_wanted keys) (names_wanted keys p) ≡ filter (is_wanted keys) (names_at p)
    at true e = ap (λ b. filter (is_wanted keys) (cond b (names_at p) [])) e
    at false e = ap (λ b. filter (is_wanted keys) (cond b (names_at p) [])) e
        ∙ sym (none_kept (is_wanted keys) (names_at p) e)

-- Names of bodies without a wanted one are in no conflict.
pub names_same : (keys : List ℕ) (ps : List BodyParts) → AreLone keys ps
    → conflicts name_rule [] (map name_claim (flat_map (names_wanted keys) ps)) ≡ names_in_use ps
names_same keys ps lone =
    only_wanted keys (flat_map (names_wanted keys) ps)
    (λ k e. fewer_lone (flat_map (names_wanted keys) ps) (flat_map names_at ps) k
    (λ packages. some_fewer keys packages k ps) (lone k e))
    ∙ ap (λ ns. conflicts name_rule [] (map name_claim ns)) (all_wanted keys ps)
    ∙ sym (only_wanted keys (flat_map names_at ps) lone)

-- ---- runtimes

abbrev has_name : Text → Named → Bool
has_name x n = bytes_eq n.name x

not_found : (keys : List ℕ) (x : Text) (ns : List Named) → has_key keys (text_key x) ≡ true
    → list_any (is_wanted keys) ns ≡ false → find (has_name x) ns ≡ None
not_found keys x [] wanted e = refl
not_found keys x (n ∷ ns) wanted e =
    ap (λ b. cond b (Some n) (find (has_name x) ns)) other
    ∙ not_found keys x ns wanted (right (is_wanted keys n) (list_any (is_wanted keys) ns) e)
  where
    other : has_name x n ≡ false
    other = elim (cases_Bool (has_name x n)) [
      | inl same ↦
          let never = sym (left (is_wanted keys n) (list_any (is_wanted keys) ns) e)
          ∙ ap (λ (t : Text). has_key keys (text_key t)) ((bytes_eq-Decides n.name x).0 same)
          ∙ wanted in
          absurd cc
      | inr apart ↦ apart
    ]

-- the first of a wanted name is found in the bodies that have a wanted one
find_wanted : (keys : List ℕ) (x : Text) (ps : List BodyParts) → has_key keys (text_key x) ≡ true
    → find (has_name x) (flat_map (names_wanted keys) ps)
    ≡ find (has_name x) (flat_map names_at ps)
find_wanted keys x [] wanted = refl
find_wanted keys x (p ∷ ps) wanted =
    find-append (has_name x) (names_wanted keys p) (flat_map (names_wanted keys) ps)
    ∙ ap (λ o. option_or o (find (has_name x) (flat_map (names_wanted keys) ps)))
    (at (list_any (is_wanted keys) (names_at p)) refl)
    ∙ ap (option_or (find (has_name x) (names_at p))) (find_wanted keys x ps wanted)
    ∙ sym (find-append (has_name x) (names_at p) (flat_map names_at ps))
  where
    at : (b : Bool) → list_any (is_wanted keys) (names_at p) ≡ b
        → find (has_name x) (names_wanted keys p) ≡ find (has_name x) (names_at p)
    at true e = ap (λ b. find (has_name x) (cond b (names_at p) [])) e
    at false e = ap (λ b. find (has_name x) (cond b (names_at p) [])) e
        ∙ sym (not_found keys x (names_at p) wanted e)

-- keys that are all wanted
abbrev AreAllWanted : List ℕ → List ℕ → Type 0
AreAllWanted keys ks = (k : ℕ) → has_key ks k ≡ true → has_key keys k ≡ true

wanted_first : (keys ks ls : List ℕ) → AreAllWanted keys (ks ++ ls) → AreAllWanted keys ks
wanted_first keys ks ls all k e =
    all k (list_any-append (eqb k) ks ls ∙ ap (λ b. b || list_any (eqb k) ls) e)

or_true : (b : Bool) → (b || true) ≡ true
or_true true = refl
or_true false = refl

wanted_rest : (keys ks ls : List ℕ) → AreAllWanted keys (ks ++ ls) → AreAllWanted keys ls
wanted_rest keys ks ls all k e =
    all k (list_any-append (eqb k) ks ls ∙ ap (λ b. list_any (eqb k) ks || b) e
    ∙ or_true (list_any (eqb k) ks))

module _ (keys : List ℕ) (all : List BodyParts) where
  abbrev some : List Named
  some = flat_map (names_wanted keys) all

  abbrev named : List Named
  named = flat_map names_at all

  -- what is told of an extendee, by the file that declares it
  abbrev by_file : Text → Option Text → Option Broken
  by_file x file = option_and_then (λ (path : Text).
      if is_lite_path all path then None else Some (broken_by rule.LiteExtension x)) file

  extension_same : (file scope : Text) (e : FieldDescriptor) → AreAllWanted keys (extendee_keys e)
      → lite_extension some all file scope e ≡ lite_extension named all file scope e
  extension_same file scope e wanted =
      ap (λ (o : Option Broken). breaches_at (record {
        file = file;
        construct = name_within scope e.name;
      }) (o ∷ [])) (at e.extendee refl)
    where
      at : (x : Option Text) → e.extendee ≡ x
          → option_and_then (lite_extendee some all) e.extendee
          ≡ option_and_then (lite_extendee named all) e.extendee
      at None is = ap (option_and_then (lite_extendee some all)) is
          ∙ sym (ap (option_and_then (lite_extendee named all)) is)
      at (Some x) is =
          let there : has_key keys (text_key x) ≡ true =
          wanted (text_key x)
          (ap (λ (o : Option Text). has_key (map text_key (option_to_list o)) (text_key x)) is
          ∙ ap (λ b. b || false) (eqb_same (text_key x) (text_key x) refl)) in
          ap (option_and_then (lite_extendee some all)) is
          ∙ ap (λ (n : Option Named). by_file x (option_map (λ (m : Named). m.file) n))
          (find_wanted keys x all there)
          ∙ sym (ap (option_and_then (lite_extendee named all)) is)

  extensions_same : (file scope : Text) (es : List FieldDescriptor)
      → AreAllWanted keys (flat_map extendee_keys es)
      → flat_map (lite_extension some all file scope) es
      ≡ flat_map (lite_extension named all file scope) es
  extensions_same file scope [] wanted = refl
  extensions_same file scope (e ∷ es) wanted =
      ap (λ bs. bs ++ flat_map (lite_extension some all file scope) es)
      (extension_same file scope e
      (wanted_first keys (extendee_keys e) (flat_map extendee_keys es) wanted))
      ∙ ap (λ bs. lite_extension named all file scope e ++ bs)
      (extensions_same file scope es
      (wanted_rest keys (extendee_keys e) (flat_map extendee_keys es) wanted))

  body_same : (p : BodyParts) → AreAllWanted keys (lite_keys all p)
      → runtimes_among some all p ≡ runtime_breaches all p
  body_same p wanted =
      ap (λ bs. bs ++ lite_file all p.file p.scope p.content) (at (is_lite_path all p.file) wanted)
    where
      at : (b : Bool)
          → AreAllWanted keys (cond b (flat_map extendee_keys (extensions_of p.content)) [])
          → cond b (flat_map (lite_extension some all p.file p.scope) (extensions_of p.content)) []
          ≡ cond b (flat_map (lite_extension named all p.file p.scope) (extensions_of p.content)) []
      at true there = extensions_same p.file p.scope (extensions_of p.content) there
      at false there = refl

  runtimes_of : (ps : List BodyParts) → AreAllWanted keys (flat_map (lite_keys all) ps)
      → flat_map (runtimes_among some all) ps ≡ flat_map (runtime_breaches all) ps
  runtimes_of [] wanted = refl
  runtimes_of (p ∷ ps) wanted =
      ap (λ bs. bs ++ flat_map (runtimes_among some all) ps)
      (body_same p (wanted_first keys (lite_keys all p) (flat_map (lite_keys all) ps) wanted))
      ∙ ap (λ bs. runtime_breaches all p ++ bs)
      (runtimes_of ps (wanted_rest keys (lite_keys all p) (flat_map (lite_keys all) ps) wanted))

-- ---- both

-- the keys that are wanted are those of names that two things may have, and of what is extended
pub declared_same : (doubled keys : List ℕ) (all : List BodyParts) → AreLone doubled all
    → ((k : ℕ) → has_key keys k ≡ has_key (doubled ++ flat_map (lite_keys all) all) k)
    → conflicts name_rule [] (map name_claim (flat_map (names_wanted keys) all))
    ++ flat_map (runtimes_among (flat_map (names_wanted keys) all) all) all
    ≡ names_in_use all ++ flat_map (runtime_breaches all) all
declared_same doubled keys all lone are =
    ap (λ bs. bs ++ flat_map (runtimes_among (flat_map (names_wanted keys) all) all) all)
    (names_same keys all (λ k e. lone k
    (left (has_key doubled k) (has_key (flat_map (lite_keys all) all) k)
    (sym (list_any-append (eqb k) doubled (flat_map (lite_keys all) all)) ∙ sym (are k) ∙ e))))
    ∙ ap (λ bs. names_in_use all ++ bs)
    (runtimes_of keys all all (λ k e. are k
    ∙ list_any-append (eqb k) doubled (flat_map (lite_keys all) all)
    ∙ ap (λ b. has_key doubled k || b) e ∙ or_true (has_key doubled k)))
