-- Full names of which no two are one, but for those of packages.
use Rattle.std.proofs.Common.{◌≡◌, ℕ, ◌+◌, ◌≤◌, Bool, true, false, cond, not, ◌||◌, List, [], ◌∷◌}
use Rattle.std.proofs.Common.{◌++◌}
use Rattle.std.proofs.Common.{map, refl, sym, ap, subst, ◌∙◌, append-nil, arith, Some, None}
use Rattle.std.proofs.Math.Dec.{eqb}
use Rattle.std.specs.List.{IsDistinct, AllByRecursion, Contains, flat_map, list_any}
use Rattle.std.proofs.lemmas.Cmp.{nat_eq_equiv}
use Rattle.std.specs.List.Retain.{DiffersFromLast, IsFiltered}
use Rattle.std.specs.List.Sorted.{IsPermutation}
use Rattle.std.proofs.lemmas.Bool.{eqb-true}
use Rattle.std.proofs.lemmas.Bool.Decides.{nat_tests}
use Rattle.std.proofs.lemmas.Grind.{flat_map-append}
use Rattle.std.proofs.lemmas.List.{map-append}
use Rattle.std.proofs.lemmas.List.Filters.{dedup_is}
use Rattle.std.proofs.lemmas.List.Folds.{list_any-append}
use Rattle.std.proofs.lemmas.List.Kept.{Contains-dedup_nat}
use Rattle.std.proofs.lemmas.List.Sorted.{list_any-IsPermutation}
use Rattle.std.proofs.lemmas.Map.Keys.{IsDistinct-head, IsDistinct-tail}
use Rattle.std.proofs.lemmas.Map.Views.{Contains-from_any, list_any-from_Contains}
use Rattle.protobuf_parse_rules.specs.Claims.{Thing, conflict, conflicts, first_claim}
use Rattle.protobuf_parse_rules.specs.Claims.{same_thing}
use Rattle.protobuf_parse_rules.specs.Crowds.{how_many, one_if}
use Rattle.protobuf_parse_rules.specs.Keys.{is_package, keys_at, name_key, text_key}
use Rattle.protobuf_parse_rules.specs.Names.{Named, name_claim, name_rule, name_taken}
use Rattle.protobuf_parse_rules.specs.Rules.{breaches_at}
use Rattle.protobuf_parse_rules.specs.Wanted.{IsLone, has_key}
use Rattle.protobuf_parse_rules.specs.declared.kind.NamedKind.{NamedKind}
use Rattle.protobuf_parse_rules.specs.declared.kind.NamedKind.TheVariants as kind
use Rattle.protobuf_parse_rules.proofs.Claiming.{site_of_claim, thing_is}
use Rattle.protobuf_parse_model.proofs.Ascending.{eqb_comm}

-- ---- how often a number stands in a list

pub how_many-append : (k : ℕ) (xs ys : List ℕ)
    → how_many k (xs ++ ys) ≡ how_many k xs + how_many k ys
how_many-append k [] ys = omega arith
how_many-append k (x ∷ xs) ys = omega (arith, how_many-append k xs ys)

none_of : (k : ℕ) (xs : List ℕ) → AllByRecursion (λ y. eqb k y ≡ false) xs → how_many k xs ≡ 0
none_of k [] h = refl
none_of k (x ∷ xs) h =
    let apart : one_if (eqb x k) ≡ 0 = ap one_if (eqb_comm x k ∙ h.0) in
    omega (arith, apart, none_of k xs h.1)

pub few : (xs : List ℕ) → IsDistinct eqb xs → (k : ℕ) → how_many k xs ≤ 1
few [] h k = omega arith
few (x ∷ xs) h k = at (eqb x k) refl (few xs (IsDistinct-tail eqb x xs h) k)
  where
    at : (b : Bool) → eqb x k ≡ b → how_many k xs ≤ 1 → how_many k (x ∷ xs) ≤ 1
    at true e more =
        let zero : how_many k xs ≡ 0 = none_of k xs
        (subst (λ z. AllByRecursion (λ y. eqb z y ≡ false) xs) (eqb-true x k e)
        (IsDistinct-head eqb x xs h)) in
        let one : one_if (eqb x k) ≡ 1 = ap one_if e in
        omega (arith, zero, one)
    at false e more =
        let none : one_if (eqb x k) ≡ 0 = ap one_if e in
        omega (arith, none, more)

pub some_of : (k : ℕ) (xs : List ℕ) → list_any (eqb k) xs ≡ true → 1 ≤ how_many k xs
some_of k [] h = absurd cc
some_of k (x ∷ xs) h = at (eqb k x) refl h (some_of k xs)
  where
    at : (b : Bool) → eqb k x ≡ b → (b || list_any (eqb k) xs) ≡ true
        → (list_any (eqb k) xs ≡ true → 1 ≤ how_many k xs) → 1 ≤ how_many k (x ∷ xs)
    at true e h more =
        let one : one_if (eqb x k) ≡ 1 = ap one_if (eqb_comm x k ∙ e) in
        omega (arith, one)
    at false e h more = omega (arith, more h)

pub eqb_same : (a b : ℕ) → a ≡ b → eqb a b ≡ true
eqb_same a b e = grind (arith, nat_tests)

or_true : (b : Bool) → (b || true) ≡ true
or_true true = refl
or_true false = refl

-- ---- names

kind_is : (k : NamedKind) → is_package k ≡ true → k ≡ kind.Package
kind_is kind.Package e = refl
kind_is kind.Message e = absurd cc
kind_is kind.Field e = absurd cc
kind_is kind.Oneof e = absurd cc
kind_is kind.Enum e = absurd cc
kind_is kind.EnumValue e = absurd cc
kind_is kind.Extension e = absurd cc
kind_is kind.Service e = absurd cc
kind_is kind.Method e = absurd cc

abbrev own : List Named → List ℕ
own ns = flat_map (keys_at false) ns

-- a name of what is no package has its key
own_key : (n : Named) (k : ℕ) → is_package n.kind ≡ false → name_key n ≡ k
    → how_many k (keys_at false n) ≡ 1
own_key n k other same =
    let there : keys_at false n ≡ name_key n ∷ [] =
    ap (λ b. cond (not b) (name_key n ∷ []) []) other in
    let one : one_if (eqb (name_key n) k) ≡ 1 = ap one_if (eqb_same (name_key n) k same) in
    ap (how_many k) there ∙ ap (λ x. x + 0) one

all_more : {X : Type 0} (P : X → Type 0) (xs : List X) (x : X) → AllByRecursion P xs → P x
    → AllByRecursion P (xs ++ x ∷ [])
all_more P [] x h there = (there, tt)
all_more P (y ∷ ys) x h there = (h.0, all_more P ys x h.1 there)

module _ (has : ℕ → Bool) where
  -- a package's key is one of these
  abbrev IsKept : Named → Type 0
  IsKept n = is_package n.kind ≡ true → has (name_key n) ≡ true

  -- two things of one name are packages
  one_name : (m n : Named) → name_key m ≡ name_key n
      → how_many (name_key n) (keys_at false m) + how_many (name_key n) (keys_at false n)
      + one_if (has (name_key n)) ≤ 1
      → IsKept m → IsKept n → name_taken m.file n.kind m.kind ≡ None
  one_name m n same few m_kept n_kept = at (is_package m.kind) (is_package n.kind) refl refl
    where
      at : (p q : Bool) → is_package m.kind ≡ p → is_package n.kind ≡ q
          → name_taken m.file n.kind m.kind ≡ None
      at true true p q =
          ap (λ k. name_taken m.file k m.kind) (kind_is n.kind q)
          ∙ ap (name_taken m.file kind.Package) (kind_is m.kind p)
      at true false p q =
          let one = own_key n (name_key n) q refl in
          let there : one_if (has (name_key n)) ≡ 1 =
          ap one_if (ap has (sym same) ∙ m_kept p) in
          absurd (omega (arith, one, there, few))
      at false true p q =
          let one = own_key m (name_key n) p same in
          let there : one_if (has (name_key n)) ≡ 1 = ap one_if (n_kept q) in
          absurd (omega (arith, one, there, few))
      at false false p q =
          let one = own_key m (name_key n) p same in
          let other = own_key n (name_key n) q refl in
          absurd (omega (arith, one, other, few))

  no_other : (before : List Named) (n : Named)
      → ((k : ℕ) → how_many k (own before) + how_many k (keys_at false n)
      + one_if (has k) ≤ 1)
      → AllByRecursion IsKept before → IsKept n
      → conflict name_rule (name_claim n)
      (first_claim (map name_claim before) (name_claim n).thing) ≡ []
  no_other [] n few kept n_kept = refl
  no_other (m ∷ ms) n few kept n_kept =
      at (same_thing (name_claim m).thing (name_claim n).thing) refl
      (no_other ms n (λ k. fewer k (few k)) kept.1 n_kept)
    where
      whole : (k : ℕ) → how_many k (own (m ∷ ms))
          ≡ how_many k (keys_at false m) + how_many k (own ms)
      whole k = how_many-append k (keys_at false m) (own ms)

      fewer : (k : ℕ) → how_many k (own (m ∷ ms)) + how_many k (keys_at false n)
          + one_if (has k) ≤ 1
          → how_many k (own ms) + how_many k (keys_at false n) + one_if (has k) ≤ 1
      fewer k h = omega (arith, whole k, h)

      nearer : (k : ℕ) → how_many k (own (m ∷ ms)) + how_many k (keys_at false n)
          + one_if (has k) ≤ 1
          → how_many k (keys_at false m) + how_many k (keys_at false n)
          + one_if (has k) ≤ 1
      nearer k h = omega (arith, whole k, h)

      at : (b : Bool) → same_thing (name_claim m).thing (name_claim n).thing ≡ b
          → conflict name_rule (name_claim n)
          (first_claim (map name_claim ms) (name_claim n).thing) ≡ []
          → conflict name_rule (name_claim n) (cond b (Some (name_claim m))
          (first_claim (map name_claim ms) (name_claim n).thing)) ≡ []
      at true e more = ap (λ o. breaches_at (site_of_claim (name_claim n)) (o ∷ []))
          (one_name m n (ap (λ (t : Thing). text_key t.name)
          (thing_is (name_claim m).thing (name_claim n).thing e))
          (nearer (name_key n) (few (name_key n))) kept.0 n_kept)
      at false e more = more

  no_more : (before ns : List Named)
      → ((k : ℕ) → how_many k (own before) + how_many k (own ns) + one_if (has k) ≤ 1)
      → AllByRecursion IsKept before → AllByRecursion IsKept ns
      → conflicts name_rule (map name_claim before) (map name_claim ns) ≡ []
  no_more before [] few kept more = refl
  no_more before (n ∷ ns) few kept more =
      ap (λ bs. bs
      ++ conflicts name_rule (map name_claim before ++ name_claim n ∷ []) (map name_claim ns))
      (no_other before n (λ k. first k (few k)) kept more.0)
      ∙ ap (λ cs. conflicts name_rule cs (map name_claim ns))
      (sym (map-append name_claim before (n ∷ [])))
      ∙ no_more (before ++ n ∷ []) ns (λ k. next k (few k)) (all_more IsKept before n kept more.0)
      more.1
    where
      whole : (k : ℕ) → how_many k (own (n ∷ ns))
          ≡ how_many k (keys_at false n) + how_many k (own ns)
      whole k = how_many-append k (keys_at false n) (own ns)

      longer : (k : ℕ) → how_many k (own (before ++ n ∷ []))
          ≡ how_many k (own before) + how_many k (keys_at false n)
      longer k =
          ap (how_many k) (flat_map-append (keys_at false) before (n ∷ []))
          ∙ how_many-append k (own before) (keys_at false n ++ [])
          ∙ ap (λ xs. how_many k (own before) + how_many k xs) (append-nil (keys_at false n))

      first : (k : ℕ) → how_many k (own before) + how_many k (own (n ∷ ns))
          + one_if (has k) ≤ 1
          → how_many k (own before) + how_many k (keys_at false n) + one_if (has k) ≤ 1
      first k h = omega (arith, whole k, h)

      next : (k : ℕ) → how_many k (own before) + how_many k (own (n ∷ ns))
          + one_if (has k) ≤ 1
          → how_many k (own (before ++ n ∷ [])) + how_many k (own ns)
          + one_if (has k) ≤ 1
      next k h = omega (arith, whole k, longer k, h)

  kept_all : (ns : List Named)
      → ((k : ℕ) → has_key (flat_map (keys_at true) ns) k ≡ true → has k ≡ true)
      → AllByRecursion IsKept ns
  kept_all [] h = tt
  kept_all (n ∷ ns) h = (
    λ p. h (name_key n) (list_any-append (eqb (name_key n)) (keys_at true n)
        (flat_map (keys_at true) ns)
        ∙ ap (λ b. b || list_any (eqb (name_key n)) (flat_map (keys_at true) ns)) (own_kept p)),
    kept_all ns (λ k e. h k (list_any-append (eqb k) (keys_at true n) (flat_map (keys_at true) ns)
        ∙ ap (λ b. list_any (eqb k) (keys_at true n) || b) e
        ∙ or_true (list_any (eqb k) (keys_at true n)))),
  )
    where
      own_kept : is_package n.kind ≡ true → list_any (eqb (name_key n)) (keys_at true n) ≡ true
      own_kept p =
          let there : keys_at true n ≡ name_key n ∷ [] =
          ap (λ b. cond b (name_key n ∷ []) []) p in
          ap (list_any (eqb (name_key n))) there
          ∙ ap (λ b. b || false) (eqb_same (name_key n) (name_key n) refl)

-- Where at most one has each key, no name is in use.
pub lone_names : (ns : List Named) → ((k : ℕ) → IsLone ns k)
    → conflicts name_rule [] (map name_claim ns) ≡ []
lone_names ns lone =
    let has : ℕ → Bool = has_key (flat_map (keys_at true) ns) in
    no_more has [] ns (λ k. small k (lone k)) tt (kept_all has ns (λ k e. e))
  where
    small : (k : ℕ) → IsLone ns k
        → 0 + how_many k (own ns) + one_if (has_key (flat_map (keys_at true) ns) k) ≤ 1
    small k h = omega (arith, h)

-- ---- where keys are counted

some_once : (has : Bool) (n : ℕ) → (has ≡ true → 1 ≤ n) → one_if has ≤ n
some_once true n h = h refl
some_once false n h = omega arith

-- A number of a list stands in what is left of it once it is sorted and no number follows itself.
pub kept_once : (keys sorted once : List ℕ) → IsPermutation keys sorted
    → IsFiltered (DiffersFromLast eqb) [] sorted once → (k : ℕ)
    → list_any (eqb k) keys ≡ true → list_any (eqb k) once ≡ true
kept_once keys sorted once moved filtered k there =
    let found = Contains-from_any eqb-true k sorted
    (sym (list_any-IsPermutation (eqb k) keys sorted moved) ∙ there) in
    list_any-from_Contains nat_eq_equiv k once
    (subst (λ xs. Contains xs k) (sym (dedup_is eqb sorted once filtered))
    (Contains-dedup_nat sorted k found))

-- Where few others and packages have a key, at most one name has it.
pub lone_of : (ns : List Named) (once : List ℕ) (k : ℕ)
    → how_many k (flat_map (keys_at false) ns ++ once) ≤ 1
    → (has_key (flat_map (keys_at true) ns) k ≡ true → has_key once k ≡ true) → IsLone ns k
lone_of ns once k h kept =
    let packages = some_once (has_key (flat_map (keys_at true) ns) k) (how_many k once)
    (λ e. some_of k once (kept e)) in
    omega (arith, h, packages, how_many-append k (flat_map (keys_at false) ns) once)
