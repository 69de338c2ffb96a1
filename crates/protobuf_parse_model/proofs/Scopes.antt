-- Look-up from the innermost scope outward, full name by full name.
use Rattle.std.proofs.Common.{◌≡◌, ℕ, ◌<◌, ◌≤◌, List, [], ◌∷◌, ◌++◌, length, map, drop, get_or}
use Rattle.std.proofs.Common.{Bool, true, false, if◌then◌else◌, Option, Some, None, refl, sym, ◌∙◌}
use Rattle.std.proofs.Common.{ap, arith, Result, Ok, Err, nat_eq, inl, inr, append_assoc}
use Rattle.std.proofs.Common.{append-nil}
use Rattle.std.specs.Borrow.{Bor}
use Rattle.std.specs.Option.{option_or}
use Rattle.std.specs.Result.{is_ok}
use Rattle.std.specs.List.{IsLastAndRest, list_any}
use Rattle.std.specs.List.Sorted.{IsBinarySearchResult, IsStrictlyIncreasing}
use Rattle.std.specs.Ordering.{nat_cmp}
use Rattle.std.proofs.lemmas.Bool.{cases_lt, eq-eqb, ne_eqb}
use Rattle.std.proofs.lemmas.List.Elements.{All-from_get_or}
use Rattle.std.proofs.lemmas.List.Folds.{list_any_at, list_any_none}
use Rattle.std.proofs.lemmas.List.Sorted.{searched}
use Rattle.std.proofs.lemmas.Map.Keys.{non_decreasing_from_sorted, sorted_from_strictly_increasing}
use Rattle.std.proofs.lemmas.List.{map-append}
use Rattle.protobuf_parse_base.specs.Names.{absolute_text, fronts}
use Rattle.protobuf_parse_base.proofs.Fronts.{fronts-push}
use Rattle.protobuf_parse_base.proofs.NameTexts.{absolute_text-append}
use Rattle.protobuf_parse_model.specs.Descriptors.{Text}
use Rattle.protobuf_parse_model.specs.SeenFiles.{name_texts}
use Rattle.protobuf_parse_model.specs.Declarations.{Declared, Scope, full_name}
use Rattle.protobuf_parse_model.specs.Lookup.{Meanings, begins_with_dot, declared_in_first, meant}
use Rattle.protobuf_parse_model.specs.Outward.{first_name, full_names, later_names}
use Rattle.protobuf_parse_model.specs.Outward.{names_outward}
use Rattle.protobuf_parse_model.specs.declared.scope.outward.Outward.{Outward}

-- what the first of these full names means that means something
abbrev pub first_meant : {A : Type 0} → Meanings A → List Text → Option (Declared A)
first_meant of [] = None
first_meant of (name ∷ names) = option_or (of name) (first_meant of names)

module _ {A : Type 0} (of : Meanings A) where
  among_fronts : (name : Text) (scopes : List Scope)
      → first_meant of (map (λ scope. full_name scope name) scopes)
      ≡ declared_in_first of name scopes
  among_fronts name [] = refl
  among_fronts name (scope ∷ scopes) =
      ap (option_or (of (full_name scope name))) (among_fronts name scopes)

  alone : (o : Option (Declared A)) → option_or o None ≡ o
  alone None = refl
  alone (Some d) = refl

  pub first_meant-full_names : (scope : Scope) (name : Text)
      → first_meant of (full_names scope name) ≡ meant of scope name
  first_meant-full_names scope name = by (begins_with_dot name)
    where
      by : (b : Bool) → first_meant of (if b then name ∷ [] else names_outward scope name)
          ≡ (if b then of name else declared_in_first of name (fronts scope))
      by true = alone (of name)
      by false = among_fronts name (fronts scope)

-- ** the full names from a scope outward

head_apart : {X : Type 0} (xs ys : List X) (x : X) → xs ≡ x ∷ ys → xs ≡ x ∷ drop 1 xs
head_apart xs ys x e = e ∙ sym (ap (λ all. x ∷ drop 1 all) e)

fronts-first : {X : Type 0} (xs : List X) → fronts xs ≡ xs ∷ drop 1 (fronts xs)
fronts-first [] = refl
fronts-first (x ∷ xs) =
    head_apart _ _ _ (ap (λ all. map (λ front. x ∷ front) all ++ ([] ∷ [])) (fronts-first xs))

-- that in the scope stands first
pub names_outward-first : (scope : Scope) (name : Text)
    → names_outward scope name ≡ full_name scope name ∷ drop 1 (names_outward scope name)
names_outward-first scope name =
    head_apart _ _ _ (ap (map (λ front. full_name front name)) (fronts-first scope))

-- with the last name of the scope set apart
module _ (names : Outward) (outer : List (Bor (List ℕ))) (last : Bor (List ℕ))
    (apart : IsLastAndRest names.scope.now last outer) where
  abbrev front : Scope
  front = name_texts outer

  abbrev name : Text
  name = names.name.now

  texts_apart : name_texts names.scope.now ≡ front ++ last.now ∷ []
  texts_apart = ap name_texts apart.0 ∙ map-append (λ (s : Bor (List ℕ)). s.now) outer (last ∷ [])

  pub first_name-apart : first_name names ≡ absolute_text front ++ 46 ∷ (last.now ++ 46 ∷ name)
  first_name-apart =
      names.in_scope (omega (arith, apart.1)) ∙ ap (λ texts. full_name texts name) texts_apart
      ∙ ap (λ t. t ++ 46 ∷ name) (absolute_text-append front (last.now ∷ []))
      ∙ append_assoc (absolute_text front) (46 ∷ (last.now ++ [])) (46 ∷ name)
      ∙ ap (λ t. absolute_text front ++ 46 ∷ (t ++ 46 ∷ name)) (append-nil last.now)

  pub later_names-apart : later_names names
      ≡ full_name front name ∷ drop 1 (names_outward front name)
  later_names-apart =
      ap (λ texts. drop 1 (names_outward texts name)) texts_apart
      ∙ ap (λ all. drop 1 (map (λ scope. full_name scope name) all)) (fronts-push front last.now)
      ∙ names_outward-first front name

-- ** a search among ascending numbers

pub searched-any : (xs : List ℕ) (x : ℕ) (r : Result ℕ ℕ) → IsStrictlyIncreasing xs
    → IsBinarySearchResult (λ y. nat_cmp y x) xs r → is_ok r ≡ list_any (nat_eq x) xs
searched-any xs x (Ok i) rises is =
    let h = searched xs x (Ok i) is
    (λ i j le lt. non_decreasing_from_sorted xs
    (sorted_from_strictly_increasing xs rises) i j 0 le lt) in
    sym (list_any_at (nat_eq x) xs i 0 h.0 (eq-eqb x (get_or xs i 0) (sym h.1)))
searched-any xs x (Err i) rises is =
    let h = searched xs x (Err i) is
    (λ i j le lt. non_decreasing_from_sorted xs
    (sorted_from_strictly_increasing xs rises) i j 0 le lt) in
    sym (list_any_none (nat_eq x) xs
    (All-from_get_or (λ y. nat_eq x y ≡ false) xs 0
    (λ k lt. ne_eqb x (get_or xs k 0) (apart h.1 h.2 k lt))))
  where
    apart : ((k : ℕ) → k < i → get_or xs k 0 < x)
        → ((k : ℕ) → i ≤ k → k < length xs → x < get_or xs k 0) → (k : ℕ) → k < length xs
        → x ≡ get_or xs k 0 → ⊥
    apart below above k lt same =
        elim (cases_lt k i) [
          | inl less ↦ let z = below k less in absurd (omega (arith, z, same))
          | inr le ↦ let z = above k le lt in absurd (omega (arith, z, same))
        ]
