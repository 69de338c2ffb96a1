-- The numbers of files, one after another.
use Rattle.std.proofs.Common.{◌≡◌, ◌∙◌, ◌<◌, ◌+◌, ◌⊎◌, ℕ, Bool, true, false, ◌||◌, List, [], ◌∷◌}
use Rattle.std.proofs.Common.{◌++◌, Option, Some, ap, get_or, inl, inr, length, nat_eq, refl}
use Rattle.std.proofs.Common.{sym, take, Err, Ok, Result}
use Rattle.std.specs.Borrow.{Bor}
use Rattle.std.specs.List.{list_any}
use Rattle.std.specs.List.Sorted.{IsBinarySearchResult, IsStrictlyIncreasing}
use Rattle.std.specs.Ordering.{nat_cmp}
use Rattle.std.specs.Result.{is_err}
use Rattle.std.specs.Prelude.{option_copied, slice_get}
use Rattle.std.proofs.lemmas.Bool.{eq-eqb, eqb-true}
use Rattle.std.proofs.lemmas.List.{take_more}
use Rattle.std.proofs.lemmas.List.Elements.{Contains-get_or}
use Rattle.std.proofs.lemmas.List.Folds.{list_any-append}
use Rattle.protobuf_parse_model.proofs.Scopes.{searched-any}
use Rattle.protobuf_parse_run.specs.Loading.{LoadedEntry}
use Rattle.protobuf_parse_run.proofs.Faulty.{any-number}
use Rattle.protobuf_parse_run.proofs.Keeping.{or_cases, or_left, or_right}
use Rattle.protobuf_parse_check.specs.Judging.{IsBelow}

-- the number at a place is among them
pub number-there : (ns : List ℕ) (i : ℕ) → i < length ns
    → list_any (nat_eq (get_or ns i 0)) ns ≡ true
number-there ns i lt =
    any-number (nat_eq (get_or ns i 0)) ns (get_or ns i 0) (Contains-get_or ns i 0 lt)
    (eq-eqb (get_or ns i 0) (get_or ns i 0) refl)

-- one number more
pub any-more : (n : ℕ) (ns : List ℕ) (i : ℕ) → i < length ns
    → list_any (nat_eq n) (take (i + 1) ns) ≡ true
    → (list_any (nat_eq n) (take i ns) ≡ true) ⊎ (n ≡ get_or ns i 0)
any-more n ns i lt h =
    let parts : (list_any (nat_eq n) (take i ns) || (nat_eq n (get_or ns i 0) || false)) ≡ true =
    sym (list_any-append (nat_eq n) (take i ns) (get_or ns i 0 ∷ []))
    ∙ ap (list_any (nat_eq n)) (sym (take_more ns i 0 lt)) ∙ h in
    elim (or_cases (list_any (nat_eq n) (take i ns)) (nat_eq n (get_or ns i 0) || false) parts) [
      | inl w ↦ inl w
      | inr w ↦ inr (eqb-true n (get_or ns i 0) (or_false (nat_eq n (get_or ns i 0)) w))
    ]
  where
    or_false : (b : Bool) → (b || false) ≡ true → b ≡ true
    or_false true h = refl
    or_false false h = cc

pub any-left : (n : ℕ) (xs ys : List ℕ) → list_any (nat_eq n) xs ≡ true
    → list_any (nat_eq n) (xs ++ ys) ≡ true
any-left n xs ys h = list_any-append (nat_eq n) xs ys
    ∙ or_left (list_any (nat_eq n) xs) (list_any (nat_eq n) ys) h

pub any-last : (n m : ℕ) (xs : List ℕ) → n ≡ m → list_any (nat_eq n) (xs ++ m ∷ []) ≡ true
any-last n m xs is = list_any-append (nat_eq n) xs (m ∷ [])
    ∙ or_right (list_any (nat_eq n) xs) (nat_eq n m || false)
    (or_left (nat_eq n m) false (eq-eqb n m is))

-- the file with a number among these reaches those numbers
pub below-at : (loaded : List LoadedEntry) (reach : List ℕ) (n : ℕ)
    (o : Option (Bor LoadedEntry)) (x : Bor LoadedEntry) → option_copied o ≡ slice_get loaded n
    → list_any (nat_eq n) reach ≡ true → o ≡ Some x
    → IsBelow loaded reach x.now.1.reach.items
below-at loaded reach n o x is m at =
    inr (n, x.now, m, sym is ∙ ap option_copied at, refl)

-- a number that is found is among them
pub found-there : (below : List ℕ) (n : ℕ) (r : Result ℕ ℕ) → IsStrictlyIncreasing below
    → IsBinarySearchResult (λ m. nat_cmp m n) below r → is_err r ≡ false
    → list_any (nat_eq n) below ≡ true
found-there below n (Ok i) up is found = sym (searched-any below n (Ok i) up is)
found-there below n (Err i) up is found = cc
