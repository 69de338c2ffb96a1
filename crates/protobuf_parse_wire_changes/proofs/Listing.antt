-- Lists of what each element gives, element after element, as a loop goes.
use Rattle.std.proofs.Common.{◌≡◌, ℕ, ◌+◌, ◌<◌, List, [], ◌∷◌, ◌++◌, length, get_or, drop, map}
use Rattle.std.proofs.Common.{refl, sym, ap, ◌∙◌, append_assoc, drop-cons, add-one}
use Rattle.std.proofs.lemmas.List.{append-nil}
use Rattle.std.specs.List.{flat_map}

-- What is listed and what the elements from that position on give are all.
pub record ToList {T X A : Type 0} (view : T → X) (give : X → List A) (listed : List A) (i : ℕ)
    (xs : List T) (all : List A) : Type 0 where
  pub so_far : listed ++ flat_map give (map view (drop i xs)) ≡ all

pub begins : {T X A : Type 0} (view : T → X) (give : X → List A) (listed : List A) (xs : List T)
    → ToList view give listed 0 xs (listed ++ flat_map give (map view xs))
begins view give listed xs = record { so_far = refl }

-- one element more
pub goes_on : {T X A : Type 0} (view : T → X) (give : X → List A) (listed now : List A) (i : ℕ)
    (xs : List T) (x : T) (all : List A) → i < length xs → x ≡ get_or xs i x
    → now ≡ listed ++ give (view x) → ToList view give listed i xs all
    → ToList view give now (i + 1) xs all
goes_on {T} {A = A} view give listed now i xs x all below is more left =
    let rest : List A = flat_map give (map view (drop (i + 1) xs)) in
    let step : drop i xs ≡ x ∷ drop (i + 1) xs = rw (add-one, drop-cons xs i x, ← is) refl in
    record {
      so_far = ap (λ (ys : List A). ys ++ rest) more
          ∙ append_assoc listed (give (view x)) rest
          ∙ sym (ap (λ (ys : List T). listed ++ flat_map give (map view ys)) step)
          ∙ left.so_far;
    }

-- No element is left.
pub is_done : {T X A : Type 0} (view : T → X) (give : X → List A) (listed : List A) (i : ℕ)
    (xs : List T) (all : List A) → drop i xs ≡ [] → ToList view give listed i xs all
    → listed ≡ all
is_done {T} view give listed i xs all none left =
    sym (append-nil listed)
    ∙ sym (ap (λ (ys : List T). listed ++ flat_map give (map view ys)) none) ∙ left.so_far
