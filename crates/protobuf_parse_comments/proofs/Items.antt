-- What is left of a list behind its first elements.
use Rattle.std.proofs.Common.{◌≡◌, ◌∙◌, ℕ, zero, suc, ◌+◌, ◌<◌, ◌≤◌, List, [], ◌∷◌, ap, arith}
use Rattle.std.proofs.Common.{drop, get_or, length, map, refl, sym}

pub left_none : {A B : Type 0} (f : A → B) (xs : List A) (i : ℕ) → length xs ≤ i
    → map f (drop i xs) ≡ []
left_none f [] zero h = refl
left_none f [] (suc i) h = refl
left_none f (y ∷ ys) zero h = absurd (omega arith)
left_none f (y ∷ ys) (suc i) h = left_none f ys i (omega arith)

pub left_end : (xs : List ℕ) (i : ℕ) → length xs ≤ i → drop i xs ≡ []
left_end [] zero h = refl
left_end [] (suc i) h = refl
left_end (y ∷ ys) zero h = absurd (omega arith)
left_end (y ∷ ys) (suc i) h = left_end ys i (omega arith)

pub left_at : {A B : Type 0} (f : A → B) (xs : List A) (i : ℕ) (d : A) → i < length xs
    → map f (drop i xs) ≡ f (get_or xs i d) ∷ map f (drop (i + 1) xs)
left_at f [] i d h = absurd (omega arith)
left_at f (y ∷ ys) zero d h = refl
left_at {B = B} f (y ∷ ys) (suc i) d h =
    let k : suc i + 1 ≡ suc (i + 1) = omega arith in
    left_at f ys i d (omega arith)
    ∙ ap (λ (n : ℕ). f (get_or ys i d) ∷ map f (drop n (y ∷ ys))) (sym k)
