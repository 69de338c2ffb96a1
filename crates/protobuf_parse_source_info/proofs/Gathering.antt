-- Lists that are joined, an item at a time.
use Rattle.std.proofs.Common.{◌≡◌, ℕ, zero, suc, ◌+◌, ◌<◌, ◌≤◌, List, [], ◌∷◌, ◌++◌, length, drop}
use Rattle.std.proofs.Common.{flat_map, refl, sym, ap, ◌∙◌, arith, get_or, append_assoc}
use Rattle.std.proofs.lemmas.List.{append-nil}

flat_left : {A B : Type 0} (f : A → List B) (xs : List A) (i : ℕ) (x : A) → i < length xs
    → x ≡ get_or xs i x → flat_map f (drop i xs) ≡ f x ++ flat_map f (drop (i + 1) xs)
flat_left f [] i x h e = absurd (omega arith)
flat_left f (y ∷ ys) zero x h e = ap (λ z. f z ++ flat_map f ys) (sym e)
flat_left f (y ∷ ys) (suc i) x h e =
    let k : suc i + 1 ≡ suc (i + 1) = omega arith in
    flat_left f ys i x (omega arith) e
    ∙ ap (λ (n : ℕ). f x ++ flat_map f (drop n (y ∷ ys))) (sym k)

flat_none : {A B : Type 0} (f : A → List B) (xs : List A) (i : ℕ) → length xs ≤ i
    → flat_map f (drop i xs) ≡ []
flat_none f [] zero h = refl
flat_none f [] (suc i) h = refl
flat_none f (y ∷ ys) zero h = absurd (omega arith)
flat_none f (y ∷ ys) (suc i) h = flat_none f ys i (omega arith)

module _ {A B : Type 0} (f : A → List B) where
  pub gather_step : (xs : List A) (i : ℕ) (x : A) (found now all : List B) → i < length xs
      → x ≡ get_or xs i x → now ≡ found ++ f x → found ++ flat_map f (drop i xs) ≡ all
      → now ++ flat_map f (drop (i + 1) xs) ≡ all
  gather_step xs i x found now all h is e whole =
      let rest : List B = flat_map f (drop (i + 1) xs) in
      ap (λ (l : List B). l ++ rest) e
      ∙ append_assoc found (f x) rest
      ∙ ap (λ (l : List B). found ++ l) (sym (flat_left f xs i x h is))
      ∙ whole

  pub gather_end : (xs : List A) (i : ℕ) (found all : List B) → length xs ≤ i
      → found ++ flat_map f (drop i xs) ≡ all → found ≡ all
  gather_end xs i found all h whole =
      sym (append-nil found) ∙ ap (λ (l : List B). found ++ l) (sym (flat_none f xs i h)) ∙ whole

  any_default : (xs : List A) (i : ℕ) (d e : A) → i < length xs → get_or xs i d ≡ get_or xs i e
  any_default [] i d e h = absurd (omega arith)
  any_default (y ∷ ys) zero d e h = refl
  any_default (y ∷ ys) (suc i) d e h = any_default ys i d e (omega arith)

  -- the same, where the item is read with a default
  pub gather_at : (xs : List A) (i : ℕ) (d : A) (found now all : List B) → i < length xs
      → now ≡ found ++ f (get_or xs i d) → found ++ flat_map f (drop i xs) ≡ all
      → now ++ flat_map f (drop (i + 1) xs) ≡ all
  gather_at xs i d found now all h e whole =
      let x = get_or xs i d in
      gather_step xs i x found now all h (any_default xs i d x h) e whole
