-- Counts over lists, an item at a time.
use Rattle.std.proofs.Common.{◌≡◌, ℕ, zero, suc, ◌+◌, ◌<◌, ◌≤◌, List, [], ◌∷◌, length, map, drop}
use Rattle.std.proofs.Common.{fold, refl, sym, ap, ◌∙◌, arith, get_or}
use Rattle.protobuf_parse_source_info.specs.Parts.{next}
use Rattle.protobuf_parse_source_info.specs.Declarations.{past_items}
use Rattle.protobuf_parse_source_info.proofs.Bodies.{left_items, left_none}

pub past_step : {A : Type 0} (xs : List A) (i n m : ℕ) → i < length xs → m ≡ next n
    → past_items m (drop (i + 1) xs) ≡ past_items n (drop i xs)
past_step [] i n m h e = absurd (omega arith)
past_step (y ∷ ys) zero n m h e = ap (λ (k : ℕ). past_items k ys) e
past_step (y ∷ ys) (suc i) n m h e =
    let k : suc i + 1 ≡ suc (i + 1) = omega arith in
    ap (λ (j : ℕ). past_items m (drop j (y ∷ ys))) k ∙ past_step ys i n m (omega arith) e

pub past_end : {A : Type 0} (xs : List A) (i n : ℕ) → length xs ≤ i → past_items n (drop i xs) ≡ n
past_end [] zero n h = refl
past_end [] (suc i) n h = refl
past_end (y ∷ ys) zero n h = absurd (omega arith)
past_end (y ∷ ys) (suc i) n h = past_end ys i n (omega arith)

-- a fold over what is left of a list
module _ {A B C : Type 0} (f : A → B) (step : C → B → C) where
  pub fold_step : (xs : List A) (i : ℕ) (x : A) (c c' : C) → i < length xs → x ≡ get_or xs i x
      → c' ≡ step c (f x)
      → fold step c' (map f (drop (i + 1) xs)) ≡ fold step c (map f (drop i xs))
  fold_step xs i x c c' h is e =
      ap (λ (k : C). fold step k (map f (drop (i + 1) xs))) e
      ∙ ap (fold step c) (sym (left_items f xs i x h is))

  pub fold_end : (xs : List A) (i : ℕ) (c : C) → length xs ≤ i
      → fold step c (map f (drop i xs)) ≡ c
  fold_end xs i c h = ap (fold step c) (left_none f xs i h)

pub past_map : {A B : Type 0} (f : A → B) (i : ℕ) (xs : List A)
    → past_items i (map f xs) ≡ past_items i xs
past_map f i [] = refl
past_map f i (x ∷ xs) = past_map f (next i) xs
