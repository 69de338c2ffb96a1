-- Lists of parts, one after the other.
use Rattle.std.proofs.Common.{◌≡◌, ℕ, zero, suc, ◌+◌, ◌<◌, ◌≤◌, List, [], ◌∷◌, length, map, drop}
use Rattle.std.proofs.Common.{refl, sym, ap, ◌∙◌, arith, get_or}
use Rattle.protobuf_parse_source_info.specs.Walks.{Walk, ◌>>◌}
use Rattle.protobuf_parse_source_info.specs.InnerViews.{Doing, ran, Takes}
use Rattle.protobuf_parse_source_info.proofs.Steps.{ran_then}

-- what is to do is what was taken and the rest
pub goes_on : (w : Walk) {v : Walk} {d d1 : Doing} → Takes v d d1 → ran w d1 ≡ ran (v >> w) d
goes_on w {v} {d} e = ap (ran w) e.is ∙ ran_then v w d

pub left_items : {A B : Type 0} (f : A → B) (xs : List A) (i : ℕ) (x : A) → i < length xs
    → x ≡ get_or xs i x → map f (drop i xs) ≡ f x ∷ map f (drop (i + 1) xs)
left_items f [] i x h e = absurd (omega arith)
left_items {B = B} f (y ∷ ys) zero x h e = ap (λ (b : B). b ∷ map f ys) (ap f (sym e))
left_items {B = B} f (y ∷ ys) (suc i) x h e =
    let k : suc i + 1 ≡ suc (i + 1) = omega arith in
    left_items f ys i x (omega arith) e
    ∙ ap (λ (n : ℕ). f x ∷ map f (drop n (y ∷ ys))) (sym k)

pub left_none : {A B : Type 0} (f : A → B) (xs : List A) (i : ℕ) → length xs ≤ i
    → map f (drop i xs) ≡ []
left_none f [] zero h = refl
left_none f [] (suc i) h = refl
left_none f (y ∷ ys) zero h = absurd (omega arith)
left_none f (y ∷ ys) (suc i) h = left_none f ys i (omega arith)

-- A walk over a list, an item at a time, where something is counted.
module _ {A B C : Type 0} (f : A → B) (walk : C → List B → Walk) (item : C → B → Walk)
    (next : C → B → C) where
  pub list_step :
      ((c : C) (s : B) (ss : List B) → walk c (s ∷ ss) ≡ item c s >> walk (next c s) ss)
      → (xs : List A) (i : ℕ) (x : A) (c c' : C) (d d2 d0 : Doing) → i < length xs
      → x ≡ get_or xs i x → c' ≡ next c (f x) → Takes (item c (f x)) d d2
      → ran (walk c (map f (drop i xs))) d ≡ d0
      → ran (walk c' (map f (drop (i + 1) xs))) d2 ≡ d0
  list_step cons xs i x c c' d d2 d0 h is count e whole =
      let rest : List B = map f (drop (i + 1) xs) in
      ap (λ (k : C). ran (walk k rest) d2) count
      ∙ goes_on (walk (next c (f x)) rest) e
      ∙ ap (λ (w : Walk). ran w d) (sym (cons c (f x) rest))
      ∙ ap (λ (ss : List B). ran (walk c ss) d) (sym (left_items f xs i x h is))
      ∙ whole

  pub list_end : {last : Walk} → ((c : C) → walk c [] ≡ last) → (xs : List A) (i : ℕ) (c c0 : C)
      (d d1 d0 : Doing) → length xs ≤ i → Takes last d d1
      → ran (walk c (map f (drop i xs))) d ≡ ran (walk c0 (map f xs)) d0
      → Takes (walk c0 (map f xs)) d0 d1
  list_end nil xs i c c0 d d1 d0 h e whole = record {
    is =
        e.is ∙ ap (λ (w : Walk). ran w d) (sym (nil c))
        ∙ ap (λ (ss : List B). ran (walk c ss) d) (sym (left_none f xs i h))
        ∙ whole;
  }

pub left_some : {A B : Type 0} (f : A → B) (xs : List A) (i : ℕ) → i < length xs
    → (x : A) × (map f (drop i xs) ≡ f x ∷ map f (drop (i + 1) xs))
left_some f [] i h = absurd (omega arith)
left_some f (y ∷ ys) zero h = (y, refl)
left_some {B = B} f (y ∷ ys) (suc i) h =
    let s = left_some f ys i (omega arith) in
    let k : suc i + 1 ≡ suc (i + 1) = omega arith in
    (s.0, s.1 ∙ ap (λ (n : ℕ). f s.0 ∷ map f (drop n (y ∷ ys))) (sym k))

-- the same where only how many items there are counts
module _ {A B C : Type 0} (f : A → B) (walk : C → List B → Walk) (item : C → Walk)
    (next : C → C) where
  pub count_step :
      ((c : C) (s : B) (ss : List B) → walk c (s ∷ ss) ≡ item c >> walk (next c) ss)
      → (xs : List A) (i : ℕ) (c c' : C) (d d2 d0 : Doing) → i < length xs
      → c' ≡ next c → Takes (item c) d d2
      → ran (walk c (map f (drop i xs))) d ≡ d0
      → ran (walk c' (map f (drop (i + 1) xs))) d2 ≡ d0
  count_step cons xs i c c' d d2 d0 h count e whole =
      let rest : List B = map f (drop (i + 1) xs) in
      let s = left_some f xs i h in
      ap (λ (k : C). ran (walk k rest) d2) count
      ∙ goes_on (walk (next c) rest) e
      ∙ ap (λ (w : Walk). ran w d) (sym (cons c (f s.0) rest))
      ∙ ap (λ (ss : List B). ran (walk c ss) d) (sym s.1)
      ∙ whole
