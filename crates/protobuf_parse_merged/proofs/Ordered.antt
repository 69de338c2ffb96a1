-- Occurrences by their numbers.
use Rattle.std.proofs.Common.{◌≡◌, ℕ, suc, ◌+◌, ◌-◌, ◌<◌, ◌≤◌, ◌==◌, Bool, true, false, List}
use Rattle.std.proofs.Common.{[], ◌∷◌, ◌++◌, length, get_or, take, drop, map, slice_range, cond}
use Rattle.std.proofs.Common.{refl, sym, ap, ◌∙◌, subst, arith, filter}
use Rattle.std.proofs.Common.{not, ◌&&◌}
use Rattle.std.proofs.lemmas.Bool.Decides.{nat_tests}
use Rattle.std.proofs.Common.{length-drop}
use Rattle.std.proofs.lemmas.List.{get_or-drop, take_more}
use Rattle.std.proofs.lemmas.Bool.{eqb-true}
use Rattle.std.specs.List.Sorted.{IsNonDecreasingBy, IsStableByKey, ties}
use Rattle.std.specs.Ordering.{is_lt, nat_cmp}
use Rattle.protobuf_parse_merged.specs.declared.occurrences.Occurrence as code
use Rattle.protobuf_parse_merged.specs.Occurrences.{Occurrence}
use Rattle.protobuf_parse_merged.specs.Inside.{AreOf, Ascends, IsByNumber, occurrence_view}

-- one more of that number
pub one_more : (n : ℕ) (os : List Occurrence) (o : Occurrence) → AreOf n os → o.number ≡ n
    → AreOf n (os ++ o ∷ [])
one_more n [] o all is = (is, tt)
one_more n (p ∷ os) o all is = (all.0, one_more n os o all.1 is)

-- a range with one more
pub range_more : (xs : List code.Occurrence) (a b : ℕ) (x : code.Occurrence) → a ≤ b → b < length xs
    → x ≡ get_or xs b x → slice_range xs a (b + 1) ≡ slice_range xs a b ++ x ∷ []
range_more xs a b x le less is =
    let k : b + 1 - a ≡ (b - a) + 1 = omega arith in
    let short : b - a < length (drop a xs) = omega (arith, length-drop a xs) in
    let back : a + (b - a) ≡ b = omega arith in
    ap (λ n. take n (drop a xs)) k ∙ take_more (drop a xs) (b - a) x short
    ∙ ap (λ (y : code.Occurrence). take (b - a) (drop a xs) ++ y ∷ [])
    (get_or-drop a xs (b - a) x ∙ ap (λ n. get_or xs n x) back ∙ sym is)

-- ---- in order

pub ascends : (xs : List code.Occurrence) (m : ℕ)
    → IsNonDecreasingBy (λ (o : code.Occurrence). o.number) xs
    → ((d : code.Occurrence) → 0 < length xs → m ≤ (get_or xs 0 d).number)
    → Ascends m (map occurrence_view xs)
ascends [] m rise least = tt
ascends (x ∷ xs) m rise least = (
  least x (omega arith),
  ascends xs x.number (λ i j d le lt. rise (suc i) (suc j) d (omega arith) (omega arith))
      (λ d some. rise 0 1 d (omega arith) (omega arith)),
)

-- ---- of one number

module _ {X : Type 0} where
  same_test : (p q : X → Bool) → ((x : X) → p x ≡ q x) → (xs : List X)
      → filter p xs ≡ filter q xs
  same_test p q alike [] = refl
  same_test p q alike (x ∷ xs) = rw (alike x, same_test p q alike xs) refl

  passes_at : (p : X → Bool) (x : X) (xs : List X) (y : X) (ys : List X) (b : Bool) → p x ≡ b
      → (filter p xs ≡ y ∷ ys → p y ≡ true) → cond b (x ∷ filter p xs) (filter p xs) ≡ y ∷ ys
      → p y ≡ true
  passes_at p x xs y ys true is later h =
      let same : x ≡ y = cc in
      ap p (sym same) ∙ is
  passes_at p x xs y ys false is later h = later h

  first_passes : (p : X → Bool) (xs : List X) (y : X) (ys : List X) → filter p xs ≡ y ∷ ys
      → p y ≡ true
  first_passes p [] y ys h = absurd (cc)
  first_passes p (x ∷ xs) y ys h =
      passes_at p x xs y ys (p x) refl (λ k. first_passes p xs y ys k) h

tie_is : (m n : ℕ) → (not (is_lt (nat_cmp m n)) && not (is_lt (nat_cmp n m))) ≡ (n == m)
tie_is m n = grind (arith, nat_tests)

-- a code's occurrence has that number
abbrev numbered : ℕ → code.Occurrence → Bool
numbered n o = o.number == n

keeps : (xs ys : List code.Occurrence) → IsStableByKey (λ (o : code.Occurrence). o.number) nat_cmp xs ys
    → (x : code.Occurrence) → filter (numbered x.number) ys ≡ filter (numbered x.number) xs
keeps xs ys stable x =
    let test : (y : code.Occurrence) → numbered x.number y
    ≡ ties (λ (a b : code.Occurrence). is_lt (nat_cmp a.number b.number)) x y =
    λ y. sym (tie_is x.number y.number) in
    same_test _ _ test ys ∙ stable x ∙ sym (same_test _ _ test xs)

all_keep : (n : ℕ) (xs ys : List code.Occurrence)
    → IsStableByKey (λ (o : code.Occurrence). o.number) nat_cmp xs ys
    → (fs gs : List code.Occurrence) → filter (numbered n) ys ≡ fs → filter (numbered n) xs ≡ gs
    → fs ≡ gs
all_keep n xs ys stable [] [] h k = refl
all_keep n xs ys stable (y ∷ fs) gs h k =
    let is : y.number ≡ n = eqb-true y.number n (first_passes (numbered n) ys y fs h) in
    sym h ∙ subst (λ m. filter (numbered m) ys ≡ filter (numbered m) xs) is (keeps xs ys stable y) ∙ k
all_keep n xs ys stable [] (x ∷ gs) h k =
    let is : x.number ≡ n = eqb-true x.number n (first_passes (numbered n) xs x gs k) in
    sym h ∙ subst (λ m. filter (numbered m) ys ≡ filter (numbered m) xs) is (keeps xs ys stable x) ∙ k

seen : (n : ℕ) (xs : List code.Occurrence)
    → filter (λ (o : Occurrence). o.number == n) (map occurrence_view xs)
    ≡ map occurrence_view (filter (numbered n) xs)
seen n [] = refl
seen n (x ∷ xs) = rw (seen n xs) (by_test (x.number == n))
  where
    by_test : (b : Bool)
        → cond b (occurrence_view x ∷ map occurrence_view (filter (numbered n) xs))
        (map occurrence_view (filter (numbered n) xs))
        ≡ map occurrence_view (cond b (x ∷ filter (numbered n) xs) (filter (numbered n) xs))
    by_test true = refl
    by_test false = refl

-- a stable sort by the numbers
pub sorted : (xs ys : List code.Occurrence)
    → IsNonDecreasingBy (λ (o : code.Occurrence). o.number) ys
    → IsStableByKey (λ (o : code.Occurrence). o.number) nat_cmp xs ys
    → IsByNumber (map occurrence_view xs) (map occurrence_view ys)
sorted xs ys rise stable = record {
  same = λ n. ap (λ (os : List Occurrence). map (λ (o : Occurrence). o.held) os)
      (seen n ys
      ∙ ap (map occurrence_view)
      (all_keep n xs ys stable (filter (numbered n) ys) (filter (numbered n) xs) refl refl)
      ∙ sym (seen n xs));
  ascends = ascends ys 0 rise (λ d some. omega arith);
}
