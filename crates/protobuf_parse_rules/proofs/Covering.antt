-- How many of many ranges have a number, by their first and their last numbers in order.
use Rattle.std.proofs.Common.{◌≡◌, ℕ, zero, suc, ◌+◌, ◌≤◌, ◌<◌, ℤ, pos, Bool, true, false, cond}
use Rattle.std.proofs.Common.{not, ◌&&◌}
use Rattle.std.proofs.Common.{List, [], ◌∷◌, ◌++◌, refl, sym, ap, subst, ◌∙◌, arith, length, get_or}
use Rattle.std.proofs.Common.{map, IsSorted, ◌-ℤ◌, ◌<ℤ◌, ◌≤ℤ◌}
use Rattle.std.specs.Prelude.{int_lt, nat_lt, IsPermutation, ◌||◌, min}
use Rattle.std.specs.Int.Signed.{lt_z_yes, lt_z_no}
use Rattle.std.specs.List.{count_by, list_any}
use Rattle.std.specs.List.Sorted.{IsPartitionedBy}
use Rattle.std.specs.Ordering.{int_cmp, int_eq, is_lt}
use Rattle.std.specs.declared.cmp.Ordering.TheVariants.{Less, Equal, Greater}
use Rattle.std.proofs.lemmas.Float.{T_from_true}
use Rattle.std.proofs.lemmas.Int.{ints}
use Rattle.std.proofs.lemmas.Bool.{lt-ltb, ltb-false, ltb-true}
use Rattle.std.proofs.lemmas.Bool.Decides.{Decides-int_eq}
use Rattle.std.proofs.lemmas.Cmp.{int_cmp_total}
use Rattle.std.proofs.lemmas.List.Sums.{sum_by-append, sum_by-cons, sum_by_push}
use Rattle.std.proofs.lemmas.List.Sorted.{ranks_by, sorted_far, sum_by-IsPermutation}
use Rattle.protobuf_parse_rules.specs.Covers.{AreApart, AreEnds, begun, ended, point_of}
use Rattle.protobuf_parse_model.specs.Descriptors.{EnumValueDescriptor, Range}
use Rattle.protobuf_parse_rules.specs.Enums.{has_number, in_closed_range}
use Rattle.protobuf_parse_rules.specs.Ranges.{in_range}

abbrev bit : Bool → ℕ
bit b = cond b 1 0

-- one element more is counted
pub counted_more : {X : Type 0} (p : X → Bool) (xs : List X) (x : X)
    → count_by p (xs ++ x ∷ []) ≡ count_by p xs + bit (p x)
counted_more p xs x = sum_by_push (λ y. bit (p y)) xs x

pub counted_first : {X : Type 0} (p : X → Bool) (x : X) (xs : List X)
    → count_by p (x ∷ xs) ≡ bit (p x) + count_by p xs
counted_first p x xs = sum_by-cons (λ y. bit (p y)) x xs

-- as many pass the test as stand before the point
pub point_counts : {X : Type 0} (p : X → Bool) (xs : List X) (i : ℕ) → i ≤ length xs
    → ((k : ℕ) (d : X) → k < i → p (get_or xs k d) ≡ true)
    → ((k : ℕ) (d : X) → i ≤ k → k < length xs → p (get_or xs k d) ≡ false)
    → i ≡ count_by p xs
point_counts p [] zero le before after = refl
point_counts p [] (suc i) le before after = absurd (omega arith)
point_counts p (x ∷ xs) zero le before after =
    let rest : 0 ≡ count_by p xs =
    point_counts p xs zero (omega arith) (λ k d lt. absurd (omega arith))
    (λ k d a b. after (suc k) d (omega arith) (omega arith)) in
    let this : bit (p x) ≡ 0 = ap (λ b. bit b) (after 0 x (omega arith) (omega arith)) in
    let whole = counted_first p x xs in
    omega (arith, rest, this, whole)
point_counts p (x ∷ xs) (suc i) le before after =
    let rest : i ≡ count_by p xs = point_counts p xs i (omega arith)
    (λ k d lt. before (suc k) d (omega arith))
    (λ k d a b. after (suc k) d (omega arith) (omega arith)) in
    let this : bit (p x) ≡ 1 = ap (λ b. bit b) (before 0 x (omega arith)) in
    let whole = counted_first p x xs in
    omega (arith, rest, this, whole)

pub is_below : (a b : ℤ) → int_lt a b ≡ true → a <ℤ b
is_below a b e = lt_z_yes (T_from_true (int_lt a b) e)

pub is_not_below : (a b : ℤ) → int_lt a b ≡ false → b ≤ℤ a
is_not_below a b e = lt_z_no (T_from_true (not (int_lt a b)) (ap not e))

below_by_cmp : (a b : Bool) → is_lt (cond a Less (cond b Greater Equal)) ≡ a
below_by_cmp true b = refl
below_by_cmp false true = refl
below_by_cmp false false = refl

-- in ascending order none is below one before it
pub rises : (xs : List ℤ) → IsSorted int_cmp xs → (i j : ℕ) (d : ℤ) → i ≤ j → j < length xs
    → int_lt (get_or xs j d) (get_or xs i d) ≡ false
rises xs up i j d le lt =
    sym (below_by_cmp (int_lt (get_or xs j d) (get_or xs i d))
    (int_lt (get_or xs i d) (get_or xs j d)))
    ∙ sorted_far (λ x y. is_lt (int_cmp x y)) (ranks_by int_cmp_total (λ x. x)) xs up i j d le lt

-- what is not above a number comes before what is
pub parted_from : (xs : List ℤ) (n : ℤ) → IsSorted int_cmp xs
    → IsPartitionedBy (λ first. not (int_lt n first)) xs
parted_from xs n up i j d le lt e =
    at (int_lt n (get_or xs j d)) (int_lt n (get_or xs i d)) refl refl e
  where
    at : (p q : Bool) → int_lt n (get_or xs j d) ≡ p → int_lt n (get_or xs i d) ≡ q
        → not p ≡ true → not q ≡ true
    at true q f g h = absurd cc
    at false false f g h = refl
    at false true f g h =
        let first : get_or xs j d ≤ℤ n = is_not_below n (get_or xs j d) f in
        let second : n <ℤ get_or xs i d = is_below n (get_or xs i d) g in
        let third : get_or xs i d ≤ℤ get_or xs j d =
        is_not_below (get_or xs j d) (get_or xs i d) (rises xs up i j d le lt) in
        absurd (omega (arith, ints))

pub parted_below : (xs : List ℤ) (n : ℤ) → IsSorted int_cmp xs
    → IsPartitionedBy (λ last. int_lt last n) xs
parted_below xs n up i j d le lt e =
    at (int_lt (get_or xs i d) n) refl
  where
    at : (q : Bool) → int_lt (get_or xs i d) n ≡ q → int_lt (get_or xs i d) n ≡ true
    at true g = g
    at false g =
        let first : get_or xs j d <ℤ n = is_below (get_or xs j d) n e in
        let second : n ≤ℤ get_or xs i d = is_not_below (get_or xs i d) n g in
        let third : get_or xs i d ≤ℤ get_or xs j d =
        is_not_below (get_or xs j d) (get_or xs i d) (rises xs up i j d le lt) in
        absurd (omega (arith, ints))

-- ---- one range more

one_open : (n start end : ℤ) → int_lt start end ≡ true
    → bit (not (int_lt n start) && int_lt n end) + bit (int_lt (end -ℤ pos 1) n)
    ≡ bit (not (int_lt n start))
one_open n start end e = at (int_lt n start) (int_lt n end) (int_lt (end -ℤ pos 1) n) refl refl refl
  where
    at : (p q r : Bool) → int_lt n start ≡ p → int_lt n end ≡ q → int_lt (end -ℤ pos 1) n ≡ r
        → bit (not p && q) + bit r ≡ bit (not p)
    at true q false f g h = refl
    at true q true f g h =
        let a : start <ℤ end = is_below start end e in
        let b : n <ℤ start = is_below n start f in
        let c : (end -ℤ pos 1) <ℤ n = is_below (end -ℤ pos 1) n h in
        absurd (omega (arith, ints))
    at false true false f g h = refl
    at false true true f g h =
        let b : n <ℤ end = is_below n end g in
        let c : (end -ℤ pos 1) <ℤ n = is_below (end -ℤ pos 1) n h in
        absurd (omega (arith, ints))
    at false false true f g h = refl
    at false false false f g h =
        let b : end ≤ℤ n = is_not_below n end g in
        let c : n ≤ℤ (end -ℤ pos 1) = is_not_below (end -ℤ pos 1) n h in
        absurd (omega (arith, ints))

none_open : (n start end : ℤ) → int_lt start end ≡ false
    → (not (int_lt n start) && int_lt n end) ≡ false
none_open n start end e = at (int_lt n start) (int_lt n end) refl refl
  where
    at : (p q : Bool) → int_lt n start ≡ p → int_lt n end ≡ q → (not p && q) ≡ false
    at true q f g = refl
    at false false f g = refl
    at false true f g =
        let a : end ≤ℤ start = is_not_below start end e in
        let b : start ≤ℤ n = is_not_below n start f in
        let c : n <ℤ end = is_below n end g in
        absurd (omega (arith, ints))

one_closed : (n start end : ℤ) → int_lt end start ≡ false
    → bit (not (int_lt n start) && not (int_lt end n)) + bit (int_lt end n)
    ≡ bit (not (int_lt n start))
one_closed n start end e = at (int_lt n start) (int_lt end n) refl refl
  where
    at : (p q : Bool) → int_lt n start ≡ p → int_lt end n ≡ q
        → bit (not p && not q) + bit q ≡ bit (not p)
    at true false f g = refl
    at true true f g =
        let a : start ≤ℤ end = is_not_below end start e in
        let b : n <ℤ start = is_below n start f in
        let c : end <ℤ n = is_below end n g in
        absurd (omega (arith, ints))
    at false true f g = refl
    at false false f g = refl

none_closed : (n start end : ℤ) → int_lt end start ≡ true
    → (not (int_lt n start) && not (int_lt end n)) ≡ false
none_closed n start end e = at (int_lt n start) (int_lt end n) refl refl
  where
    at : (p q : Bool) → int_lt n start ≡ p → int_lt end n ≡ q → (not p && not q) ≡ false
    at true q f g = refl
    at false true f g = refl
    at false false f g =
        let a : end <ℤ start = is_below end start e in
        let b : start ≤ℤ n = is_not_below n start f in
        let c : n ≤ℤ end = is_not_below end n g in
        absurd (omega (arith, ints))

module _ (has : ℤ → Range → Bool) (ranges : List Range) (r : Range) (firsts lasts : List ℤ)
    (first last : ℤ) (are : AreEnds has ranges firsts lasts) where
  with_one : ((n : ℤ) → bit (has n r) + bit (int_lt last n) ≡ bit (not (int_lt n first)))
      → AreEnds has (ranges ++ r ∷ []) (firsts ++ first ∷ []) (lasts ++ last ∷ [])
  with_one one n =
      let a = counted_more (has n) ranges r in
      let b = counted_more (λ l. int_lt l n) lasts last in
      let c = counted_more (λ f. not (int_lt n f)) firsts first in
      let whole : count_by (has n) ranges + ended n lasts ≡ begun n firsts = are n in
      let this = one n in
      omega (arith, a, b, c, whole, this)

module _ (has : ℤ → Range → Bool) (ranges : List Range) (r : Range) (firsts lasts : List ℤ)
    (are : AreEnds has ranges firsts lasts) where
  with_none : ((n : ℤ) → has n r ≡ false) → AreEnds has (ranges ++ r ∷ []) firsts lasts
  with_none none n =
      let a : count_by (has n) (ranges ++ r ∷ []) ≡ count_by (has n) ranges + 0 =
      counted_more (has n) ranges r ∙ ap (λ b. count_by (has n) ranges + bit b) (none n) in
      let whole : count_by (has n) ranges + ended n lasts ≡ begun n firsts = are n in
      omega (arith, a, whole)

pub open_more : (ranges : List Range) (start end first last : ℤ) (fs gs ls ms : List ℤ)
    → int_lt start end ≡ true → AreEnds in_range ranges fs ls
    → gs ≡ fs ++ first ∷ [] → ms ≡ ls ++ last ∷ [] → first ≡ start → last ≡ end -ℤ pos 1
    → AreEnds in_range (ranges ++ record { start = start; end = end } ∷ []) gs ms
open_more ranges start end first last fs gs ls ms e are p q f l =
    subst (λ g. AreEnds in_range (ranges ++ record { start = start; end = end } ∷ []) g ms)
    (sym (p ∙ ap (λ n. fs ++ n ∷ []) f))
    (subst (λ m. AreEnds in_range (ranges ++ record { start = start; end = end } ∷ [])
    (fs ++ start ∷ []) m) (sym (q ∙ ap (λ n. ls ++ n ∷ []) l))
    (with_one in_range ranges (record { start = start; end = end }) fs ls start
    (end -ℤ pos 1) are (λ n. one_open n start end e)))

pub open_none : (ranges : List Range) (start end : ℤ) (firsts lasts : List ℤ)
    → int_lt start end ≡ false → AreEnds in_range ranges firsts lasts
    → AreEnds in_range (ranges ++ record { start = start; end = end } ∷ []) firsts lasts
open_none ranges start end firsts lasts e are =
    with_none in_range ranges (record { start = start; end = end }) firsts lasts are
    (λ n. none_open n start end e)

pub closed_more : (ranges : List Range) (start end first last : ℤ) (fs gs ls ms : List ℤ)
    → int_lt end start ≡ false → AreEnds in_closed_range ranges fs ls
    → gs ≡ fs ++ first ∷ [] → ms ≡ ls ++ last ∷ [] → first ≡ start → last ≡ end
    → AreEnds in_closed_range (ranges ++ record { start = start; end = end } ∷ []) gs ms
closed_more ranges start end first last fs gs ls ms e are p q f l =
    subst (λ g. AreEnds in_closed_range (ranges ++ record { start = start; end = end } ∷ []) g ms)
    (sym (p ∙ ap (λ n. fs ++ n ∷ []) f))
    (subst (λ m. AreEnds in_closed_range (ranges ++ record { start = start; end = end } ∷ [])
    (fs ++ start ∷ []) m) (sym (q ∙ ap (λ n. ls ++ n ∷ []) l))
    (with_one in_closed_range ranges (record { start = start; end = end }) fs ls start end are
    (λ n. one_closed n start end e)))

pub closed_none : (ranges : List Range) (start end : ℤ) (firsts lasts : List ℤ)
    → int_lt end start ≡ true → AreEnds in_closed_range ranges firsts lasts
    → AreEnds in_closed_range (ranges ++ record { start = start; end = end } ∷ []) firsts lasts
closed_none ranges start end firsts lasts e are =
    with_none in_closed_range ranges (record { start = start; end = end }) firsts lasts are
    (λ n. none_closed n start end e)

-- the order doesn't count
pub still_ends : (has : ℤ → Range → Bool) (ranges : List Range) (fs gs ls ms : List ℤ)
    → IsPermutation fs gs → IsPermutation ls ms → AreEnds has ranges fs ls
    → AreEnds has ranges gs ms
still_ends has ranges fs gs ls ms p q are n =
    let a : begun n gs ≡ begun n fs =
    sum_by-IsPermutation (λ f. bit (not (int_lt n f))) fs gs p in
    let b : ended n ms ≡ ended n ls = sum_by-IsPermutation (λ l. bit (int_lt l n)) ls ms q in
    let whole : count_by (has n) ranges + ended n ls ≡ begun n fs = are n in
    omega (arith, a, b, whole)

pub still_apart : (fs gs ls ms : List ℤ) → IsPermutation fs gs → IsPermutation ls ms
    → AreApart fs ls → AreApart gs ms
still_apart fs gs ls ms p q apart n =
    let a : begun n gs ≡ begun n fs =
    sum_by-IsPermutation (λ f. bit (not (int_lt n f))) fs gs p in
    let b : ended n ms ≡ ended n ls = sum_by-IsPermutation (λ l. bit (int_lt l n)) ls ms q in
    let whole : ended n ls ≤ begun n fs = apart n in
    omega (arith, a, b, whole)

-- ends of ranges lie apart
pub ends_apart : {X : Type 0} (has : ℤ → X → Bool) (xs : List X) (firsts lasts : List ℤ)
    → AreEnds has xs firsts lasts → AreApart firsts lasts
ends_apart has xs firsts lasts are n =
    let whole : count_by (has n) xs + ended n lasts ≡ begun n firsts = are n in
    omega (arith, whole)

-- a test finds one where it counts one
pub any_counted : {X : Type 0} (p : X → Bool) (xs : List X)
    → nat_lt 0 (count_by p xs) ≡ list_any p xs
any_counted p [] = refl
any_counted p (x ∷ xs) = ap (nat_lt 0) (counted_first p x xs) ∙ at (p x) (any_counted p xs)
  where
    at : (b : Bool) → nat_lt 0 (count_by p xs) ≡ list_any p xs
        → nat_lt 0 (bit b + count_by p xs) ≡ (b || list_any p xs)
    at true e = lt-ltb 0 (1 + count_by p xs) (omega arith)
    at false e =
        let same : 0 + count_by p xs ≡ count_by p xs = omega arith in
        ap (nat_lt 0) same ∙ e

-- counts of two lists
pub counted_both : {X : Type 0} (p : X → Bool) (xs ys : List X)
    → count_by p (xs ++ ys) ≡ count_by p xs + count_by p ys
counted_both p xs ys = sum_by-append (λ x. bit (p x)) xs ys

-- whether more than one of two lists pass the test
pub more_than_one : {X : Type 0} (p : X → Bool) (xs ys : List X) (a b r : ℕ) → a ≡ count_by p xs
    → b ≡ count_by p ys → r ≡ min (a + b) 18446744073709551615
    → nat_lt 1 r ≡ nat_lt 1 (count_by p (xs ++ ys))
more_than_one p xs ys a b r f g h =
    same (nat_lt 1 r) (nat_lt 1 (count_by p (xs ++ ys))) refl refl (counted_both p xs ys)
  where
    same : (u v : Bool) → nat_lt 1 r ≡ u → nat_lt 1 (count_by p (xs ++ ys)) ≡ v
        → count_by p (xs ++ ys) ≡ count_by p xs + count_by p ys
        → nat_lt 1 r ≡ nat_lt 1 (count_by p (xs ++ ys))
    same true true d e both = d ∙ sym e
    same false false d e both = d ∙ sym e
    same true false d e both =
        let more : 1 < r = ltb-true 1 r d in
        let less : count_by p (xs ++ ys) ≤ 1 = ltb-false 1 (count_by p (xs ++ ys)) e in
        absurd (omega (arith, both, f, g, h))
    same false true d e both =
        let less : r ≤ 1 = ltb-false 1 r d in
        let more : 1 < count_by p (xs ++ ys) = ltb-true 1 (count_by p (xs ++ ys)) e in
        absurd (omega (arith, both, f, g, h))

-- a value's number as a range by itself has that number alone
int_eq_points : (n m : ℤ) → in_closed_range n (record { start = m; end = m }) ≡ int_eq m n
int_eq_points n m = at (int_lt n m) (int_lt m n) (int_eq m n) refl refl refl
  where
    at : (p q r : Bool) → int_lt n m ≡ p → int_lt m n ≡ q → int_eq m n ≡ r
        → (not p && not q) ≡ r
    at true q false f g h = refl
    at true q true f g h =
        let same : m ≡ n = (Decides-int_eq m n).0 h in
        let below : n <ℤ m = is_below n m f in
        absurd (omega (arith, ints))
    at false true false f g h = refl
    at false true true f g h =
        let same : m ≡ n = (Decides-int_eq m n).0 h in
        let below : m <ℤ n = is_below m n g in
        absurd (omega (arith, ints))
    at false false true f g h = refl
    at false false false f g h =
        let a : m ≤ℤ n = is_not_below n m f in
        let b : n ≤ℤ m = is_not_below m n g in
        let same : m ≡ n = omega (arith, ints) in
        sym ((Decides-int_eq m n).1 same) ∙ h

pub counted_points : (n : ℤ) (values : List EnumValueDescriptor)
    → count_by (in_closed_range n) (map point_of values) ≡ count_by (has_number n) values
counted_points n [] = refl
counted_points n (v ∷ vs) =
    counted_first (in_closed_range n) (point_of v) (map point_of vs)
    ∙ ap (λ b. bit b + count_by (in_closed_range n) (map point_of vs)) (int_eq_points n v.number)
    ∙ ap (λ k. bit (has_number n v) + k) (counted_points n vs)
    ∙ sym (counted_first (has_number n) v vs)
