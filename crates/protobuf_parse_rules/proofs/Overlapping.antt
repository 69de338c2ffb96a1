-- Ranges that overlap another one which begins no later.
use Rattle.std.proofs.Common.{◌≡◌, ◌+◌, ℤ, Bool, true, false, cond, not, ◌&&◌, List, [], ◌∷◌}
use Rattle.std.proofs.Common.{refl, sym, ap, ◌∙◌, arith, inl, inr, ◌<ℤ◌}
use Rattle.std.specs.Prelude.{int_lt, nat_lt}
use Rattle.std.specs.Int.Signed.{<ℤ_irrefl}
use Rattle.std.specs.List.{count_by, list_any}
use Rattle.std.proofs.lemmas.Bool.{cases_Bool}
use Rattle.std.proofs.lemmas.Int.{ints}
use Rattle.protobuf_parse_model.specs.Descriptors.{Range}
use Rattle.protobuf_parse_rules.specs.Enums.{closed_overlaps_first, in_closed_range}
use Rattle.protobuf_parse_rules.specs.Enums.{is_closed_overlapped}
use Rattle.protobuf_parse_rules.specs.Ranges.{in_range, is_overlapped, overlaps_first}
use Rattle.protobuf_parse_rules.proofs.Covering.{any_counted, counted_first, is_below, is_not_below}

no_self : (n : ℤ) → int_lt n n ≡ false
no_self n = elim (cases_Bool (int_lt n n)) [
  | inl e ↦ absurd (<ℤ_irrefl (is_below n n e))
  | inr e ↦ e
]

-- no later than what is below the third
up_to : (a b c : ℤ) → int_lt b a ≡ false → int_lt b c ≡ true → int_lt a c ≡ true
up_to a b c p q = elim (cases_Bool (int_lt a c)) [
  | inl e ↦ e
  | inr e ↦
      let first = is_not_below b a p in
      let second = is_below b c q in
      let third = is_not_below a c e in
      absurd (omega (arith, ints))
]

-- nor later than what is not above the third
not_over : (a b c : ℤ) → int_lt b a ≡ false → int_lt c b ≡ false → int_lt c a ≡ false
not_over a b c p q = elim (cases_Bool (int_lt c a)) [
  | inl e ↦
      let first = is_not_below b a p in
      let second = is_not_below c b q in
      let third = is_below c a e in
      absurd (omega (arith, ints))
  | inr e ↦ e
]

both_true : (b : Bool) → (b && true) ≡ b
both_true true = refl
both_true false = refl

no_right : (b : Bool) → (b && false) ≡ false
no_right true = refl
no_right false = refl

count_same : {X : Type 0} (p q : X → Bool) (xs : List X) → ((x : X) → p x ≡ q x)
    → count_by p xs ≡ count_by q xs
count_same p q [] same = refl
count_same p q (x ∷ xs) same =
    counted_first p x xs
    ∙ ap (λ b. cond b 1 0 + count_by p xs) (same x)
    ∙ ap (λ n. cond (q x) 1 0 + n) (count_same p q xs same)
    ∙ sym (counted_first q x xs)

-- how often a test finds one element
alone : {X : Type 0} (p : X → Bool) (x : X) (b : Bool) → p x ≡ b
    → count_by p (x ∷ []) ≡ cond b 1 0 + 0
alone p x b e = counted_first p x [] ∙ ap (λ t. cond t 1 0 + 0) e

-- ---- ranges that end before their `end`

open_same : (r : Range) → int_lt r.start r.end ≡ true → (s : Range)
    → in_range r.start s ≡ overlaps_first r s
open_same r some s = at (int_lt r.start s.start) refl
  where
    at : (b : Bool) → int_lt r.start s.start ≡ b
        → (not (int_lt r.start s.start) && int_lt r.start s.end)
        ≡ (not (int_lt r.start s.start) && (int_lt r.start s.end && int_lt s.start r.end))
    at true e = ap (λ b. not b && int_lt r.start s.end) e
        ∙ sym (ap (λ b. not b && (int_lt r.start s.end && int_lt s.start r.end)) e)
    at false e =
        ap (λ b. not (int_lt r.start s.start) && b)
        (sym (both_true (int_lt r.start s.end))
        ∙ ap (λ b. int_lt r.start s.end && b) (sym (up_to s.start r.start r.end e some)))

pub open_overlapped : (ranges : List Range) (r : Range) → int_lt r.start r.end ≡ true
    → nat_lt 1 (count_by (in_range r.start) ranges) ≡ is_overlapped ranges r
open_overlapped ranges r some =
    ap (nat_lt 1) (count_same (in_range r.start) (overlaps_first r) ranges (open_same r some))
    ∙ ap (λ n. nat_lt n (count_by (overlaps_first r) ranges))
    (sym (alone (overlaps_first r) r true
    (sym (open_same r some r)
    ∙ ap (λ b. not b && int_lt r.start r.end) (no_self r.start) ∙ some)))

-- a range in which no number lies
pub empty_overlapped : (ranges : List Range) (r : Range) → int_lt r.start r.end ≡ false
    → list_any (overlaps_first r) ranges ≡ is_overlapped ranges r
empty_overlapped ranges r none =
    sym (any_counted (overlaps_first r) ranges)
    ∙ ap (λ n. nat_lt n (count_by (overlaps_first r) ranges))
    (sym (alone (overlaps_first r) r false
    (ap (λ b. not (int_lt r.start r.start) && (b && int_lt r.start r.end)) none
    ∙ no_right (not (int_lt r.start r.start)))))

-- ---- ranges that end at their `end`

closed_same : (r : Range) → int_lt r.end r.start ≡ false → (s : Range)
    → in_closed_range r.start s ≡ closed_overlaps_first r s
closed_same r some s = at (int_lt r.start s.start) refl
  where
    at : (b : Bool) → int_lt r.start s.start ≡ b
        → (not (int_lt r.start s.start) && not (int_lt s.end r.start))
        ≡ (not (int_lt r.start s.start) && (not (int_lt s.end r.start) && not (int_lt r.end s.start)))
    at true e = ap (λ b. not b && not (int_lt s.end r.start)) e
        ∙ sym (ap (λ b. not b && (not (int_lt s.end r.start) && not (int_lt r.end s.start))) e)
    at false e =
        ap (λ b. not (int_lt r.start s.start) && b)
        (sym (both_true (not (int_lt s.end r.start)))
        ∙ ap (λ b. not (int_lt s.end r.start) && not b)
        (sym (not_over s.start r.start r.end e some)))

pub closed_overlapped : (ranges : List Range) (r : Range) → int_lt r.end r.start ≡ false
    → nat_lt 1 (count_by (in_closed_range r.start) ranges) ≡ is_closed_overlapped ranges r
closed_overlapped ranges r some =
    ap (nat_lt 1)
    (count_same (in_closed_range r.start) (closed_overlaps_first r) ranges (closed_same r some))
    ∙ ap (λ n. nat_lt n (count_by (closed_overlaps_first r) ranges))
    (sym (alone (closed_overlaps_first r) r true
    (sym (closed_same r some r)
    ∙ ap (λ b. not b && not (int_lt r.end r.start)) (no_self r.start) ∙ ap not some)))

pub none_overlapped : (ranges : List Range) (r : Range) → int_lt r.end r.start ≡ true
    → list_any (closed_overlaps_first r) ranges ≡ is_closed_overlapped ranges r
none_overlapped ranges r none =
    sym (any_counted (closed_overlaps_first r) ranges)
    ∙ ap (λ n. nat_lt n (count_by (closed_overlaps_first r) ranges))
    (sym (alone (closed_overlaps_first r) r false
    (ap (λ b. not (int_lt r.start r.start) && (not b && not (int_lt r.end r.start))) none
    ∙ no_right (not (int_lt r.start r.start)))))
