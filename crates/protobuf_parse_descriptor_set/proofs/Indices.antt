-- What is marked stands behind all others.
use Rattle.std.proofs.Common.{◌≡◌, ◌∙◌, ℕ, zero, suc, ◌+◌, ◌<◌, ◌≤◌, ℤ, pos, negsuc, Bool, true}
use Rattle.std.proofs.Common.{false, not, List, [], ◌∷◌, ◌++◌, length, get_or, take, map, ap, sym}
use Rattle.std.proofs.Common.{refl, arith, inl, inr}
use Rattle.std.specs.Prelude.{nat_lt, if◌then◌else◌, Option, Some, None, count_by, slice_get}
use Rattle.std.specs.Prelude.{IsPermutation}
use Rattle.std.specs.List.{range_with_len}
use Rattle.std.proofs.lemmas.Bool.{ltb-true, ltb-false, lt-ltb, le-ltb, cases_lt}
use Rattle.std.proofs.lemmas.List.{same_lists, length-map, get_or-map, length-take, map-append}
use Rattle.std.proofs.lemmas.List.{take_more}
use mathlib.Core.Bool.{beq}
use Rattle.std.proofs.lemmas.List.FromFn.{get_or-map-range_with_len, length-map-range_with_len}
use Rattle.std.proofs.lemmas.List.FromFn.{get_or-range_with_len, length-range_with_len}
use Rattle.std.proofs.lemmas.List.Sorted.{IsPermutation-refl, IsPermutation-cons}
use Rattle.std.proofs.lemmas.List.Sorted.{IsPermutation-middle, IsPermutation-sym}
use Rattle.std.proofs.lemmas.List.Sorted.{IsPermutation-trans, length_permutation}
use Rattle.std.proofs.lemmas.List.Sums.{sum_by-cons}
use Rattle.std.proofs.lemmas.Option.{slice_get-get_or, slice_get_past, slice_get_within}
use Rattle.protobuf_parse_descriptor_set.specs.OneofOrder.{marked, unmarked, marks_before}
use Rattle.protobuf_parse_descriptor_set.specs.OneofOrder.{others_before, new_index, moved_index}
use Rattle.protobuf_parse_descriptor_set.specs.OneofOrder.{index_in_set}
use Rattle.protobuf_parse_descriptor_set.specs.Told.{Tells, index_by, of_kind}

no_more : (n : ℕ) → 0 + n ≡ n
no_more n = omega arith

-- ---- the lists that the code keeps

-- what tells each index is the list of it
pub told_marks : (f : ℕ → Bool) (n : ℕ) (marks : List Bool) → Tells f n marks
    → marks ≡ map f (range_with_len 0 n)
told_marks f n marks t =
    same_lists marks (map f (range_with_len 0 n))
    (t.count ∙ sym (length-map-range_with_len f 0 n))
    (λ k d lt. t.each k d (omega (arith, t.count))
    ∙ sym (get_or-map-range_with_len f 0 n k k d (omega (arith, t.count))
    (no_more k)))

told_one : (marks : List Bool) (indices : List ℕ) → Tells (new_index marks) (length marks) indices
    → (i : ℕ) (b : Bool) → nat_lt i (length marks) ≡ b
    → (if b then get_or indices i 0 else i) ≡ (if b then new_index marks i else i)
told_one marks indices t i true lt = t.each i 0 (ltb-true i (length marks) lt)
told_one marks indices t i false lt = refl

pub told_index : (marks : List Bool) (indices : List ℕ)
    → Tells (new_index marks) (length marks) indices → (index : Option ℤ)
    → index_by indices index ≡ index_in_set marks index
told_index marks indices t None = refl
told_index marks indices t (Some (pos i)) =
    ap (λ (z : ℕ). Some (pos z))
    (ap (λ n. if nat_lt i n then get_or indices i 0 else i) t.count
    ∙ told_one marks indices t i (nat_lt i (length marks)) refl)
told_index marks indices t (Some (negsuc i)) = refl

-- ---- one kind after the other

none_marked : {X : Type 0} (marks : List Bool) → marked {X = X} marks [] ≡ []
none_marked [] = refl
none_marked (b ∷ marks) = refl

pub none_of_kind : {X : Type 0} (kind : Bool) (marks : List Bool)
    → of_kind {X = X} kind marks [] ≡ []
none_of_kind true marks = none_marked marks
none_of_kind false marks = none_marked (map not marks)

-- one element more
marked_more : {X : Type 0} (marks : List Bool) (xs : List X) (x : X) → length xs < length marks
    → get_or marks (length xs) false ≡ true
    → marked marks (xs ++ x ∷ []) ≡ marked marks xs ++ x ∷ []
marked_more [] xs x lt is = absurd (omega (arith, lt))
marked_more (true ∷ marks) [] x lt is = ap (λ ys. x ∷ ys) (none_marked marks)
marked_more (false ∷ marks) [] x lt is = absurd cc
marked_more (true ∷ marks) (y ∷ xs) x lt is =
    ap (λ ys. y ∷ ys) (marked_more marks xs x (omega (arith, lt)) is)
marked_more (false ∷ marks) (y ∷ xs) x lt is = marked_more marks xs x (omega (arith, lt)) is

marked_same : {X : Type 0} (marks : List Bool) (xs : List X) (x : X) → length xs < length marks
    → get_or marks (length xs) false ≡ false → marked marks (xs ++ x ∷ []) ≡ marked marks xs
marked_same [] xs x lt is = absurd (omega (arith, lt))
marked_same (true ∷ marks) [] x lt is = absurd cc
marked_same (false ∷ marks) [] x lt is = none_marked marks
marked_same (true ∷ marks) (y ∷ xs) x lt is =
    ap (λ ys. y ∷ ys) (marked_same marks xs x (omega (arith, lt)) is)
marked_same (false ∷ marks) (y ∷ xs) x lt is = marked_same marks xs x (omega (arith, lt)) is

turned : (marks : List Bool) (i : ℕ) → i < length marks
    → get_or (map not marks) i false ≡ not (get_or marks i false)
turned marks i lt = get_or-map not marks i false false lt

of_kind_more : {X : Type 0} (kind : Bool) (marks : List Bool) (xs : List X) (x : X)
    → length xs < length marks → get_or marks (length xs) false ≡ kind
    → of_kind kind marks (xs ++ x ∷ []) ≡ of_kind kind marks xs ++ x ∷ []
of_kind_more true marks xs x lt is = marked_more marks xs x lt is
of_kind_more false marks xs x lt is = marked_more (map not marks) xs x
    (omega (arith, lt, length-map marks not)) (turned marks (length xs) lt ∙ ap not is)

of_kind_same : {X : Type 0} (kind : Bool) (marks : List Bool) (xs : List X) (x : X)
    → length xs < length marks → get_or marks (length xs) false ≡ not kind
    → of_kind kind marks (xs ++ x ∷ []) ≡ of_kind kind marks xs
of_kind_same true marks xs x lt is = marked_same marks xs x lt is
of_kind_same false marks xs x lt is = marked_same (map not marks) xs x
    (omega (arith, lt, length-map marks not)) (turned marks (length xs) lt ∙ ap not is)

same_bools : (a b : Bool) → beq a b ≡ true → a ≡ b
same_bools true true e = refl
same_bools true false e = absurd cc
same_bools false true e = absurd cc
same_bools false false e = refl

other_bools : (a b : Bool) → beq a b ≡ false → a ≡ not b
other_bools true true e = absurd cc
other_bools true false e = refl
other_bools false true e = refl
other_bools false false e = absurd cc

-- what is seen of one element more
seen_more : {X Y : Type 0} (v : X → Y) (xs : List X) (k : ℕ) (x : X) → k < length xs
    → x ≡ get_or xs k x → map v (take (k + 1) xs) ≡ map v (take k xs) ++ v x ∷ []
seen_more v xs k x lt is = ap (map v) (take_more xs k x lt)
    ∙ map-append v (take k xs) (get_or xs k x ∷ [])
    ∙ ap (λ z. map v (take k xs) ++ v z ∷ []) (sym is)

seen_length : {X Y : Type 0} (v : X → Y) (xs : List X) (k : ℕ) → k < length xs
    → length (map v (take k xs)) ≡ k
seen_length v xs k lt = length-map (take k xs) v ∙ omega (arith, length-take k xs)

pub next_of_kind : {X Y : Type 0} (v : X → Y) (kind : Bool) (marks : List Bool) (xs : List X)
    (k : ℕ) (x : X) → length marks ≡ length xs → k < length xs → x ≡ get_or xs k x
    → beq (get_or marks k false) kind ≡ true
    → of_kind kind marks (map v (take (k + 1) xs))
    ≡ of_kind kind marks (map v (take k xs)) ++ v x ∷ []
next_of_kind v kind marks xs k x long lt is found =
    let at = seen_length v xs k lt in
    ap (of_kind kind marks) (seen_more v xs k x lt is)
    ∙ of_kind_more kind marks (map v (take k xs)) (v x) (omega (arith, at, long, lt))
    (ap (λ i. get_or marks i false) at ∙ same_bools _ _ found)

pub no_next_of_kind : {X Y : Type 0} (v : X → Y) (kind : Bool) (marks : List Bool) (xs : List X)
    (k : ℕ) (x : X) → length marks ≡ length xs → k < length xs → x ≡ get_or xs k x
    → beq (get_or marks k false) kind ≡ false
    → of_kind kind marks (map v (take (k + 1) xs)) ≡ of_kind kind marks (map v (take k xs))
no_next_of_kind v kind marks xs k x long lt is other =
    let at = seen_length v xs k lt in
    ap (of_kind kind marks) (seen_more v xs k x lt is)
    ∙ of_kind_same kind marks (map v (take k xs)) (v x) (omega (arith, at, long, lt))
    (ap (λ i. get_or marks i false) at ∙ other_bools _ _ other)

-- ---- the order

pub is_permutation : {X : Type 0} (marks : List Bool) (xs : List X) → length marks ≡ length xs
    → IsPermutation xs (unmarked marks xs ++ marked marks xs)
is_permutation [] [] e = IsPermutation-refl []
is_permutation [] (x ∷ xs) e = absurd (omega (arith, e))
is_permutation (b ∷ marks) [] e = absurd (omega (arith, e))
is_permutation (false ∷ marks) (x ∷ xs) e =
    IsPermutation-cons x xs _ (is_permutation marks xs (omega (arith, e)))
is_permutation (true ∷ marks) (x ∷ xs) e =
    IsPermutation-trans _ _ _
    (IsPermutation-cons x xs _ (is_permutation marks xs (omega (arith, e))))
    (IsPermutation-sym _ _ (IsPermutation-middle (unmarked marks xs) x (marked marks xs)))

-- how many come before
counted : (p : Bool → Bool) (b : Bool) (bs : List Bool)
    → count_by p (b ∷ bs) ≡ (if p b then 1 else 0) + count_by p bs
counted p b bs = sum_by-cons (λ x. if p x then 1 else 0) b bs

one_more : (n : ℕ) → 1 + n ≡ suc n
one_more n = omega arith

length-unmarked : {X : Type 0} (marks : List Bool) (xs : List X) → length marks ≡ length xs
    → length (unmarked marks xs) ≡ count_by not marks
length-unmarked [] [] e = refl
length-unmarked [] (x ∷ xs) e = absurd (omega (arith, e))
length-unmarked (b ∷ marks) [] e = absurd (omega (arith, e))
length-unmarked (true ∷ marks) (x ∷ xs) e =
    length-unmarked marks xs (omega (arith, e)) ∙ sym (counted not true marks ∙ no_more _)
length-unmarked (false ∷ marks) (x ∷ xs) e =
    ap suc (length-unmarked marks xs (omega (arith, e)))
    ∙ sym (counted not false marks ∙ one_more _)

marked_at : {X : Type 0} (marks : List Bool) (xs : List X) (i : ℕ) → length marks ≡ length xs
    → get_or marks i false ≡ true
    → slice_get (marked marks xs) (marks_before marks i) ≡ slice_get xs i
marked_at [] xs i e h = absurd cc
marked_at (b ∷ marks) [] i e h = absurd (omega (arith, e))
marked_at (true ∷ marks) (x ∷ xs) zero e h = refl
marked_at (false ∷ marks) (x ∷ xs) zero e h = absurd cc
marked_at (true ∷ marks) (x ∷ xs) (suc i) e h =
    ap (slice_get (x ∷ marked marks xs)) (counted (λ b. b) true (take i marks) ∙ one_more _)
    ∙ marked_at marks xs i (omega (arith, e)) h
marked_at (false ∷ marks) (x ∷ xs) (suc i) e h =
    ap (slice_get (marked marks xs)) (counted (λ b. b) false (take i marks) ∙ no_more _)
    ∙ marked_at marks xs i (omega (arith, e)) h

unmarked_at : {X : Type 0} (marks : List Bool) (xs : List X) (i : ℕ) → length marks ≡ length xs
    → i < length marks → get_or marks i false ≡ false
    → slice_get (unmarked marks xs) (others_before marks i) ≡ slice_get xs i
unmarked_at [] xs i e lt h = absurd (omega (arith, lt))
unmarked_at (b ∷ marks) [] i e lt h = absurd (omega (arith, e))
unmarked_at (true ∷ marks) (x ∷ xs) zero e lt h = absurd cc
unmarked_at (false ∷ marks) (x ∷ xs) zero e lt h = refl
unmarked_at (true ∷ marks) (x ∷ xs) (suc i) e lt h =
    ap (slice_get (unmarked marks xs)) (counted not true (take i marks) ∙ no_more _)
    ∙ unmarked_at marks xs i (omega (arith, e)) (omega (arith, lt)) h
unmarked_at (false ∷ marks) (x ∷ xs) (suc i) e lt h =
    ap (slice_get (x ∷ unmarked marks xs)) (counted not false (take i marks) ∙ one_more _)
    ∙ unmarked_at marks xs i (omega (arith, e)) (omega (arith, lt)) h

-- behind a list, and in it
behind : {X : Type 0} (xs ys : List X) (k : ℕ)
    → slice_get (xs ++ ys) (length xs + k) ≡ slice_get ys k
behind [] ys k = ap (slice_get ys) (no_more k)
behind (x ∷ xs) ys k =
    let next : suc (length xs) + k ≡ suc (length xs + k) = omega arith in
    ap (slice_get (x ∷ (xs ++ ys))) next ∙ behind xs ys k

within : {X : Type 0} (xs ys : List X) (k : ℕ) → k < length xs
    → slice_get (xs ++ ys) k ≡ slice_get xs k
within [] ys k lt = absurd (omega (arith, lt))
within (x ∷ xs) ys zero lt = refl
within (x ∷ xs) ys (suc k) lt = within xs ys k (omega (arith, lt))

others_below : (marks : List Bool) (i : ℕ) → i < length marks → get_or marks i false ≡ false
    → others_before marks i < count_by not marks
others_below [] i lt h = absurd (omega (arith, lt))
others_below (true ∷ marks) zero lt h = absurd cc
others_below (false ∷ marks) zero lt h = omega (arith, counted not false marks)
others_below (true ∷ marks) (suc i) lt h =
    omega (
      arith,
      others_below marks i (omega (arith, lt)) h,
      counted not true marks,
      counted not true (take i marks),
    )
others_below (false ∷ marks) (suc i) lt h =
    omega (
      arith,
      others_below marks i (omega (arith, lt)) h,
      counted not false marks,
      counted not false (take i marks),
    )

moved_by : {X : Type 0} (marks : List Bool) (xs : List X) (i : ℕ) → length marks ≡ length xs
    → i < length marks → (b : Bool) → get_or marks i false ≡ b
    → slice_get (unmarked marks xs ++ marked marks xs)
    (if b then count_by not marks + marks_before marks i else others_before marks i)
    ≡ slice_get xs i
moved_by marks xs i e lt true h =
    ap (λ n. slice_get (unmarked marks xs ++ marked marks xs) (n + marks_before marks i))
    (sym (length-unmarked marks xs e))
    ∙ behind (unmarked marks xs) (marked marks xs) (marks_before marks i) ∙ marked_at marks xs i e h
moved_by marks xs i e lt false h =
    within (unmarked marks xs) (marked marks xs) (others_before marks i)
    (omega (arith, others_below marks i lt h, length-unmarked marks xs e))
    ∙ unmarked_at marks xs i e lt h

-- What stands at an index stands at its new index in the set.
pub moved_to : {X : Type 0} (marks : List Bool) (xs : List X) (i : ℕ) → length marks ≡ length xs
    → i < length marks
    → slice_get (unmarked marks xs ++ marked marks xs) (new_index marks i) ≡ slice_get xs i
moved_to marks xs i e lt = moved_by marks xs i e lt (get_or marks i false) refl

-- where a list ends, so does the one in another order
moved_or_not : {X : Type 0} (marks : List Bool) (xs : List X) (i : ℕ) → length marks ≡ length xs
    → (b : Bool) → nat_lt i (length marks) ≡ b
    → slice_get (unmarked marks xs ++ marked marks xs) (if b then new_index marks i else i)
    ≡ slice_get xs i
moved_or_not marks xs i e true lt = moved_to marks xs i e (ltb-true i (length marks) lt)
moved_or_not marks xs i e false lt =
    let past : length xs ≤ i = omega (arith, e, ltb-false i (length marks) lt) in
    slice_get_past (unmarked marks xs ++ marked marks xs) i
    (omega (arith, past, length_permutation _ _ (is_permutation marks xs e)))
    ∙ sym (slice_get_past xs i past)

pub moved_in_set : {X : Type 0} (marks : List Bool) (xs : List X) (i : ℕ)
    → length marks ≡ length xs
    → slice_get (unmarked marks xs ++ marked marks xs) (moved_index marks i) ≡ slice_get xs i
moved_in_set marks xs i e = moved_or_not marks xs i e (nat_lt i (length marks)) refl

-- ---- no two at one index

-- the indices themselves, in another order
abbrev indices : List Bool → List ℕ
indices marks = range_with_len 0 (length marks)

moved_itself : (marks : List Bool) (i : ℕ) → i < length marks
    → slice_get (unmarked marks (indices marks) ++ marked marks (indices marks))
    (moved_index marks i) ≡ Some i
moved_itself marks i lt =
    moved_in_set marks (indices marks) i (sym (length-range_with_len 0 (length marks)))
    ∙ slice_get-get_or (indices marks) i 0
    (omega (arith, lt, length-range_with_len 0 (length marks)))
    ∙ ap (λ (z : ℕ). Some z) (get_or-range_with_len 0 (length marks) i 0 lt ∙ no_more i)

moved_below : (marks : List Bool) (i : ℕ) → i < length marks
    → moved_index marks i < length marks
moved_below marks i lt =
    let order = unmarked marks (indices marks) ++ marked marks (indices marks) in
    let same = sym (length-range_with_len 0 (length marks)) in
    let found = slice_get_within order (moved_index marks i) i (moved_itself marks i lt) in
    let moved = is_permutation marks (indices marks) same in
    let long = length_permutation (indices marks) order moved in
    omega (arith, found, long, same)

outside : (marks : List Bool) (i : ℕ) → length marks ≤ i → moved_index marks i ≡ i
outside marks i le =
    ap (λ b. if b then new_index marks i else i) (le-ltb i (length marks) le)

-- two indices are one only where they were
both_within : (marks : List Bool) (i j : ℕ) → i < length marks → j < length marks
    → moved_index marks i ≡ moved_index marks j → i ≡ j
both_within marks i j below_i below_j e =
    let found : Some i ≡ Some j = sym (moved_itself marks i below_i)
    ∙ ap (slice_get (unmarked marks (indices marks) ++ marked marks (indices marks))) e
    ∙ moved_itself marks j below_j in
    cc

moved_apart : (marks : List Bool) (i j : ℕ) → moved_index marks i ≡ moved_index marks j → i ≡ j
moved_apart marks i j e = elim (cases_lt i (length marks)) [
  | inl within_i ↦ elim (cases_lt j (length marks)) [
    | inl within_j ↦ both_within marks i j within_i within_j e
    | inr past_j ↦ absurd
        (omega (arith, moved_below marks i within_i, e, outside marks j past_j, past_j))
  ]
  | inr past_i ↦ elim (cases_lt j (length marks)) [
    | inl within_j ↦ absurd
        (omega (arith, moved_below marks j within_j, e, outside marks i past_i, past_i))
    | inr past_j ↦ sym (outside marks i past_i) ∙ e ∙ outside marks j past_j
  ]
]

said_apart : (marks : List Bool) (i j : ℕ)
    → index_in_set marks (Some (pos i)) ≡ index_in_set marks (Some (pos j))
    → Some (pos i) ≡ Some (pos j)
said_apart marks i j e =
    let same : moved_index marks i ≡ moved_index marks j = cc in
    ap (λ (z : ℕ). Some (pos z)) (moved_apart marks i j same)

pub indices_apart : (marks : List Bool) (a b : Option ℤ)
    → index_in_set marks a ≡ index_in_set marks b → a ≡ b
indices_apart marks None None e = refl
indices_apart marks None (Some (pos j)) e = absurd cc
indices_apart marks None (Some (negsuc j)) e = absurd cc
indices_apart marks (Some (pos i)) None e = absurd cc
indices_apart marks (Some (pos i)) (Some (pos j)) e = said_apart marks i j e
indices_apart marks (Some (pos i)) (Some (negsuc j)) e = absurd cc
indices_apart marks (Some (negsuc i)) None e = absurd cc
indices_apart marks (Some (negsuc i)) (Some (pos j)) e = absurd cc
indices_apart marks (Some (negsuc i)) (Some (negsuc j)) e = cc

-- ---- what is marked comes last

new_index_of : (marks : List Bool) (i : ℕ) (b : Bool) → i < length marks → get_or marks i false ≡ b
    → moved_index marks i
    ≡ (if b then count_by not marks + marks_before marks i else others_before marks i)
new_index_of marks i b lt is =
    ap (λ t. if t then new_index marks i else i) (lt-ltb i (length marks) lt)
    ∙ ap (λ t. if t then count_by not marks + marks_before marks i else others_before marks i) is

pub marked_last : (marks : List Bool) (i j : ℕ) → i < length marks → j < length marks
    → get_or marks i false ≡ false → get_or marks j false ≡ true
    → moved_index marks i < moved_index marks j
marked_last marks i j below_i below_j other mark =
    omega (
      arith,
      others_below marks i below_i other,
      new_index_of marks i false below_i other,
      new_index_of marks j true below_j mark,
    )
