-- Keys that stand twice stand among those that share a slot.
use Rattle.std.proofs.Common.{◌≡◌, ◌≢◌, ℕ, ◌+◌, ◌*◌, ◌≤◌, ◌<◌, ◌%◌, Bool, true, false, cond, List}
use Rattle.std.proofs.Common.{[], ◌∷◌, ◌++◌, refl, sym, ap, subst, ◌∙◌, append-nil, arith, length}
use Rattle.std.proofs.Common.{◌||◌, inl, inr, get_or, set, map, take, drop, length-set}
use Rattle.std.proofs.Math.Dec.{eqb}
use Rattle.std.proofs.Math.Nat.{div-lt_iff_lt-mul, mul-lt-mul_of_pos_right, mul_comm}
use Rattle.std.specs.Prelude.{◌/◌, ◌^◌, min, nat_lt, slice_index_or}
use Rattle.std.specs.List.{IsDistinct, AllByRecursion, filter}
use Rattle.std.proofs.lemmas.Bool.{cases_Bool, eqb-true}
use Rattle.std.proofs.lemmas.Bool.Decides.{nat_tests}
use Rattle.std.proofs.lemmas.List.{map-append, get_or-set_same, get_or-set_other, drop_all}
use Rattle.std.proofs.lemmas.List.{take_all}
use Rattle.protobuf_parse_rules.specs.Crowds.{Counts, HasTwice, how_many, is_crowded, one_if}
use Rattle.protobuf_parse_rules.specs.Crowds.{slot_among, slots_of}
use Rattle.protobuf_parse_rules.specs.Wanted.{has_key}
use Rattle.protobuf_parse_model.proofs.Ascending.{eqb_comm}
use Rattle.protobuf_parse_rules.proofs.Lone.{eqb_same, few, how_many-append}

other_number : (a b : ℕ) → eqb a b ≡ false → a ≢ b
other_number a b e is = let same = eqb_same a b is in absurd cc

-- what stands at most once is distinct
first_never : (x y : ℕ) (ys : List ℕ) (b : Bool) → eqb y x ≡ b → how_many x (y ∷ ys) ≡ 0
    → (eqb x y ≡ false) × (how_many x ys ≡ 0)
first_never x y ys true same e =
    let one : one_if (eqb y x) ≡ 1 = ap one_if same in absurd (omega (arith, e, one))
first_never x y ys false other e = (eqb_comm x y ∙ other, omega (arith, e))

never : (x : ℕ) (xs : List ℕ) → how_many x xs ≡ 0 → AllByRecursion (λ y. eqb x y ≡ false) xs
never x [] e = tt
never x (y ∷ ys) e =
    let parts = first_never x y ys (eqb y x) refl e in
    (parts.0, never x ys parts.1)

alone : (x : ℕ) (xs : List ℕ) → how_many x (x ∷ xs) ≤ 1 → how_many x xs ≡ 0
alone x xs h =
    let one : one_if (eqb x x) ≡ 1 = ap one_if (eqb_same x x refl) in
    omega (arith, h, one)

rest_few : (k x : ℕ) (xs : List ℕ) → how_many k (x ∷ xs) ≤ 1 → how_many k xs ≤ 1
rest_few k x xs h = omega (arith, h)

pub distinct : (xs : List ℕ) → ((k : ℕ) → how_many k xs ≤ 1) → IsDistinct eqb xs
unfolding IsDistinct
distinct [] few = tt
distinct (x ∷ xs) few =
    (never x xs (alone x xs (few x)), distinct xs (λ k. rest_few k x xs (few k)))

-- a number stands in a list no more often than what is made of it among what is made of them
made_first : (f : ℕ → ℕ) (k x : ℕ) (xs : List ℕ) (b : Bool) → eqb x k ≡ b
    → how_many k xs ≤ how_many (f k) (map f xs)
    → how_many k (x ∷ xs) ≤ how_many (f k) (map f (x ∷ xs))
made_first f k x xs true same rest =
    let one : one_if (eqb x k) ≡ 1 = ap one_if same in
    let there : one_if (eqb (f x) (f k)) ≡ 1 =
    ap one_if (eqb_same (f x) (f k) (ap f (eqb-true x k same))) in
    omega (arith, one, there, rest)
made_first f k x xs false other rest =
    let none : one_if (eqb x k) ≡ 0 = ap one_if other in
    omega (arith, none, rest)

by_slot : (f : ℕ → ℕ) (k : ℕ) (xs : List ℕ) → how_many k xs ≤ how_many (f k) (map f xs)
by_slot f k [] = omega arith
by_slot f k (x ∷ xs) = made_first f k x xs (eqb x k) refl (by_slot f k xs)

-- those that pass a test, of a number that passes it
kept_first : (p : ℕ → Bool) (k x : ℕ) (xs : List ℕ) (b : Bool) → p x ≡ b → p k ≡ true
    → how_many k (filter p xs) ≡ how_many k xs
    → how_many k (cond b (x ∷ filter p xs) (filter p xs)) ≡ how_many k (x ∷ xs)
kept_first p k x xs true pass e rest = omega (arith, rest)
kept_first p k x xs false fails e rest =
    let other : eqb x k ≡ false = elim (cases_Bool (eqb x k)) [
      | inl same ↦ let never = sym fails ∙ ap p (eqb-true x k same) ∙ e in absurd cc
      | inr other ↦ other
    ] in
    let none : one_if (eqb x k) ≡ 0 = ap one_if other in
    omega (arith, none, rest)

kept : (p : ℕ → Bool) (k : ℕ) (xs : List ℕ) → p k ≡ true → how_many k (filter p xs) ≡ how_many k xs
kept p k [] e = refl
kept p k (x ∷ xs) e = kept_first p k x xs (p x) refl e (kept p k xs e)

least : (n : ℕ) → nat_lt 1 n ≡ false → n ≤ 1
least n e = grind (arith, nat_tests)

few_of : (a b n : ℕ) → a ≤ b → n ≡ min 2 b → n ≤ 1 → a ≤ 1
few_of a b n le is small = omega (arith, le, is, small)

-- a part of so many is below them
pub part_within : (part n : ℕ) → part < 2 ^ 32 → 0 < n → part * n / 2 ^ 32 < n
part_within part n small some =
    (div-lt_iff_lt-mul {k = 2 ^ 32} {x = part * n} {y = n} (omega arith)).1
    (subst (λ m. part * n < m) (mul_comm (2 ^ 32) n) (mul-lt-mul_of_pos_right small some))

upper_half : (k spread : ℕ) → k * spread % 2 ^ 64 / 2 ^ 32 < 2 ^ 32
upper_half k spread = omega arith

pub slot_within : (spread n k : ℕ) → 0 < n → slot_among spread n k < n
slot_within spread n k some =
    part_within (k * spread % 2 ^ 64 / 2 ^ 32) n (upper_half k spread) some

abbrev slot_in : ℕ → List ℕ → ℕ → ℕ
slot_in spread counts = slot_among spread (length counts)

-- A number that stands twice stands as often among those that share their slots.
pub crowd_has : (spread : ℕ) (keys counts : List ℕ) → 0 < length counts
    → Counts spread keys counts → HasTwice keys (filter (is_crowded spread counts) keys)
crowd_has spread keys counts some counted k twice = at (is_crowded spread counts k) refl
  where
    at : (b : Bool) → is_crowded spread counts k ≡ b
        → how_many k keys ≤ how_many k (filter (is_crowded spread counts) keys)
    at true crowded =
        let same = kept (is_crowded spread counts) k keys crowded in omega (arith, same)
    at false lone =
        let once = few_of (how_many k keys) (how_many (slot_in spread counts k)
        (slots_of spread (length counts) keys))
        (slice_index_or counts (slot_in spread counts k) 0) (by_slot (slot_in spread counts) k keys)
        (counted (slot_in spread counts k) (slot_within spread (length counts) k some))
        (least (slice_index_or counts (slot_in spread counts k) 0) lone) in
        absurd (omega (arith, once, twice))

pub has_all : (keys found : List ℕ) → found ≡ keys → HasTwice keys found
has_all keys found same k twice =
    let as_often : how_many k found ≡ how_many k keys = ap (how_many k) same in
    omega (arith, as_often)

pub has_more : (keys mid found : List ℕ) → HasTwice keys mid → HasTwice mid found
    → HasTwice keys found
has_more keys mid found p q k twice =
    let one = p k twice in
    let two = q k (omega (arith, twice, one)) in
    omega (arith, one, two)

-- none does, where those are distinct
pub has_none : (keys found none : List ℕ) → HasTwice keys found → IsDistinct eqb found
    → HasTwice keys none
has_none keys found none p apart k twice =
    let one = p k twice in
    let once = few found apart k in
    absurd (omega (arith, twice, one, once))

pub none_there : (k : ℕ) (xs : List ℕ) → has_key xs k ≡ false → how_many k xs ≡ 0
none_there k [] e = refl
none_there k (x ∷ xs) e = at (eqb k x) refl e (none_there k xs)
  where
    at : (b : Bool) → eqb k x ≡ b → (b || has_key xs k) ≡ false
        → (has_key xs k ≡ false → how_many k xs ≡ 0) → how_many k (x ∷ xs) ≡ 0
    at true same h more = absurd cc
    at false other h more =
        let none : one_if (eqb x k) ≡ 0 = ap one_if (eqb_comm x k ∙ other) in
        omega (arith, none, more h)

most : (n : ℕ) → nat_lt 1 n ≡ true → 2 ≤ n
most n e = grind (arith, nat_tests)

-- what isn't found stands once at most
pub once_of : (keys found : List ℕ) → HasTwice keys found → (k : ℕ) → has_key found k ≡ false
    → how_many k keys ≤ 1
once_of keys found p k e = at (nat_lt 1 (how_many k keys)) refl
  where
    at : (b : Bool) → nat_lt 1 (how_many k keys) ≡ b → how_many k keys ≤ 1
    at false few_there = least (how_many k keys) few_there
    at true many =
        let one = p k (most (how_many k keys) many) in
        let none = none_there k found e in
        absurd (omega (arith, one, none, most (how_many k keys) many))

-- ---- one number more

more_there : (f : ℕ → ℕ) (k p : ℕ) (keys : List ℕ) → how_many p (map f (keys ++ k ∷ []))
    ≡ how_many p (map f keys) + one_if (eqb (f k) p)
more_there f k p keys =
    ap (how_many p) (map-append f keys (k ∷ []))
    ∙ how_many-append p (map f keys) (f k ∷ [])
    ∙ omega arith

more_of : (c h : ℕ) → c ≡ min 2 h → c < 2 → c + 1 ≡ min 2 (h + 1)
more_of c h e l = omega (arith, e, l)

no_more_of : (c h : ℕ) → c ≡ min 2 h → 2 ≤ c → c ≡ min 2 (h + 1)
no_more_of c h e l = omega (arith, e, l)

no_other_of : (c h : ℕ) → c ≡ min 2 h → c ≡ min 2 (h + 0)
no_other_of c h e = omega (arith, e)

-- the slot of the number was said to have fewer than two
pub counted_more : (spread : ℕ) (keys counts : List ℕ) (k q : ℕ)
    → q ≡ slot_among spread (length counts) k → q < length counts
    → get_or counts q 0 < 2 → Counts spread keys counts
    → Counts spread (keys ++ k ∷ []) (set counts q (get_or counts q 0 + 1))
counted_more spread keys counts k q is within small counted p lt =
    at (eqb (slot_in spread counts k) p) refl
    ∙ ap (λ n. min 2 (how_many p (slots_of spread n (keys ++ k ∷ []))))
    (sym (length-set counts q (get_or counts q 0 + 1)))
  where
    there : p < length counts
    there = subst (λ n. p < n) (length-set counts q (get_or counts q 0 + 1)) lt

    at : (b : Bool) → eqb (slot_in spread counts k) p ≡ b
        → get_or (set counts q (get_or counts q 0 + 1)) p 0
        ≡ min 2 (how_many p (map (slot_in spread counts) (keys ++ k ∷ [])))
    at true same =
        let here : p ≡ q = sym (eqb-true (slot_in spread counts k) p same) ∙ sym is in
        ap (λ x. get_or (set counts q (get_or counts q 0 + 1)) x 0) here
        ∙ get_or-set_same counts q (get_or counts q 0 + 1) 0 within
        ∙ more_of (get_or counts q 0) (how_many q (map (slot_in spread counts) keys))
        (counted q within) small
        ∙ ap (λ x. min 2 (how_many x (map (slot_in spread counts) keys) + 1)) (sym here)
        ∙ ap (λ b. min 2 (how_many p (map (slot_in spread counts) keys) + one_if b)) (sym same)
        ∙ ap (min 2) (sym (more_there (slot_in spread counts) k p keys))
    at false other =
        let apart : p ≢ q = λ here. other_number (slot_in spread counts k) p other
        (sym is ∙ sym here) in
        get_or-set_other counts q p (get_or counts q 0 + 1) 0 apart
        ∙ no_other_of (get_or counts p 0) (how_many p (map (slot_in spread counts) keys))
        (counted p there)
        ∙ ap (λ b. min 2 (how_many p (map (slot_in spread counts) keys) + one_if b)) (sym other)
        ∙ ap (min 2) (sym (more_there (slot_in spread counts) k p keys))

-- or to have two and more already
pub counted_enough : (spread : ℕ) (keys counts : List ℕ) (k q : ℕ)
    → q ≡ slot_among spread (length counts) k
    → q < length counts → 2 ≤ get_or counts q 0 → Counts spread keys counts
    → Counts spread (keys ++ k ∷ []) counts
counted_enough spread keys counts k q is within large counted p lt =
    at (eqb (slot_in spread counts k) p) refl
  where
    at : (b : Bool) → eqb (slot_in spread counts k) p ≡ b
        → get_or counts p 0 ≡ min 2 (how_many p (map (slot_in spread counts) (keys ++ k ∷ [])))
    at true same =
        let here : q ≡ p = is ∙ eqb-true (slot_in spread counts k) p same in
        no_more_of (get_or counts p 0) (how_many p (map (slot_in spread counts) keys))
        (counted p lt) (subst (λ x. 2 ≤ get_or counts x 0) here large)
        ∙ ap (λ b. min 2 (how_many p (map (slot_in spread counts) keys) + one_if b)) (sym same)
        ∙ ap (min 2) (sym (more_there (slot_in spread counts) k p keys))
    at false other =
        no_other_of (get_or counts p 0) (how_many p (map (slot_in spread counts) keys))
        (counted p lt)
        ∙ ap (λ b. min 2 (how_many p (map (slot_in spread counts) keys) + one_if b)) (sym other)
        ∙ ap (min 2) (sym (more_there (slot_in spread counts) k p keys))

-- a list that is written back whole
pub written_back : (items new : List ℕ) (n : ℕ) → length new ≡ length items → n ≡ length items
    → take n (new ++ drop (length new) items) ≡ new
written_back items new n same is =
    ap (λ rest. take n (new ++ rest)) (drop_all (length new) items (omega (arith, same)))
    ∙ ap (take n) (append-nil new)
    ∙ take_all n new (omega (arith, same, is))
