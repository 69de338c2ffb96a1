-- Fields one after the other, by occurrences in ascending order of their numbers.
use Rattle.std.proofs.Common.{◌≡◌, ℕ, zero, suc, ◌≤◌, ◌<◌, ◌==◌, Bool, true, false, List, []}
use Rattle.std.proofs.Common.{◌∷◌, ◌++◌, filter, cond, Option, Some, None, refl, sym, ap, ◌∙◌}
use Rattle.std.proofs.Common.{subst, append-nil, arith, nat_le}
use Rattle.std.proofs.lemmas.Bool.Decides.{nat_tests}
use Rattle.protobuf_parse_merged.specs.declared.fault.MergeError.{MergeError}
use Rattle.protobuf_parse_merged.specs.declared.fault.MergeError.TheVariants as error
use Rattle.protobuf_parse_merged.specs.Answers.{Answer, ◌>>=◌, Fails}
use Rattle.protobuf_parse_merged.specs.Merged.{Value, FieldItem}
use Rattle.protobuf_parse_merged.specs.Declarations.{Declared, FieldsByNumber}
use Rattle.protobuf_parse_merged.specs.Occurrences.{Held, Occurrence}
use Rattle.protobuf_parse_merged.specs.Maps.{arranged}
use Rattle.protobuf_parse_merged.specs.Merging.{Inner, all_values, by_last, field_values}
use Rattle.protobuf_parse_merged.specs.Merging.{fields_below, held_at, present}
use Rattle.protobuf_parse_merged.specs.Inside.{AreOf, Ascends, StartsOtherwise, held_in}

-- ---- what stands there of a number

is_other : (a b : ℕ) → (a ≡ b → ⊥) → (a == b) ≡ false
is_other a b other = grind (arith, nat_tests)

is_same : (a b : ℕ) → a ≡ b → (a == b) ≡ true
is_same a b same = grind (arith, nat_tests)

-- whether an occurrence has that number
abbrev of_number : ℕ → Occurrence → Bool
of_number n o = o.number == n

both_at : (n : ℕ) (os ps : List Occurrence) → held_at n (os ++ ps) ≡ held_at n os ++ held_at n ps
both_at n [] ps = refl
both_at n (o ∷ os) ps = by_test (of_number n o) (both_at n os ps)
  where
    by_test : (b : Bool) → held_at n (os ++ ps) ≡ held_at n os ++ held_at n ps
        → held_in (cond b (o ∷ filter (of_number n) (os ++ ps)) (filter (of_number n) (os ++ ps)))
        ≡ held_in (cond b (o ∷ filter (of_number n) os) (filter (of_number n) os)) ++ held_at n ps
    by_test true h = ap (λ (hs : List Held). o.held ∷ hs) h
    by_test false h = h

none_of_others : (n m : ℕ) (os : List Occurrence) → AreOf n os → (n ≡ m → ⊥) → held_at m os ≡ []
none_of_others n m [] all other = refl
none_of_others n m (o ∷ os) all other =
    rw (is_other o.number m (λ e. other (sym all.0 ∙ e))) (none_of_others n m os all.1 other)

all_of_one : (n : ℕ) (os : List Occurrence) → AreOf n os → held_at n os ≡ held_in os
all_of_one n [] all = refl
all_of_one n (o ∷ os) all =
    rw (is_same o.number n all.0) (ap (λ (hs : List Held). o.held ∷ hs) (all_of_one n os all.1))

none_below : (k m : ℕ) (os : List Occurrence) → Ascends k os → m < k → held_at m os ≡ []
none_below k m [] up less = refl
none_below k m (o ∷ os) up less =
    let le = up.0 in
    rw (is_other o.number m (λ e. omega arith))
    (none_below o.number m os up.1 (omega arith))

-- ---- in order

-- what stands behind those of one number
behind_run : (n k : ℕ) (run others : List Occurrence) → AreOf n run → k ≡ n → Ascends k (run ++ others)
    → Ascends n others
behind_run n k [] others all is up = subst (λ m. Ascends m others) is up
behind_run n k (o ∷ run) others all is up = behind_run n o.number run others all.1 all.0 up.1

past_run : (n : ℕ) (others : List Occurrence) → Ascends n others → StartsOtherwise n others
    → Ascends (suc n) others
past_run n [] up other = tt
past_run n (o ∷ os) up other =
    let le = up.0 in
    let less : suc n ≤ o.number = grind (arith, other) in
    (less, up.1)

-- The first has that number.
abbrev pub StartsWith : ℕ → List Occurrence → Type 0
StartsWith n [] = ⊥
StartsWith n (o ∷ os) = o.number ≡ n

same_start : (n : ℕ) (others : List Occurrence) → StartsOtherwise n others → StartsWith n others
    → ⊥
same_start n [] other is = is
same_start n (o ∷ os) other is = other is

-- ---- fields

none_arranged : (b : Bool) → arranged b [] ≡ []
none_arranged true = refl
none_arranged false = refl

module _ (inner : Inner) (declared : FieldsByNumber) (os : List Occurrence) where
  nothing_by : (d : Declared) (b : Bool)
      → cond b (all_values inner d []) (by_last inner d [] None) ≡ Some []
  nothing_by d true = ap (λ (vs : List Value). Some vs) (none_arranged d.is_map)
  nothing_by d false = refl

  nothing_there : (d : Option Declared) → field_values inner d [] ≡ Some []
  nothing_there None = refl
  nothing_there (Some d) = nothing_by d d.repeated

  -- one number more
  abbrev with_one : Answer (List FieldItem) → ℕ → Answer (List Value) → Answer (List FieldItem)
  with_one fields n values = fields >>= λ (fs : List FieldItem). values
      >>= λ (vs : List Value). Some (fs ++ present n vs)

  without : (n : ℕ) (fields : Answer (List FieldItem)) → with_one fields n (Some []) ≡ fields
  without n (Some fs) = ap (λ (x : List FieldItem). Some x) (append-nil fs)
  without n None = refl

  at_next : (n : ℕ) → fields_below inner declared os (suc n)
      ≡ with_one (fields_below inner declared os n) n (field_values inner (declared n) (held_at n os))
  unfolding fields_below
  at_next n = refl

  none_next : (n : ℕ) → held_at n os ≡ []
      → fields_below inner declared os (suc n) ≡ fields_below inner declared os n
  none_next n none =
      at_next n
      ∙ ap (λ (hs : List Held).
      with_one (fields_below inner declared os n) n (field_values inner (declared n) hs)) none
      ∙ ap (with_one (fields_below inner declared os n) n) (nothing_there (declared n))
      ∙ without n (fields_below inner declared os n)

  -- Between these numbers nothing stands.
  abbrev Empty : ℕ → ℕ → Type 0
  Empty k m = (n : ℕ) → k ≤ n → n < m → held_at n os ≡ []

  gap_at : (m k : ℕ) (b : Bool) → nat_le k m ≡ b → k ≤ suc m → Empty k (suc m)
      → (k ≤ m → fields_below inner declared os m ≡ fields_below inner declared os k)
      → fields_below inner declared os (suc m) ≡ fields_below inner declared os k
  gap_at m k true is le none before =
      let below : k ≤ m = grind (arith, nat_tests) in
      none_next m (none m below (omega arith)) ∙ before below
  gap_at m k false is le none before =
      let same : suc m ≡ k = grind (arith, nat_tests) in
      ap (fields_below inner declared os) same

  gap : (m k : ℕ) → k ≤ m → Empty k m
      → fields_below inner declared os m ≡ fields_below inner declared os k
  gap zero k le none =
      let same : zero ≡ k = omega arith in
      ap (fields_below inner declared os) same
  gap (suc m) k le none =
      gap_at m k (nat_le k m) refl le none
      (λ below. gap m k below (λ n a b. none n a (omega arith)))

  stays_at : (m k : ℕ) (b : Bool) → nat_le k m ≡ b → k ≤ suc m
      → fields_below inner declared os k ≡ None
      → (k ≤ m → fields_below inner declared os m ≡ None)
      → fields_below inner declared os (suc m) ≡ None
  stays_at m k true is le none before =
      let below : k ≤ m = grind (arith, nat_tests) in
      at_next m
      ∙ ap (λ (x : Answer (List FieldItem)).
      with_one x m (field_values inner (declared m) (held_at m os))) (before below)
  stays_at m k false is le none before =
      let same : suc m ≡ k = grind (arith, nat_tests) in
      ap (fields_below inner declared os) same ∙ none

  stays_none : (m k : ℕ) → k ≤ m → fields_below inner declared os k ≡ None
      → fields_below inner declared os m ≡ None
  stays_none zero k le none =
      let same : zero ≡ k = omega arith in
      ap (fields_below inner declared os) same ∙ none
  stays_none (suc m) k le none =
      stays_at m k (nat_le k m) refl le none (λ below. stays_none m k below none)

  -- The fields below a number are those in front, and the others come of the rest.
  pub record ToGroup (most : ℕ) (front : List FieldItem) (rest : List Occurrence) : Type 0 where
    pub from : ℕ
    pub small : from ≤ most
    pub so_far : fields_below inner declared os from ≡ Some front
    pub same : (n : ℕ) → from ≤ n → held_at n os ≡ held_at n rest
    pub ascends : Ascends from rest

  pub begins : (most : ℕ) → Ascends 0 os → ToGroup most [] os
  unfolding fields_below
  begins most up = record { from = 0; small = omega arith; so_far = refl; same = λ n le. refl; ascends = up }

  -- the run at the front of what is left
  record Run (n : ℕ) (run others : List Occurrence) (front : List FieldItem) : Type 0 where
    pub all : held_at n os ≡ held_in run
    pub so_far : fields_below inner declared os n ≡ Some front
    pub later : (m : ℕ) → suc n ≤ m → held_at m os ≡ held_at m others
    pub ascends : Ascends (suc n) others

  run_at : (most : ℕ) (front : List FieldItem) (n : ℕ) (o : Occurrence) (run others : List Occurrence)
      → AreOf n (o ∷ run) → StartsOtherwise n others
      → ToGroup most front ((o ∷ run) ++ others) → Run n (o ∷ run) others front
  run_at most front n o run others all other left =
      let is : o.number ≡ n = all.0 in
      let first : left.from ≤ o.number = left.ascends.0 in
      let le : left.from ≤ n = omega arith in
      let behind : Ascends n others = behind_run n o.number run others all.1 is left.ascends.1 in
      let past : Ascends (suc n) others = past_run n others behind other in
      let up : Ascends n ((o ∷ run) ++ others) = (omega arith, left.ascends.1) in
      record {
        all = left.same n le
            ∙ both_at n (o ∷ run) others
            ∙ ap (λ (hs : List Held). held_at n (o ∷ run) ++ hs)
            (none_below (suc n) n others past (omega arith))
            ∙ append-nil (held_at n (o ∷ run))
            ∙ all_of_one n (o ∷ run) all;
        so_far = gap n left.from le
            (λ m a b. left.same m a ∙ none_below n m ((o ∷ run) ++ others) up b)
            ∙ left.so_far;
        later = λ m a.
            left.same m (omega arith)
            ∙ both_at m (o ∷ run) others
            ∙ ap (λ (hs : List Held). hs ++ held_at m others)
            (none_of_others n m (o ∷ run) all (λ e. omega arith));
        ascends = past;
      }

  -- one field more
  pub goes_on : (most : ℕ) (front : List FieldItem) (n : ℕ) (o : Occurrence)
      (run others : List Occurrence) (vs : List Value) → n < most → AreOf n (o ∷ run) → StartsOtherwise n others
      → field_values inner (declared n) (held_in (o ∷ run)) ≡ Some vs
      → ToGroup most front ((o ∷ run) ++ others) → ToGroup most (front ++ present n vs) others
  goes_on most front n o run others vs less all other values left =
      let r = run_at most front n o run others all other left in
      record {
        from = suc n;
        small = omega arith;
        so_far = at_next n
            ∙ ap (λ (x : Answer (List FieldItem)).
            with_one x n (field_values inner (declared n) (held_at n os))) r.so_far
            ∙ ap (λ (hs : List Held). with_one (Some front) n (field_values inner (declared n) hs))
            r.all
            ∙ ap (with_one (Some front) n) values;
        same = r.later;
        ascends = r.ascends;
      }

  -- Where the next field has no values, there are no fields at all.
  pub ends : (most : ℕ) (front : List FieldItem) (n : ℕ) (o : Occurrence)
      (run others : List Occurrence) (e : MergeError) → n < most → AreOf n (o ∷ run)
      → StartsOtherwise n others
      → Fails e (field_values inner (declared n) (held_in (o ∷ run)))
      → ToGroup most front ((o ∷ run) ++ others) → Fails e (fields_below inner declared os most)
  ends most front n o run others error.Memory less all other fails left = tt
  ends most front n o run others error.TooDeep less all other fails left =
      let r = run_at most front n o run others all other left in
      stays_none most (suc n) (omega arith)
      (at_next n
      ∙ ap (λ (x : Answer (List FieldItem)).
      with_one x n (field_values inner (declared n) (held_at n os))) r.so_far
      ∙ ap (λ (hs : List Held). with_one (Some front) n (field_values inner (declared n) hs)) r.all
      ∙ ap (with_one (Some front) n) fails)

  pub run_goes_on : (most : ℕ) (front : List FieldItem) (n : ℕ) (rest run others : List Occurrence)
      (vs : List Value) → n < most → AreOf n run → StartsOtherwise n others → rest ≡ run ++ others
      → StartsWith n rest → field_values inner (declared n) (held_in run) ≡ Some vs
      → ToGroup most front rest → ToGroup most (front ++ present n vs) others
  run_goes_on most front n rest [] others vs less all other is first values left =
      absurd (same_start n others other (subst (StartsWith n) is first))
  run_goes_on most front n rest (o ∷ run) others vs less all other is first values left =
      goes_on most front n o run others vs less all other values (subst (ToGroup most front) is left)

  pub run_ends : (most : ℕ) (front : List FieldItem) (n : ℕ) (rest run others : List Occurrence)
      (e : MergeError) → n < most → AreOf n run → StartsOtherwise n others → rest ≡ run ++ others
      → StartsWith n rest → Fails e (field_values inner (declared n) (held_in run))
      → ToGroup most front rest → Fails e (fields_below inner declared os most)
  run_ends most front n rest [] others e less all other is first fails left =
      absurd (same_start n others other (subst (StartsWith n) is first))
  run_ends most front n rest (o ∷ run) others e less all other is first fails left =
      ends most front n o run others e less all other fails (subst (ToGroup most front) is left)

  -- Nothing is left.
  pub is_done : (most : ℕ) (front : List FieldItem) → ToGroup most front []
      → fields_below inner declared os most ≡ Some front
  is_done most front left =
      gap most left.from left.small (λ n a b. left.same n a) ∙ left.so_far

-- The same fields come of what stands alike at each number.
pub same_fields : (inner : Inner) (declared : FieldsByNumber) (os ps : List Occurrence)
    → ((n : ℕ) → held_at n ps ≡ held_at n os) → (m : ℕ)
    → fields_below inner declared ps m ≡ fields_below inner declared os m
unfolding fields_below
same_fields inner declared os ps alike zero = refl
same_fields inner declared os ps alike (suc m) =
    rw (same_fields inner declared os ps alike m, alike m) refl
