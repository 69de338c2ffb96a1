-- Of fewer files the numbers are distinct where those of all are.
use Rattle.std.proofs.Common.{◌≡◌, ℕ, ℤ, ◌+◌, ◌≤◌, Bool, true, false, cond, not, ◌&&◌, ◌||◌, ◌⊎◌}
use Rattle.std.proofs.Common.{inl}
use Rattle.std.proofs.Common.{inr, List, [], ◌∷◌, ◌++◌, refl, sym, ap, subst, ◌∙◌, arith}
use Rattle.std.specs.Prelude.{bytes_eq, filter}
use Rattle.std.specs.List.{flat_map, list_any}
use Rattle.std.specs.Ordering.{int_eq}
use Rattle.std.proofs.lemmas.Bool.Decides.{Decides-int_eq}
use Rattle.std.proofs.lemmas.Slice.Eq.{bytes_eq-Decides}
use Rattle.std.proofs.lemmas.List.Elements.{filter-append}
use Rattle.std.proofs.lemmas.Grind.{flat_map-append}
use Rattle.protobuf_parse_model.specs.Descriptors.{Text, FieldDescriptor, FileDescriptor}
use Rattle.protobuf_parse_model.specs.Faults.{Among}
use Rattle.protobuf_parse_wire.specs.Declarations.{Declaration, messages_declared_in, extends}
use Rattle.protobuf_parse_wire.specs.Declarations.{extensions_extending, extensions_declared_in}
use Rattle.protobuf_parse_wire.specs.Declarations.{have_distinct_numbers}
use Rattle.protobuf_parse_rules.specs.Law.{AreEachOnce, AreWithin, SomeAreApart, among}
use Rattle.protobuf_parse_rules.proofs.Apart.{among_append, among_left, among_right, apart}
use Rattle.protobuf_parse_rules.proofs.Counting.{distinct, numbered, numbered-append, one_if}

-- ---- sums over paths

abbrev total : (Text → ℕ) → List Text → ℕ
total w [] = 0
total w (p ∷ ps) = w p + total w ps

-- the paths without the first that is this one
abbrev without : Text → List Text → List Text
without p [] = []
without p (x ∷ xs) = cond (bytes_eq p x) xs (x ∷ without p xs)

total_without : (w : Text → ℕ) (p : Text) (xs : List Text) → among p xs ≡ true
    → w p + total w (without p xs) ≡ total w xs
total_without w p [] e = absurd cc
total_without w p (x ∷ xs) e = at (bytes_eq p x) refl e (total_without w p xs)
  where
    at : (b : Bool) → bytes_eq p x ≡ b → (b || among p xs) ≡ true
        → (among p xs ≡ true → w p + total w (without p xs) ≡ total w xs)
        → w p + total w (cond b xs (x ∷ without p xs)) ≡ w x + total w xs
    at true same h more =
        let equal : w p ≡ w x = ap w ((bytes_eq-Decides p x).0 same) in
        omega (arith, equal)
    at false same h more = omega (arith, more h)

stays_among : (p q : Text) (xs : List Text) → (p ≡ q → ⊥) → among q xs ≡ true
    → among q (without p xs) ≡ true
stays_among p q [] other e = e
stays_among p q (x ∷ xs) other e = at (bytes_eq p x) (bytes_eq q x) refl refl e
    (stays_among p q xs other)
  where
    at : (a b : Bool) → bytes_eq p x ≡ a → bytes_eq q x ≡ b → (b || among q xs) ≡ true
        → (among q xs ≡ true → among q (without p xs) ≡ true)
        → among q (cond a xs (x ∷ without p xs)) ≡ true
    at true true f g h more =
        absurd (other ((bytes_eq-Decides p x).0 f ∙ sym ((bytes_eq-Decides q x).0 g)))
    at true false f g h more = h
    at false true f g h more = ap (λ b. b || among q (without p xs)) g
    at false false f g h more = ap (λ b. b || among q (without p xs)) g ∙ more h

not_among : (p q : Text) (ps : List Text) → among p ps ≡ false → among q ps ≡ true → p ≡ q → ⊥
not_among p q ps out within same =
    let in_too : among p ps ≡ true = ap (λ (x : Text). among x ps) same ∙ within in
    absurd cc

total_within : (w : Text → ℕ) (ps xs : List Text) → AreEachOnce ps → AreWithin ps xs
    → total w ps ≤ total w xs
total_within w [] xs once within = omega arith
total_within w (p ∷ ps) xs once within =
    let first : among p xs ≡ true = within p (ap (λ b. b || among p ps)
    ((bytes_eq-Decides p p).1 refl)) in
    let others : AreWithin ps (without p xs) = λ q h. stays_among p q xs
    (not_among p q ps once.0 h) (within q (or_true (bytes_eq q p) (among q ps) h)) in
    omega (
      arith,
      total_without w p xs first,
      total_within w ps (without p xs) once.1 others,
    )
  where
    or_true : (a b : Bool) → b ≡ true → (a || b) ≡ true
    or_true true b e = refl
    or_true false b e = e

-- ---- numbers that are distinct stand once each

none_numbered : (n : ℤ) (fs : List FieldDescriptor)
    → list_any (λ (o : FieldDescriptor). int_eq n o.number) fs ≡ false → numbered n fs ≡ 0
none_numbered n [] e = refl
none_numbered n (f ∷ fs) e = at (int_eq n f.number) (int_eq f.number n) refl refl e
    (none_numbered n fs)
  where
    at : (a b : Bool) → int_eq n f.number ≡ a → int_eq f.number n ≡ b
        → (a || list_any (λ (o : FieldDescriptor). int_eq n o.number) fs) ≡ false
        → (list_any (λ (o : FieldDescriptor). int_eq n o.number) fs ≡ false → numbered n fs ≡ 0)
        → one_if (int_eq f.number n) + numbered n fs ≡ 0
    at true b p q h more = absurd cc
    at false true p q h more =
        let same : int_eq n f.number ≡ true =
        (Decides-int_eq n f.number).1 (sym ((Decides-int_eq f.number n).0 q)) in
        absurd cc
    at false false p q h more =
        let zero : one_if (int_eq f.number n) ≡ 0 = ap one_if q in
        omega (arith, zero, more h)

once_each : (fs : List FieldDescriptor) → have_distinct_numbers fs ≡ true → (n : ℤ)
    → numbered n fs ≤ 1
once_each [] e n = omega arith
once_each (f ∷ fs) e n =
    at (list_any (λ (o : FieldDescriptor). int_eq f.number o.number) fs) (int_eq f.number n)
    refl refl e (λ h. once_each fs h n)
  where
    at : (a b : Bool) → list_any (λ (o : FieldDescriptor). int_eq f.number o.number) fs ≡ a
        → int_eq f.number n ≡ b → (not a && have_distinct_numbers fs) ≡ true
        → (have_distinct_numbers fs ≡ true → numbered n fs ≤ 1)
        → one_if (int_eq f.number n) + numbered n fs ≤ 1
    at true b p q h more = absurd cc
    at false true p q h more =
        let zero : numbered n fs ≡ 0 =
        ap (λ (k : ℤ). numbered k fs) (sym ((Decides-int_eq f.number n).0 q))
        ∙ none_numbered f.number fs p in
        let one : one_if (int_eq f.number n) ≡ 1 = ap one_if q in
        omega (arith, zero, one)
    at false false p q h more =
        let zero : one_if (int_eq f.number n) ≡ 0 = ap one_if q in
        omega (arith, zero, more h)

-- ---- files by their paths

module _ (at : Text → List FileDescriptor) where
  -- how often the number stands among the extensions of the message in the file of a path
  abbrev weight : Text → ℤ → Text → ℕ
  weight name n p = numbered n (filter (extends name) (flat_map extensions_declared_in (at p)))

  weights : (name : Text) (n : ℤ) (ps : List Text)
      → numbered n (extensions_extending (flat_map at ps) name) ≡ total (weight name n) ps
  weights name n [] = refl
  weights name n (p ∷ ps) =
      ap (λ fs. numbered n (filter (extends name) fs))
      (flat_map-append extensions_declared_in (at p) (flat_map at ps))
      ∙ ap (numbered n) (filter-append (extends name) (flat_map extensions_declared_in (at p))
      (flat_map extensions_declared_in (flat_map at ps)))
      ∙ numbered-append n (filter (extends name) (flat_map extensions_declared_in (at p)))
      (filter (extends name) (flat_map extensions_declared_in (flat_map at ps)))
      ∙ ap (λ k. weight name n p + k) (weights name n ps)

  abbrev messages_at : Text → List Declaration
  messages_at p = flat_map messages_declared_in (at p)

  among_file : (p : Text) (xs : List Text) (d : Declaration) → among p xs ≡ true
      → Among (messages_at p) d → Among (flat_map messages_declared_in (flat_map at xs)) d
  among_file p [] d e h = absurd cc
  among_file p (x ∷ xs) d e h =
      subst (λ ds. Among ds d)
      (sym (flat_map-append messages_declared_in (at x) (flat_map at xs)))
      (by_test (bytes_eq p x) refl e (λ i. among_file p xs d i h))
    where
      by_test : (b : Bool) → bytes_eq p x ≡ b → (b || among p xs) ≡ true
          → (among p xs ≡ true → Among (flat_map messages_declared_in (flat_map at xs)) d)
          → Among (messages_at x ++ flat_map messages_declared_in (flat_map at xs)) d
      by_test true same i more =
          among_left (messages_at x) _ d (subst (λ (q : Text). Among (messages_at q) d)
          ((bytes_eq-Decides p x).0 same) h)
      by_test false same i more = among_right (messages_at x) _ d (more i)

  among_all : (ps xs : List Text) (d : Declaration) → AreWithin ps xs
      → Among (flat_map messages_declared_in (flat_map at ps)) d
      → Among (flat_map messages_declared_in (flat_map at xs)) d
  among_all [] xs d within h = elim h [ ]
  among_all (p ∷ ps) xs d within h =
      cases (among_append (messages_at p) (flat_map messages_declared_in (flat_map at ps)) d
      (subst (λ ds. Among ds d)
      (flat_map-append messages_declared_in (at p) (flat_map at ps)) h))
      (among_all ps xs d (λ q e. within q (or_true (bytes_eq q p) (among q ps) e)))
    where
      or_true : (a b : Bool) → b ≡ true → (a || b) ≡ true
      or_true true b e = refl
      or_true false b e = e

      cases : Among (messages_at p) d
          ⊎ Among (flat_map messages_declared_in (flat_map at ps)) d
          → (Among (flat_map messages_declared_in (flat_map at ps)) d
          → Among (flat_map messages_declared_in (flat_map at xs)) d)
          → Among (flat_map messages_declared_in (flat_map at xs)) d
      cases (inl a) more = among_file p xs d (within p (ap (λ b. b || among p ps)
          ((bytes_eq-Decides p p).1 refl))) a
      cases (inr b) more = more b

pub some_apart : SomeAreApart
some_apart at some all once within none d among =
    let whole = apart (flat_map at all) none d (among_all at some all d within among) in
    distinct (d.parts.field ++ extensions_extending (flat_map at some) d.name)
    (λ n. omega (
      arith,
      once_each (d.parts.field ++ extensions_extending (flat_map at all) d.name) whole n,
      numbered-append n d.parts.field (extensions_extending (flat_map at all) d.name),
      numbered-append n d.parts.field (extensions_extending (flat_map at some) d.name),
      weights at d.name n some,
      weights at d.name n all,
      total_within (weight at d.name n) some all once within,
    ))
