-- Files in another order: they have the same faults and declare the same.
use Rattle.std.proofs.Common.{◌≡◌, ℕ, ◌+◌, ◌<◌, Bool, true, false, cond, ◌||◌, ◌⊎◌, inl, inr, List}
use Rattle.std.proofs.Common.{[], ◌∷◌, ◌++◌, map, filter, flat_map, length, Option, Some, None}
use Rattle.std.proofs.Common.{refl, sym, ap, ◌∙◌, subst, arith, bytes_eq}
use Rattle.std.specs.Prelude.{option_to_list, nat_lt}
use Rattle.std.specs.List.{find}
use Rattle.std.specs.Option.{option_or}
use Rattle.std.proofs.Math.Path.{fun_ext}
use Rattle.std.proofs.lemmas.Bool.{cases_Bool, false_from_ne_true, ltb-true, lt-ltb, or_left}
use Rattle.std.proofs.lemmas.Bool.{or_right, or_cases}
use Rattle.std.proofs.lemmas.Grind.{flat_map-append}
use Rattle.std.proofs.lemmas.List.{append-nil, length-append}
use Rattle.std.proofs.lemmas.List.Elements.{filter-append}
use Rattle.std.proofs.lemmas.List.Folds.{find-append}
use Rattle.std.proofs.lemmas.Slice.Eq.{bytes_eq-Decides}
use Rattle.protobuf_parse_syntax.specs.Trees.{FileSyntax}
use Rattle.protobuf_parse_model.specs.declared.error.ElabErrorKind.{ElabErrorKind}
use Rattle.protobuf_parse_model.specs.declared.error.ElabErrorKind.TheVariants.{TypeDeclaredTwice}
use Rattle.protobuf_parse_model.specs.declared.error.ElabErrorKind.TheVariants.{ExtensionDeclaredTwice}
use Rattle.protobuf_parse_model.specs.Descriptors.{Text}
use Rattle.protobuf_parse_model.specs.Faults.{Among, here, there, Fault}
use Rattle.protobuf_parse_model.specs.Declarations.{DeclaredType, file_types, file_generated}
use Rattle.protobuf_parse_model.specs.Lookup.{declared}
use Rattle.protobuf_parse_model.specs.Linking.{type_names, extension_names, occurrences, repeated}
use Rattle.protobuf_parse_model.specs.Linking.{beginning, declared_twice, link_faults}
use Rattle.protobuf_parse_model.proofs.Blaming.{among_left, among_right}
use Rattle.protobuf_parse_elaboration.specs.FileDescriptor.{types_of_files}
use Rattle.protobuf_parse_elaboration.specs.FilesByPath.{Trees, among, AreDistinct, AreJust}
use Rattle.protobuf_parse_elaboration.specs.FilesByPath.{trees_at}
use Rattle.protobuf_parse_elaboration.proofs.Lookups.{found_is}

-- two lists of paths with the same members; with `AreDistinct` of both, each once in each
abbrev pub SameMembers : List Text → List Text → Type 0
SameMembers xs ys = (p : Text) → among p xs ≡ among p ys

-- ---- texts

-- texts that are equal by the test are one
pub same-text : (p q : Text) → bytes_eq p q ≡ true → p ≡ q
same-text p q h = (bytes_eq-Decides p q).0 h

-- a text is equal to itself
text-itself : (p : Text) → bytes_eq p p ≡ true
text-itself p = (bytes_eq-Decides p p).1 refl

-- no test passes and fails
pub true-false : (b : Bool) → b ≡ true → b ≡ false → ⊥
true-false b h k = cc

-- which of two texts comes first makes no difference
apart : (p q : Text) → bytes_eq p q ≡ false → bytes_eq q p ≡ false
apart p q h = false_from_ne_true (bytes_eq q p)
    (λ k. true-false (bytes_eq p q) ((bytes_eq-Decides p q).1 (sym (same-text q p k))) h)

-- ---- what stands in a list

-- what stands in a list is its first element or stands behind it
first_or : {A : Type 0} {x y : A} {ys : List A} → Among (y ∷ ys) x → (y ≡ x) ⊎ Among ys x
first_or here = inl refl
first_or (there h) = inr h

-- nothing stands in the empty list
nothing-in : {A : Type 0} {x : A} → Among [] x → ⊥
nothing-in h = elim h [ ]

-- what stands in two lists stands in one of them
among-cases : {A : Type 0} {x : A} (xs ys : List A) → Among (xs ++ ys) x → Among xs x ⊎ Among ys x
among-cases [] ys h = inr h
among-cases (z ∷ xs) ys here = inl here
among-cases (z ∷ xs) ys (there h) =
    elim (among-cases xs ys h) [ inl w ↦ inl (there w) | inr w ↦ inr w ]

-- where nothing stands the list is empty
none-stands : {A : Type 0} (xs : List A) → ((x : A) → Among xs x → ⊥) → xs ≡ []
none-stands [] h = refl
none-stands (x ∷ xs) h = absurd (h x here)

-- what a test keeps stands in the list and passes
kept-is : {A : Type 0} (test : A → Bool) (xs : List A) (x : A) → Among (filter test xs) x
    → Among xs x × (test x ≡ true)
kept-is test [] x h = absurd (nothing-in h)
kept-is {A} test (y ∷ ys) x h = at (test y) refl h (kept-is test ys x)
  where
    first : test y ≡ true → (y ≡ x) ⊎ Among (filter test ys) x
        → (Among (filter test ys) x → Among ys x × (test x ≡ true))
        → Among (y ∷ ys) x × (test x ≡ true)
    first e (inl same) rest =
        (subst (λ (z : A). Among (y ∷ ys) z) same here, subst (λ (z : A). test z ≡ true) same e)
    first e (inr w) rest = let r = rest w in (there r.0, r.1)

    at : (b : Bool) → test y ≡ b → Among (cond b (y ∷ filter test ys) (filter test ys)) x
        → (Among (filter test ys) x → Among ys x × (test x ≡ true))
        → Among (y ∷ ys) x × (test x ≡ true)
    at true e k rest = first e (first_or k) rest
    at false e k rest = let r = rest k in (there r.0, r.1)

-- what stands in the list and passes is kept
kept-from : {A : Type 0} (test : A → Bool) (xs : List A) (x : A) → test x ≡ true → Among xs x
    → Among (filter test xs) x
kept-from test [] x e h = absurd (nothing-in h)
kept-from {A} test (y ∷ ys) x e h = at (first_or h) (kept-from test ys x e)
  where
    put : (b : Bool) → Among (filter test ys) x
        → Among (cond b (y ∷ filter test ys) (filter test ys)) x
    put true w = there w
    put false w = w

    top : (b : Bool) → b ≡ true → y ≡ x → Among (cond b (y ∷ filter test ys) (filter test ys)) x
    top true e same = subst (λ (z : A). Among (y ∷ filter test ys) z) same here
    top false e same = absurd (true-false false e refl)

    at : (y ≡ x) ⊎ Among ys x → (Among ys x → Among (filter test ys) x)
        → Among (filter test (y ∷ ys)) x
    at (inl same) rest = top (test y) (ap test same ∙ e) same
    at (inr w) rest = put (test y) (rest w)

-- ---- how often a name stands

-- a list in which something stands isn't empty
long-from : {A : Type 0} {x : A} {xs : List A} → Among xs x → 0 < length xs
long-from here = omega arith
long-from (there h) = omega arith

-- in a list that isn't empty something stands
stands-from : {A : Type 0} (xs : List A) → 0 < length xs → (x : A) × Among xs x
stands-from [] h = absurd (omega arith)
stands-from (x ∷ xs) h = (x, here)

-- a name that stands among these does so once or more
pub counted-from : (n : Text) (names : List Text) → Among names n → 0 < occurrences n names
counted-from n names h = long-from (kept-from (bytes_eq n) names n (text-itself n) h)

-- a name that does so once or more stands among these
stands-counted : (n : Text) (names : List Text) → 0 < occurrences n names → Among names n
stands-counted n names h =
    let s = stands-from (filter (bytes_eq n) names) h in
    let k = kept-is (bytes_eq n) names s.0 s.1 in
    subst (λ (z : Text). Among names z) (sym (same-text n s.0 k.1)) k.0

-- in two lists a name stands as often as in each, added up
pub count-append : (n : Text) (xs ys : List Text)
    → occurrences n (xs ++ ys) ≡ occurrences n xs + occurrences n ys
count-append n xs ys = ap (λ (zs : List Text). length zs) (filter-append (bytes_eq n) xs ys)
    ∙ length-append (filter (bytes_eq n) xs) (filter (bytes_eq n) ys)

-- a name that is repeated stands more than once
repeated-is : (names : List Text) (n : Text) → Among (repeated names) n → 1 < occurrences n names
repeated-is names n h =
    ltb-true 1 (occurrences n names)
    (kept-is (λ (m : Text). nat_lt 1 (occurrences m names)) names n h).1

-- a name that stands more than once is repeated
repeated-from : (names : List Text) (n : Text) → 1 < occurrences n names → Among (repeated names) n
repeated-from names n h =
    let once : 0 < occurrences n names = omega arith in
    kept-from (λ (m : Text). nat_lt 1 (occurrences m names)) names n
    (lt-ltb 1 (occurrences n names) h) (stands-counted n names once)

-- names that stand as often among others are repeated there too
repeated-same : (names others : List Text)
    → ((n : Text) → occurrences n names ≡ occurrences n others) → (n : Text)
    → Among (repeated names) n → Among (repeated others) n
repeated-same names others same n h =
    repeated-from others n (subst (λ (k : ℕ). 1 < k) (same n) (repeated-is names n h))

-- ---- a path taken out of a list

-- the paths but for the first that is p
abbrev pub without : Text → List Text → List Text
without p [] = []
without p (y ∷ ys) = cond (bytes_eq p y) ys (y ∷ without p ys)

-- the first path is one of them
pub first-among : (p : Text) (ps : List Text) → among p (p ∷ ps) ≡ true
first-among p ps = or_left (bytes_eq p p) (among p ps) (text-itself p)

-- a list with the members of the empty one is empty
empty-from : (ys : List Text) → SameMembers [] ys → ys ≡ []
empty-from [] same = refl
empty-from (y ∷ ys) same = absurd (true-false (among y (y ∷ ys)) (first-among y ys) (sym (same y)))

-- the other paths stand there as before
pub without-other : (q p : Text) (ys : List Text) → bytes_eq q p ≡ false
    → among q (without p ys) ≡ among q ys
without-other q p [] h = refl
without-other q p (y ∷ ys) h = at (bytes_eq p y) refl (without-other q p ys h)
  where
    at : (b : Bool) → bytes_eq p y ≡ b → among q (without p ys) ≡ among q ys
        → among q (cond b ys (y ∷ without p ys)) ≡ among q (y ∷ ys)
    at true e rest =
        let other : bytes_eq q y
        ≡ false = subst (λ (z : Text). bytes_eq q z ≡ false) (same-text p y e) h in
        ap (λ (b : Bool). b || among q ys) (sym other)
    at false e rest = ap (λ (b : Bool). bytes_eq q y || b) rest

-- of distinct paths the one taken out is gone
without-itself : (p : Text) (ys : List Text) → AreDistinct ys → among p (without p ys) ≡ false
without-itself p [] d = refl
without-itself p (y ∷ ys) d = at (bytes_eq p y) refl (without-itself p ys d.1)
  where
    at : (b : Bool) → bytes_eq p y ≡ b → among p (without p ys) ≡ false
        → among p (cond b ys (y ∷ without p ys)) ≡ false
    at true e rest = subst (λ (z : Text). among z ys ≡ false) (sym (same-text p y e)) d.0
    at false e rest = ap (λ (b : Bool). b || among p (without p ys)) e ∙ rest

-- distinct paths are so without one of them
distinct-without : (p : Text) (ys : List Text) → AreDistinct ys → AreDistinct (without p ys)
distinct-without p [] d = tt
distinct-without p (y ∷ ys) d = at (bytes_eq p y) refl (distinct-without p ys d.1)
  where
    at : (b : Bool) → bytes_eq p y ≡ b → AreDistinct (without p ys)
        → AreDistinct (cond b ys (y ∷ without p ys))
    at true e rest = d.1
    at false e rest = (without-other y p ys (apart p y e) ∙ d.0, rest)

-- the lists less their common path have the same members
same-without : (p : Text) (xs ys : List Text) → AreDistinct (p ∷ xs) → AreDistinct ys
    → SameMembers (p ∷ xs) ys → SameMembers xs (without p ys)
same-without p xs ys d e same q =
    elim (cases_Bool (bytes_eq q p)) [
      | inl w ↦ subst (λ (z : Text). among z xs ≡ among z (without p ys)) (sym (same-text q p w))
          (d.0 ∙ sym (without-itself p ys e))
      | inr w ↦ ap (λ (b : Bool). b || among q xs) (sym w) ∙ same q ∙ sym (without-other q p ys w)
    ]

module _ (f : Text → List Text) (n : Text) where
  -- how often the name stands in the lists of these paths
  abbrev count : List Text → ℕ
  count ps = occurrences n (flat_map f ps)

  -- those of the first path, and of the others
  count-cons : (p : Text) (ps : List Text) → count (p ∷ ps) ≡ occurrences n (f p) + count ps
  count-cons p ps = count-append n (f p) (flat_map f ps)

  -- the list of a path that is taken out counts apart
  count-without : (p : Text) (ys : List Text) → among p ys ≡ true
      → count ys ≡ occurrences n (f p) + count (without p ys)
  count-without p [] h = absurd (true-false false h refl)
  count-without p (y ∷ ys) h = at (bytes_eq p y) refl h (count-without p ys)
    where
      swap : (a b c d : ℕ) → c ≡ b + d → a + c ≡ b + (a + d)
      swap a b c d e = omega arith

      at : (b : Bool) → bytes_eq p y ≡ b → (b || among p ys) ≡ true
          → (among p ys ≡ true → count ys ≡ occurrences n (f p) + count (without p ys))
          → count (y ∷ ys) ≡ occurrences n (f p) + count (cond b ys (y ∷ without p ys))
      at true e k rest = count-cons y ys
          ∙ ap (λ (z : Text). occurrences n (f z) + count ys) (sym (same-text p y e))
      at false e k rest =
          count-cons y ys
          ∙ swap (occurrences n (f y)) (occurrences n (f p)) (count ys) (count (without p ys))
          (rest k)
          ∙ ap (λ (m : ℕ). occurrences n (f p) + m) (sym (count-cons y (without p ys)))

  -- the order of the paths makes no difference
  count-same : (xs ys : List Text) → AreDistinct xs → AreDistinct ys → SameMembers xs ys
      → count xs ≡ count ys
  count-same [] ys d e same = ap count (sym (empty-from ys same))
  count-same (p ∷ xs) ys d e same =
      let inside : among p ys ≡ true = sym (same p) ∙ first-among p xs in
      let rest = count-same xs (without p ys) d.1 (distinct-without p ys e)
      (same-without p xs ys d e same) in
      count-cons p xs ∙ ap (λ (m : ℕ). occurrences n (f p) + m) rest
      ∙ sym (count-without p ys inside)

  -- a name that two of the paths have stands twice
  pub count-two : (p q : Text) (ps : List Text) → among p ps ≡ true → among q ps ≡ true
      → bytes_eq q p ≡ false → 0 < occurrences n (f p) → 0 < occurrences n (f q) → 1 < count ps
  count-two p q ps h k other one two =
      let out = count-without p ps h in
      let more = count-without q (without p ps) (without-other q p ps other ∙ k) in
      sums (occurrences n (f p)) (occurrences n (f q)) (count ps) (count (without p ps))
      (count (without q (without p ps))) out more one two
    where
      sums : (a b c d e : ℕ) → c ≡ a + d → d ≡ b + e → 0 < a → 0 < b → 1 < c
      sums a b c d e h k l m = omega arith

-- ---- the trees of paths

-- what a path's tree has, if there is one
abbrev pub of_path : {A : Type 0} → (FileSyntax → List A) → Trees → Text → List A
of_path g trees p = flat_map g (option_to_list (trees p))

-- what trees have is what the tree of each path has
pub of_trees : {A : Type 0} (g : FileSyntax → List A) (trees : Trees) (ps : List Text)
    → flat_map g (trees_at trees ps) ≡ flat_map (of_path g trees) ps
of_trees g trees [] = refl
of_trees g trees (p ∷ ps) = flat_map-append g (option_to_list (trees p)) (trees_at trees ps)
    ∙ ap (λ r. of_path g trees p ++ r) (of_trees g trees ps)

-- files in another order have each name as often
names-same : (g : FileSyntax → List Text) (trees : Trees) (xs ys : List Text) → AreDistinct xs
    → AreDistinct ys → SameMembers xs ys → (n : Text)
    → occurrences n (flat_map g (trees_at trees xs))
    ≡ occurrences n (flat_map g (trees_at trees ys))
names-same g trees xs ys d e same n =
    ap (occurrences n) (of_trees g trees xs) ∙ count-same (of_path g trees) n xs ys d e same
    ∙ ap (occurrences n) (sym (of_trees g trees ys))

-- ---- faults

abbrev told_twice : ElabErrorKind → Text → Fault
told_twice kind name = record { place = beginning; wrong = record { kind = kind; what = name } }

-- the fault for a name that stands there
fault-of : (kind : ElabErrorKind) (n : Text) (names : List Text) → Among names n
    → Among (flat_map (declared_twice kind) names) (told_twice kind n)
fault-of kind n (m ∷ names) here = here
fault-of kind n (m ∷ names) (there h) = there (fault-of kind n names h)
fault-of kind n [] h = absurd (nothing-in h)

-- where the names stand among others, so do their faults
faults-among : (kind : ElabErrorKind) (names others : List Text)
    → ((n : Text) → Among names n → Among others n) → (f : Fault)
    → Among (flat_map (declared_twice kind) names) f
    → Among (flat_map (declared_twice kind) others) f
faults-among kind [] others into f h = absurd (nothing-in h)
faults-among kind (n ∷ names) others into f h =
    elim (first_or h) [
      | inl same ↦ subst (λ (z : Fault). Among (flat_map (declared_twice kind) others) z) same
          (fault-of kind n others (into n here))
      | inr w ↦ faults-among kind names others (λ m k. into m (there k)) f w
    ]

-- a fault for a repeated name is one of the same files in another order
repeats-told : (kind : ElabErrorKind) (g : FileSyntax → List Text) (trees : Trees)
    (xs ys : List Text) (f : Fault) → AreDistinct xs → AreDistinct ys → SameMembers xs ys
    → Among (flat_map (declared_twice kind) (repeated (flat_map g (trees_at trees xs)))) f
    → Among (flat_map (declared_twice kind) (repeated (flat_map g (trees_at trees ys)))) f
repeats-told kind g trees xs ys f d e same h =
    let names = flat_map g (trees_at trees xs) in
    let others = flat_map g (trees_at trees ys) in
    faults-among kind (repeated names) (repeated others)
    (repeated-same names others (names-same g trees xs ys d e same)) f h

-- a fault of a reach is one of the same files in another order
pub link-told : (trees : Trees) (xs ys : List Text) (f : Fault) → AreDistinct xs → AreDistinct ys
    → SameMembers xs ys → Among (link_faults (trees_at trees xs)) f
    → Among (link_faults (trees_at trees ys)) f
link-told trees xs ys f d e same h =
    let types = flat_map (declared_twice TypeDeclaredTwice)
    (repeated (flat_map type_names (trees_at trees xs))) in
    let extensions = flat_map (declared_twice ExtensionDeclaredTwice)
    (repeated (flat_map extension_names (trees_at trees xs))) in
    elim (among-cases types extensions h) [
      | inl w ↦ among_left
          (flat_map (declared_twice ExtensionDeclaredTwice)
          (repeated (flat_map extension_names (trees_at trees ys)))) (repeats-told TypeDeclaredTwice
          type_names trees xs ys f d e same w)
      | inr w ↦ among_right
          (flat_map (declared_twice TypeDeclaredTwice)
          (repeated (flat_map type_names (trees_at trees ys))))
          (repeats-told ExtensionDeclaredTwice extension_names trees xs ys f d e same w)
    ]

-- a reach without faults has none in another order
pub link-none : (trees : Trees) (xs ys : List Text) → AreDistinct xs → AreDistinct ys
    → SameMembers xs ys → link_faults (trees_at trees xs) ≡ []
    → link_faults (trees_at trees ys) ≡ []
link-none trees xs ys d e same none =
    none-stands (link_faults (trees_at trees ys))
    (λ (f : Fault) h. nothing-in
    (subst (λ (fs : List Fault). Among fs f) none
    (link-told trees ys xs f e d (λ p. sym (same p)) h)))

-- ---- what is found

module _ {A : Type 0} (test : A → Bool) (g : Text → List A) where
  -- nothing is found at any of the paths
  record NoneAt (ps : List Text) : Type 0 where
    finds : find test (flat_map g ps) ≡ None
    each : (p : Text) → among p ps ≡ true → find test (g p) ≡ None

  -- what is found is found at one of the paths
  record FoundAt (ps : List Text) : Type 0 where
    path : Text
    what : A
    stands : among path ps ≡ true
    finds : find test (flat_map g ps) ≡ Some what
    there_is : find test (g path) ≡ Some what

  -- one of the two holds
  finding : (ps : List Text) → NoneAt ps ⊎ FoundAt ps
  finding [] = inl (record { finds = refl; each = λ p h. absurd (true-false false h refl) })
  finding (p ∷ ps) = at (find test (g p)) refl (finding ps)
    where
      step : find test (flat_map g (p ∷ ps))
          ≡ option_or (find test (g p)) (find test (flat_map g ps))
      step = find-append test (g p) (flat_map g ps)

      none : find test (g p) ≡ None → (q : Text) → NoneAt ps
          → (bytes_eq q p ≡ true) ⊎ (among q ps ≡ true) → find test (g q) ≡ None
      none e q r (inl w) = subst (λ (z : Text). find test (g z) ≡ None) (sym (same-text q p w)) e
      none e q r (inr w) = r.each q w

      at : (o : Option A) → find test (g p) ≡ o → NoneAt ps ⊎ FoundAt ps
          → NoneAt (p ∷ ps) ⊎ FoundAt (p ∷ ps)
      at (Some x) e r =
          inr (record {
            path = p;
            what = x;
            stands = first-among p ps;
            finds = step
                ∙ ap (λ (o : Option A). option_or o (find test (flat_map g ps))) e;
            there_is = e;
          })
      at None e (inl r) =
          inl (record {
            finds = step
                ∙ ap (λ (o : Option A). option_or o (find test (flat_map g ps))) e
                ∙ r.finds;
            each = λ q h. none e q r (or_cases (bytes_eq q p) (among q ps) h);
          })
      at None e (inr r) =
          inr (record {
            path = r.path;
            what = r.what;
            stands =
                or_right (bytes_eq r.path p) (among r.path ps) r.stands;
            finds = step
                ∙ ap (λ (o : Option A). option_or o (find test (flat_map g ps))) e
                ∙ r.finds;
            there_is = r.there_is;
          })

  -- a search that finds something doesn't find nothing
  some-none : (o : Option A) (x : A) → o ≡ Some x → o ≡ None → ⊥
  some-none o x h k = cc

  -- a search finds one thing
  some-same : (o : Option A) (x y : A) → o ≡ Some x → o ≡ Some y → x ≡ y
  some-same o x y h k = cc

  -- where one path at most has it, the order of the paths makes no difference
  pub finds-same : (xs ys : List Text) → SameMembers xs ys
      → ((p q : Text) (x y : A) → among p xs ≡ true → among q xs ≡ true → find test (g p) ≡ Some x
      → find test (g q) ≡ Some y → p ≡ q) → find test (flat_map g xs) ≡ find test (flat_map g ys)
  finds-same xs ys same one = at (finding xs) (finding ys)
    where
      at : NoneAt xs ⊎ FoundAt xs → NoneAt ys ⊎ FoundAt ys
          → find test (flat_map g xs) ≡ find test (flat_map g ys)
      at (inl r) (inl s) = r.finds ∙ sym s.finds
      at (inl r) (inr s) =
          absurd (some-none (find test (g s.path)) s.what s.there_is
          (r.each s.path (same s.path ∙ s.stands)))
      at (inr r) (inl s) =
          absurd (some-none (find test (g r.path)) r.what r.there_is
          (s.each r.path (sym (same r.path) ∙ r.stands)))
      at (inr r) (inr s) =
          let path = one r.path s.path r.what s.what r.stands
          (same s.path ∙ s.stands) r.there_is s.there_is in
          let what = some-same (find test (g s.path)) r.what s.what
          (subst (λ (z : Text). find test (g z) ≡ Some r.what) path r.there_is) s.there_is in
          r.finds ∙ ap (λ (x : A). Some x) what ∙ sym s.finds

-- ---- types

-- what an element becomes stands among what the elements become
pub among-map : {A B : Type 0} (f : A → B) (xs : List A) (x : A) → Among xs x
    → Among (map f xs) (f x)
among-map f (y ∷ xs) x here = here
among-map f (y ∷ xs) x (there h) = there (among-map f xs x h)
among-map f [] x h = absurd (nothing-in h)

-- the type has the name
abbrev is_named : Text → DeclaredType → Bool
is_named n d = bytes_eq d.name n

-- a type that is found in a path's tree is one of the tree's names
found-named : (trees : Trees) (p n : Text) (d : DeclaredType)
    → find (is_named n) (of_path file_types trees p) ≡ Some d
    → 0 < occurrences n (of_path type_names trees p)
found-named trees p n d h = at (trees p) h
  where
    at : (o : Option FileSyntax)
        → find (is_named n) (flat_map file_types (option_to_list o)) ≡ Some d
        → 0 < occurrences n (flat_map type_names (option_to_list o))
    at None k = absurd cc
    at (Some t) k =
        let f = found_is (is_named n) (file_types t ++ []) d k in
        let inside : Among (file_types t) d =
        subst (λ (ds : List DeclaredType). Among ds d) (append-nil (file_types t)) f.0 in
        let named : Among (map (λ (x : DeclaredType). x.name) (file_types t)) d.name =
        among-map (λ (x : DeclaredType). x.name) (file_types t) d inside in
        let all : Among (type_names t ++ []) d.name =
        among_left [] (among_left (file_generated t) named) in
        counted-from n (type_names t ++ [])
        (subst (λ (z : Text). Among (type_names t ++ []) z) (same-text d.name n f.1) all)

-- a reach without faults has each type's name once
pub type-once : (trees : Trees) (reached : List Text) (n : Text)
    → link_faults (trees_at trees reached) ≡ []
    → 1 < occurrences n (flat_map type_names (trees_at trees reached)) → ⊥
type-once trees reached n none twice =
    let names = flat_map type_names (trees_at trees reached) in
    let told : Among (link_faults (trees_at trees reached))
    (told_twice TypeDeclaredTwice n) =
    among_left
    (flat_map (declared_twice ExtensionDeclaredTwice)
    (repeated (flat_map extension_names (trees_at trees reached)))) (fault-of TypeDeclaredTwice
    n (repeated names) (repeated-from names n twice)) in
    nothing-in
    (subst (λ (fs : List Fault). Among fs (told_twice TypeDeclaredTwice n)) none
    told)

-- and each extension's name once
pub extension-once : (trees : Trees) (reached : List Text) (n : Text)
    → link_faults (trees_at trees reached) ≡ []
    → 1 < occurrences n (flat_map extension_names (trees_at trees reached)) → ⊥
extension-once trees reached n none twice =
    let names = flat_map extension_names (trees_at trees reached) in
    let told : Among (link_faults (trees_at trees reached))
    (told_twice ExtensionDeclaredTwice n) =
    among_right
    (flat_map (declared_twice TypeDeclaredTwice)
    (repeated (flat_map type_names (trees_at trees reached)))) (fault-of ExtensionDeclaredTwice
    n (repeated names) (repeated-from names n twice)) in
    nothing-in
    (subst (λ (fs : List Fault). Among fs (told_twice ExtensionDeclaredTwice n))
    none told)

-- so that two of its paths that have the name are one
one-path : (trees : Trees) (reached : List Text) (n p q : Text) (x y : DeclaredType)
    → link_faults (trees_at trees reached) ≡ [] → among p reached ≡ true → among q reached ≡ true
    → find (is_named n) (of_path file_types trees p) ≡ Some x
    → find (is_named n) (of_path file_types trees q) ≡ Some y → p ≡ q
one-path trees reached n p q x y none h k first second =
    elim (cases_Bool (bytes_eq q p)) [
      | inl w ↦ sym (same-text q p w)
      | inr w ↦
          let twice = count-two (of_path type_names trees) n p q reached h k w
          (found-named trees p n x first) (found-named trees q n y second) in
          absurd (type-once trees reached n none
          (subst (λ (names : List Text). 1 < occurrences n names)
          (sym (of_trees type_names trees reached)) twice))
    ]

-- Files of a reach without faults declare the same types in any order.
pub types-same : (trees : Trees) (reached xs ys : List Text) → AreDistinct reached
    → SameMembers xs ys → ((p : Text) → among p xs ≡ true → among p reached ≡ true)
    → link_faults (trees_at trees reached) ≡ []
    → declared (types_of_files (trees_at trees xs)) ≡ declared (types_of_files (trees_at trees ys))
types-same trees reached xs ys d same within none = fun_ext (λ (n : Text).
    ap (find (is_named n)) (of_trees file_types trees xs)
    ∙ finds-same (is_named n) (of_path file_types trees) xs ys same
    (λ p q x y h k first second. one-path trees reached n p q x y none (within p h)
    (within q k) first second)
    ∙ ap (find (is_named n)) (sym (of_trees file_types trees ys)))

-- ---- lists of just those that have a property

-- two lists of just those have the same members
pub just-same : (Has : Text → Type 0) (xs ys : List Text) → AreJust Has xs → AreJust Has ys
    → SameMembers xs ys
just-same Has xs ys j k p = at (among p xs) (among p ys) refl refl
  where
    at : (b c : Bool) → among p xs ≡ b → among p ys ≡ c → b ≡ c
    at true true h l = refl
    at false false h l = refl
    at true false h l = absurd (true-false (among p ys) (k.all p (j.only p h)) l)
    at false true h l = absurd (true-false (among p xs) (j.all p (k.only p l)) h)
