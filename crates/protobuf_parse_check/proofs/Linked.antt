-- Names that a file reaches twice are brought together by one that it reaches.
use Rattle.std.proofs.Common.{◌≡◌, ◌∙◌, Bool, true, false, not, ◌&&◌, ◌||◌, List, [], ◌∷◌}
use Rattle.std.proofs.Common.{◌++◌, ap, arith, filter, flat_map, inl, inr, refl}
use Rattle.std.specs.Prelude.{nat_lt}
use Rattle.std.proofs.lemmas.Bool.{ltb-true}
use Rattle.protobuf_parse_syntax.specs.Trees.{FileSyntax}
use Rattle.protobuf_parse_model.specs.Descriptors.{Text}
use Rattle.protobuf_parse_model.specs.Faults.{Fault}
use Rattle.protobuf_parse_model.specs.Linking.{declared_twice, extension_names, full_names}
use Rattle.protobuf_parse_model.specs.Linking.{link_faults, occurrences, repeated, type_names}
use Rattle.protobuf_parse_model.specs.declared.error.ElabErrorKind.{ElabErrorKind}
use Rattle.protobuf_parse_model.specs.declared.error.ElabErrorKind.TheVariants as kind
use Rattle.protobuf_parse_elaboration.specs.FilesByPath.{trees_at}
use Rattle.protobuf_parse_run.specs.Repeats.{is_nothing}
use Rattle.protobuf_parse_run.specs.Run.{Files}
use Rattle.protobuf_parse_run.specs.Walks.{among}
use Rattle.protobuf_parse_run.proofs.Keeping.{bool_cases, false_true, never_both, or_left, or_right}
use Rattle.protobuf_parse_load.specs.Steps.{closed_paths}
use Rattle.protobuf_parse_check.specs.Gathered.{brings, brings_any, brought, names_reached}
use Rattle.protobuf_parse_check.specs.Gathered.{reaches_twice}
use Rattle.protobuf_parse_check.specs.Reports.{Checked, files_of}
use Rattle.protobuf_parse_check.specs.SoFar.{IsOrdered}
use Rattle.protobuf_parse_check.proofs.Deciding.{occurs}
use Rattle.protobuf_parse_check.proofs.Orders.{kept-path, some-brings}

-- ** names that stand twice

none-all : (test : Text → Bool) (xs : List Text) → ((x : Text) → test x ≡ false)
    → filter test xs ≡ []
none-all test [] none = refl
none-all test (x ∷ xs) none = rw (none x) (none-all test xs none)

not_empty : {A : Type 0} (x : A) (xs : List A) → x ∷ xs ≡ [] → ⊥
not_empty x xs h = cc

-- what a stricter test keeps where the other keeps nothing
filter-less : (large small : Text → Bool) (xs : List Text)
    → ((x : Text) → small x ≡ true → large x ≡ true) → filter large xs ≡ []
    → filter small xs ≡ []
filter-less large small [] less h = refl
filter-less large small (x ∷ xs) less h =
    elim (bool_cases (large x)) [
      | inl w ↦ let z : x ∷ filter large xs ≡ [] = (rw w at h) in
          absurd (not_empty x (filter large xs) z)
      | inr w ↦ let z : filter large xs ≡ [] = (rw w at h) in
          elim (bool_cases (small x)) [
            | inl v ↦ absurd (never_both (large x) (less x v) w)
            | inr v ↦ rw v (filter-less large small xs less z)
          ]
    ]

none-twice : (k : ElabErrorKind) (names : List Text)
    → flat_map (declared_twice k) names ≡ [] → names ≡ []
none-twice k [] h = refl
none-twice k (x ∷ names) h = absurd (not_empty _ _ h)

two-empty : (xs ys : List Fault) → xs ++ ys ≡ [] → (xs ≡ []) × (ys ≡ [])
two-empty [] ys h = (refl, h)
two-empty (x ∷ xs) ys h = absurd (not_empty x (xs ++ ys) h)

-- E5 of a file that reaches these, and E6
abbrev told_types : List FileSyntax → List Fault
told_types ts =
    flat_map (declared_twice kind.TypeDeclaredTwice) (repeated (flat_map type_names ts))

abbrev told_extensions : List FileSyntax → List Fault
told_extensions ts =
    flat_map (declared_twice kind.ExtensionDeclaredTwice) (repeated (flat_map extension_names ts))

link-parts : (ts : List FileSyntax) → link_faults ts ≡ [] → (extension : Bool)
    → repeated (flat_map (full_names extension) ts) ≡ []
link-parts ts h false =
    none-twice kind.TypeDeclaredTwice (repeated (flat_map type_names ts))
    (two-empty (told_types ts) (told_extensions ts) h).0
link-parts ts h true =
    none-twice kind.ExtensionDeclaredTwice (repeated (flat_map extension_names ts))
    (two-empty (told_types ts) (told_extensions ts) h).1

link-whole : (ts : List FileSyntax)
    → ((extension : Bool) → repeated (flat_map (full_names extension) ts) ≡ [])
    → link_faults ts ≡ []
link-whole ts none =
    ap (λ (names : List Text). flat_map (declared_twice kind.TypeDeclaredTwice) names
    ++ told_extensions ts) (none false)
    ∙ ap (λ (names : List Text). flat_map (declared_twice kind.ExtensionDeclaredTwice) names)
    (none true)

any-there : (xs : List Text) (q : Text) → among q xs ≡ true → not (is_nothing xs) ≡ true
any-there [] q m = absurd (false_true m)
any-there (x ∷ xs) q m = refl

and_first : (a b : Bool) → (a && b) ≡ true → a ≡ true
and_first true b h = refl
and_first false b h = cc

module _ (c : Checked) (ordered : IsOrdered c) where
  abbrev files : Files
  files = files_of c

  -- a name that is brought together is one of those
  brought-there : (extension : Bool) (name p : Text) → brings files extension p name ≡ true
      → not (is_nothing (brought files extension p)) ≡ true
  brought-there extension name p h =
      let names = names_reached files extension p in
      let often = ltb-true 1 (occurrences name names)
      (and_first (reaches_twice files extension name p) _ h) in
      any-there (brought files extension p) name
      (kept-path (brings files extension p) name names
      (occurs name names (omega (arith, often))) h)

  brings-some : (extension : Bool) (name p : Text) → brings files extension p name ≡ true
      → brings_any files p ≡ true
  brings-some false name p h = or_left _ _ (brought-there false name p h)
  brings-some true name p h = or_right _ _ (brought-there true name p h)

  -- where no file that it reaches brings names together, none is declared twice
  pub linked-once : (p : Text) (front back : List Text) → closed_paths c.steps ≡ front ++ p ∷ back
      → ((q : Text) → among q (c.reached p) ≡ true → brings_any files q ≡ false)
      → link_faults (trees_at files.trees (c.reached p)) ≡ []
  linked-once p front back at none =
      link-whole (trees_at files.trees (c.reached p))
      (λ extension. none-all
      (λ (name : Text). nat_lt 1 (occurrences name (names_reached files extension p)))
      (names_reached files extension p)
      (λ name. elim (bool_cases (reaches_twice files extension name p)) [
        | inl w ↦
            let r = some-brings c ordered extension name p front back at w in
            absurd (never_both (brings_any files r.0) (brings-some extension name r.0 r.2)
            (none r.0 r.1))
        | inr w ↦ w
      ]))

  -- and where none is, it brings none together
  pub brings-none : (p : Text) → link_faults (trees_at files.trees (c.reached p)) ≡ []
      → brings_any files p ≡ false
  brings-none p h =
      let one : (extension : Bool) → brought files extension p ≡ [] =
      λ extension. filter-less (λ (name : Text). reaches_twice files extension name p)
      (brings files extension p) (names_reached files extension p)
      (λ name k. and_first (reaches_twice files extension name p) _ k)
      (link-parts (trees_at files.trees (c.reached p)) h extension) in
      ap (λ (xs : List Text). not (is_nothing xs) || not (is_nothing (brought files true p)))
      (one false)
      ∙ ap (λ (xs : List Text). not (is_nothing xs)) (one true)
