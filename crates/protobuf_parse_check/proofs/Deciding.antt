-- What is told of names that are brought together, in whatever order.
use Rattle.std.proofs.Common.{◌≡◌, ◌∙◌, Bool, true, false, not, ◌&&◌, ◌||◌, ◌<◌, List, [], ◌∷◌, ◌++◌}
use Rattle.std.proofs.Common.{ap, arith, cond, filter, length, map, refl, sym}
use Rattle.std.specs.Prelude.{bytes_eq}
use Rattle.std.specs.List.{list_any}
use Rattle.std.proofs.lemmas.Bool.{ltb-true}
use Rattle.std.proofs.lemmas.List.Folds.{list_any-append}
use Rattle.protobuf_parse_syntax.specs.Trees.{FileSyntax}
use Rattle.protobuf_parse_model.specs.Descriptors.{Text}
use Rattle.protobuf_parse_model.specs.Faults.{Fault}
use Rattle.protobuf_parse_model.specs.Linking.{occurrences}
use Rattle.protobuf_parse_elaboration.specs.FilesByPath.{AreJust}
use Rattle.protobuf_parse_run.specs.Repeats.{is_nothing}
use Rattle.protobuf_parse_run.specs.Run.{Files}
use Rattle.protobuf_parse_run.specs.Walks.{among}
use Rattle.protobuf_parse_run.proofs.Faulty.{any-text, same-bool, text-any}
use Rattle.protobuf_parse_run.proofs.Keeping.{or_left, or_right, text-same}
use Rattle.protobuf_parse_check.specs.Gathered.{AreBrought, brings, brings_any, brought}
use Rattle.protobuf_parse_check.specs.Gathered.{brought_fault, brought_faults, names_reached}
use Rattle.protobuf_parse_check.specs.Gathered.{reaches_twice}
use Rattle.protobuf_parse_check.specs.Reports.{all_brought, stands_at}
use Rattle.protobuf_parse_check.specs.Trimmed.{same_place}
use Rattle.protobuf_parse_check.proofs.Orders.{kept-path, keeps-path}

-- a name that occurs is among them
pub occurs : (name : Text) (names : List Text) → 0 < occurrences name names
    → among name names ≡ true
occurs name [] some = absurd (omega (arith, some))
occurs name (x ∷ names) some = at (bytes_eq name x) refl (occurs name names) some
  where
    at : (b : Bool) → bytes_eq name x ≡ b
        → (0 < occurrences name names → among name names ≡ true)
        → 0 < length (cond b (x ∷ filter (bytes_eq name) names) (filter (bytes_eq name) names))
        → (bytes_eq name x || among name names) ≡ true
    at true h more k = or_left (bytes_eq name x) (among name names) h
    at false h more k = or_right (bytes_eq name x) (among name names) (more k)

-- a test of what names become
any-mapped : (test : Fault → Bool) (f : Text → Fault) (names : List Text)
    → list_any test (map f names) ≡ list_any (λ (name : Text). test (f name)) names
any-mapped test f [] = refl
any-mapped test f (x ∷ names) =
    ap (λ (b : Bool). test (f x) || b) (any-mapped test f names)

-- lists with the same members
any-members : (test : Text → Bool) (xs ys : List Text)
    → ((q : Text) → among q xs ≡ true → among q ys ≡ true)
    → ((q : Text) → among q ys ≡ true → among q xs ≡ true)
    → list_any test xs ≡ list_any test ys
any-members test xs ys into back =
    same-bool (list_any test xs) (list_any test ys)
    (λ h. let r = text-any test xs h in any-text test ys r.0 (into r.0 r.1) r.2)
    (λ h. let r = text-any test ys h in any-text test xs r.0 (back r.0 r.1) r.2)

nothing-members : (xs ys : List Text)
    → ((q : Text) → among q xs ≡ true → among q ys ≡ true)
    → ((q : Text) → among q ys ≡ true → among q xs ≡ true)
    → is_nothing xs ≡ is_nothing ys
nothing-members [] [] into back = refl
nothing-members [] (y ∷ ys) into back =
    let h = back y (or_left (bytes_eq y y) (among y ys) (text-same y)) in cc
nothing-members (x ∷ xs) [] into back =
    let h = into x (or_left (bytes_eq x x) (among x xs) (text-same x)) in cc
nothing-members (x ∷ xs) (y ∷ ys) into back = refl

nothing-mapped : (f : Text → Fault) (xs : List Text) → is_nothing (map f xs) ≡ is_nothing xs
nothing-mapped f [] = refl
nothing-mapped f (x ∷ xs) = refl

nothing-joined : (xs ys : List Fault)
    → not (is_nothing (xs ++ ys)) ≡ (not (is_nothing xs) || not (is_nothing ys))
nothing-joined [] ys = refl
nothing-joined (x ∷ xs) ys = refl

module _ (files : Files) (p : Text) (t : FileSyntax) where
  -- the names that are brought together are those among what is reached
  listed : (extension : Bool) (name : Text) → brings files extension p name ≡ true
      → among name (brought files extension p) ≡ true
  listed extension name h =
      kept-path (brings files extension p) name (names_reached files extension p)
      (occurs name (names_reached files extension p)
      (omega (
        arith,
        ltb-true 1 (occurrences name (names_reached files extension p))
            (first (reaches_twice files extension name p) _ h),
      ))) h
    where
      first : (a b : Bool) → (a && b) ≡ true → a ≡ true
      first true b k = refl
      first false b k = cc

  module _ (extension : Bool) (names : List Text)
      (just : AreJust (λ (name : Text). brings files extension p name ≡ true) names) where
    into : (q : Text) → among q names ≡ true → among q (brought files extension p) ≡ true
    into q m = listed extension q (just.only q m)

    back : (q : Text) → among q (brought files extension p) ≡ true → among q names ≡ true
    back q m = just.all q
        (keeps-path (brings files extension p) q (names_reached files extension p) m).1

    pub any-told : (test : Fault → Bool)
        → list_any test (brought_faults files p t extension names)
        ≡ list_any test (brought_faults files p t extension (brought files extension p))
    any-told test =
        any-mapped test (brought_fault files p t extension) names
        ∙ any-members (λ (name : Text). test (brought_fault files p t extension name)) names
        (brought files extension p) into back
        ∙ sym (any-mapped test (brought_fault files p t extension) (brought files extension p))

    pub some-told : is_nothing (brought_faults files p t extension names)
        ≡ is_nothing (brought files extension p)
    some-told =
        nothing-mapped (brought_fault files p t extension) names
        ∙ nothing-members names (brought files extension p) into back

  module _ (told : List Fault) (are : AreBrought files p t told) where
    -- a place is that of one that is told
    pub told-stands : (f : Fault) → stands_at f told ≡ stands_at f (all_brought files p t)
    told-stands f =
        let test : Fault → Bool = λ g. same_place f.place g.place in
        ap (list_any test) are.told_are
        ∙ list_any-append test (brought_faults files p t false are.types)
        (brought_faults files p t true are.extensions)
        ∙ ap (λ (b : Bool). b || list_any test (brought_faults files p t true are.extensions))
        (any-told false are.types are.types_are test)
        ∙ ap (λ (b : Bool).
        list_any test (brought_faults files p t false (brought files false p)) || b)
        (any-told true are.extensions are.extensions_are test)
        ∙ sym (list_any-append test (brought_faults files p t false (brought files false p))
        (brought_faults files p t true (brought files true p)))

    pub told-any : not (is_nothing told) ≡ brings_any files p
    told-any =
        ap (λ (fs : List Fault). not (is_nothing fs)) are.told_are
        ∙ nothing-joined (brought_faults files p t false are.types)
        (brought_faults files p t true are.extensions)
        ∙ ap (λ (b : Bool). not b
        || not (is_nothing (brought_faults files p t true are.extensions)))
        (some-told false are.types are.types_are)
        ∙ ap (λ (b : Bool). not (is_nothing (brought files false p)) || not b)
        (some-told true are.extensions are.extensions_are)
