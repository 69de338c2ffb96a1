-- What files declare more than once, by the table of declarations.
use Rattle.std.proofs.Common.{◌≡◌, ℕ, zero, suc, ◌+◌, ◌<◌, List, [], ◌∷◌, ◌++◌, Bool, true, false}
use Rattle.std.proofs.Common.{◌&&◌, cond, if◌then◌else◌, refl, sym, ap, ◌∙◌, bytes_eq, map}
use Rattle.std.proofs.Common.{filter, flat_map, length, length-append, get_or, subst, arith, nat_eq}
use Rattle.std.proofs.Common.{Result, Ok, Err, ◌⊎◌, inl, inr, None, Some}
use Rattle.std.proofs.lemmas.Bool.Decides.{Decides-eqb}
use Rattle.std.proofs.lemmas.Cmp.{nat_eq_equiv}
use Rattle.std.proofs.lemmas.Map.Views.{list_any-from_Contains}
use Rattle.protobuf_parse_model.specs.TableParts.{listed_files, reached_faults}
use Rattle.protobuf_parse_model.proofs.Tables.{same_number}
use Rattle.std.specs.Prelude.{nat_lt, Contains, String}
use Rattle.std.specs.BTreeMap.{is_at}
use Rattle.std.specs.Global.{Global, Vec}
use Rattle.std.specs.List.{list_any}
use Rattle.std.specs.List.Sorted.{IsStrictlyIncreasing}
use Rattle.std.specs.Map.{lookup}
use Rattle.std.specs.Ordering.{nat_cmp}
use Rattle.std.proofs.lemmas.Bool.{ltb-true}
use Rattle.std.proofs.lemmas.Slice.Eq.{bytes_eq-Decides}
use Rattle.std.proofs.lemmas.List.Elements.{filter-append, Contains-append_left, Contains-push}
use Rattle.std.proofs.lemmas.List.Elements.{Contains-append_right}
use Rattle.std.proofs.lemmas.List.Sums.{length-filter, count_by-le-length}
use Rattle.protobuf_parse_syntax.specs.Trees.{FileSyntax}
use Rattle.protobuf_parse_model.specs.declared.error.ElabErrorKind.{ElabErrorKind}
use Rattle.protobuf_parse_model.specs.declared.error.ElabErrorKind.TheVariants.{TypeDeclaredTwice}
use Rattle.protobuf_parse_model.specs.declared.error.ElabErrorKind.TheVariants.{ExtensionDeclaredTwice}
use Rattle.protobuf_parse_model.specs.declared.error.ElabFailure.{ElabFailure}
use Rattle.protobuf_parse_model.specs.declared.error.ElabFailure.TheVariants as failure
use Rattle.protobuf_parse_model.specs.declared.scope.seen.Declaration.{Declaration}
use Rattle.protobuf_parse_model.specs.declared.scope.seen.DeclarationKind.{DeclarationKind}
use Rattle.protobuf_parse_model.specs.declared.scope.seen.DeclarationKind.TheVariants as declaration
use Rattle.protobuf_parse_model.specs.declared.scope.seen.Declarations.{Declarations}
use Rattle.protobuf_parse_model.specs.declared.scope.seen.Seen.{Seen}
use Rattle.protobuf_parse_model.specs.Descriptors.{Text}
use Rattle.protobuf_parse_model.specs.Declarations.{DeclaredType, file_generated, file_types}
use Rattle.protobuf_parse_model.specs.DeclaredAt.{DeclaredAt, file_at}
use Rattle.protobuf_parse_model.specs.SeenFiles.{declared_as}
use Rattle.protobuf_parse_model.specs.Faults.{Among, here, there, Passes, Fault}
use Rattle.protobuf_parse_model.specs.Linking.{beginning, declared_twice, full_names}
use Rattle.protobuf_parse_model.specs.Linking.{link_faults}
use Rattle.protobuf_parse_model.specs.Linking.{occurrences, repeated}
use Rattle.protobuf_parse_model.specs.Tables.{TableTells, declared_by, declared_in, is_of}
use Rattle.protobuf_parse_model.specs.Tables.{listed_names, name_list}
use Rattle.protobuf_parse_model.specs.TableParts.{listed_faults}
use Rattle.protobuf_parse_model.specs.Tables.{picked}
use Rattle.protobuf_parse_model.specs.TableParts.{name_faults, twice_when}
use Rattle.protobuf_parse_model.specs.TableParts.{times, times_declared}
use Rattle.protobuf_parse_model.proofs.Blaming.{among_left, among_right}
use Rattle.protobuf_parse_model.proofs.DeclaredAt.{behind_are, behind_of, behind_when}
use Rattle.protobuf_parse_model.proofs.DeclaredAt.{extension_of, extension_when, extensions_are}
use Rattle.protobuf_parse_model.proofs.DeclaredAt.{type_of, type_when, types_are}
use Rattle.protobuf_parse_model.proofs.FileOrder.{contains_number}
use Rattle.protobuf_parse_model.proofs.Picks.{among, picked_among}

-- ---- how often a name is declared

occurrences-append : (name : Text) (xs ys : List Text)
    → occurrences name (xs ++ ys) ≡ occurrences name xs + occurrences name ys
occurrences-append name xs ys = ap length (filter-append (bytes_eq name) xs ys)
    ∙ length-append (filter (bytes_eq name) xs) (filter (bytes_eq name) ys)

same_as : (x y : Text) (b : Bool) → bytes_eq x y ≡ b → bytes_eq y x ≡ b
same_as x y true e = (bytes_eq-Decides y x).1 (sym ((bytes_eq-Decides x y).0 e))
same_as x y false e = at (bytes_eq y x) refl
  where
    at : (b : Bool) → bytes_eq y x ≡ b → bytes_eq y x ≡ false
    at false h = h
    at true h = let both = (bytes_eq-Decides x y).1 (sym ((bytes_eq-Decides y x).0 h)) in absurd cc

and_true_right : (a b : Bool) → (a && b) ≡ true → b ≡ true
and_true_right true b e = e
and_true_right false b e = absurd cc

and_false : (b : Bool) → (b && false) ≡ false
and_false true = refl
and_false false = refl

module _ (extension : Bool) (reach : List ℕ) (name : Text) where
  abbrev counts : Declaration → Bool
  counts d = is_of extension d.kind && list_any (nat_eq d.file) reach

  times-append : (xs ys : List Declaration)
      → times extension reach (xs ++ ys) ≡ times extension reach xs + times extension reach ys
  times-append xs ys = ap length (filter-append counts xs ys)
      ∙ length-append (filter counts xs) (filter counts ys)

  -- the names of those that are of extensions, or else of types
  abbrev names_of : List DeclaredAt → List Text
  names_of ds =
      flat_map (λ (d : DeclaredAt). if is_of extension d.what.kind then d.name ∷ [] else []) ds

  module _ (n : ℕ) where
    abbrev is_named : DeclaredAt → Bool
    is_named d = bytes_eq d.name name

    abbrev made : DeclaredAt → Declaration
    made d = record { file = n; kind = d.what.kind }

    within_reach : list_any (nat_eq n) reach ≡ true → (ds : List DeclaredAt)
        → times extension reach (declared_by name n ds) ≡ occurrences name (names_of ds)
    within_reach e [] = refl
    within_reach e (d ∷ ds) =
        at (is_of extension d.what.kind) refl (is_named d) refl (within_reach e ds)
      where
        more_names : List Text
        more_names = names_of ds

        stands : (c : Bool) → List Text
        stands c = (if c then d.name ∷ [] else []) ++ more_names

        at : (c : Bool) → is_of extension d.what.kind ≡ c → (b : Bool) → is_named d ≡ b
            → times extension reach (declared_by name n ds) ≡ occurrences name more_names
            → length
            (filter counts (map made (cond b (d ∷ filter is_named ds) (filter is_named ds))))
            ≡ occurrences name (stands (is_of extension d.what.kind))
        at true k true h more =
            ap (λ z.
            length (cond (z && list_any (nat_eq n) reach)
            (made d ∷ filter counts (declared_by name n ds))
            (filter counts (declared_by name n ds)))) k
            ∙ ap (λ z.
            length (cond z (made d ∷ filter counts (declared_by name n ds))
            (filter counts (declared_by name n ds)))) e
            ∙ ap suc more
            ∙ ap (λ z.
            length (cond z (d.name ∷ filter (bytes_eq name) more_names)
            (filter (bytes_eq name) more_names))) (sym (same_as d.name name true h))
            ∙ ap (λ z. occurrences name (stands z)) (sym k)
        at true k false h more = more
            ∙ ap (λ z.
            length (cond z (d.name ∷ filter (bytes_eq name) more_names)
            (filter (bytes_eq name) more_names))) (sym (same_as d.name name false h))
            ∙ ap (λ z. occurrences name (stands z)) (sym k)
        at false k true h more =
            ap (λ z.
            length (cond (z && list_any (nat_eq n) reach)
            (made d ∷ filter counts (declared_by name n ds))
            (filter counts (declared_by name n ds)))) k
            ∙ more ∙ ap (λ z. occurrences name (stands z)) (sym k)
        at false k false h more = more ∙ ap (λ z. occurrences name (stands z)) (sym k)

    beyond_reach : list_any (nat_eq n) reach ≡ false → (ds : List DeclaredAt)
        → times extension reach (declared_by name n ds) ≡ 0
    beyond_reach e [] = refl
    beyond_reach e (d ∷ ds) = at (is_named d) (beyond_reach e ds)
      where
        at : (b : Bool) → times extension reach (declared_by name n ds) ≡ 0
            → length
            (filter counts (map made (cond b (d ∷ filter is_named ds) (filter is_named ds))))
            ≡ 0
        at false more = more
        at true more =
            ap (λ z.
            length (cond z (made d ∷ filter counts (declared_by name n ds))
            (filter counts (declared_by name n ds))))
            (ap (λ z. is_of extension d.what.kind && z) e ∙ and_false (is_of extension d.what.kind))
            ∙ more

-- the names of extensions are those of the file's list
extensions_named : (ds : List DeclaredAt)
    → flat_map (λ (d : DeclaredAt). if is_of true d.what.kind then d.name ∷ [] else []) ds
    ≡ flat_map extension_of ds
extensions_named [] = refl
extensions_named (d ∷ ds) =
    at d.what.kind ∙ ap (λ ns. extension_of d ++ ns) (extensions_named ds)
  where
    rest : List Text
    rest = flat_map (λ (d : DeclaredAt). if is_of true d.what.kind then d.name ∷ [] else []) ds

    at : (k : DeclarationKind)
        → (if is_of true k then d.name ∷ [] else []) ++ rest ≡ extension_when k d.name ++ rest
    at declaration.Message = refl
    at declaration.Enum = refl
    at declaration.Generated = refl
    at declaration.Extension = refl

-- and those of types, as often as in the lists of types and of what stands behind maps and groups
types_named : (name : Text) (ds : List DeclaredAt)
    → occurrences name
    (flat_map (λ (d : DeclaredAt). if is_of false d.what.kind then d.name ∷ [] else []) ds)
    ≡ occurrences name (map (λ (d : DeclaredType). d.name) (flat_map type_of ds))
    + occurrences name (flat_map behind_of ds)
types_named name [] = refl
types_named name (d ∷ ds) = at d.what.kind (types_named name ds)
  where
    rest : List Text
    rest = flat_map (λ (d : DeclaredAt). if is_of false d.what.kind then d.name ∷ [] else []) ds

    types : List DeclaredType
    types = flat_map type_of ds

    one : (ns : List Text)
        → occurrences name (d.name ∷ ns) ≡ occurrences name (d.name ∷ []) + occurrences name ns
    one ns = occurrences-append name (d.name ∷ []) ns

    at : (k : DeclarationKind)
        → occurrences name rest ≡ occurrences name (map (λ (d : DeclaredType). d.name) types)
        + occurrences name (flat_map behind_of ds)
        → occurrences name ((if is_of false k then d.name ∷ [] else []) ++ rest)
        ≡ occurrences name (map (λ (d : DeclaredType). d.name) (type_when k d.name ++ types))
        + occurrences name (behind_when k d.name ++ flat_map behind_of ds)
    at declaration.Message more =
        let all = one rest in
        let some = one (map (λ (d : DeclaredType). d.name) types) in
        omega (arith, all, some, more)
    at declaration.Enum more =
        let all = one rest in
        let some = one (map (λ (d : DeclaredType). d.name) types) in
        omega (arith, all, some, more)
    at declaration.Generated more =
        let all = one rest in
        let some = one (flat_map behind_of ds) in
        omega (arith, all, some, more)
    at declaration.Extension more = more

module _ (reach : List ℕ) (name : Text) (n : ℕ) (t : FileSyntax) where
  named : (extension : Bool)
      → occurrences name (names_of extension reach name (file_at t))
      ≡ occurrences name (full_names extension t)
  named true = ap (occurrences name) (extensions_named (file_at t) ∙ extensions_are t)
  named false = types_named name (file_at t)
      ∙ ap (λ ds.
      occurrences name (map (λ (d : DeclaredType). d.name) ds)
      + occurrences name (flat_map behind_of (file_at t))) (types_are t)
      ∙ ap (λ ns.
      occurrences name (map (λ (d : DeclaredType). d.name) (file_types t)) + occurrences name ns)
      (behind_are t)
      ∙ sym (occurrences-append name (map (λ (d : DeclaredType). d.name) (file_types t))
      (file_generated t))

  in_reach : (extension : Bool) → list_any (nat_eq n) reach ≡ true
      → times extension reach (declared_by name n (file_at t))
      ≡ occurrences name (full_names extension t)
  in_reach extension e = within_reach extension reach name n e (file_at t) ∙ named extension

  out_of_reach : (extension : Bool) → list_any (nat_eq n) reach ≡ false
      → times extension reach (declared_by name n (file_at t)) ≡ 0
  out_of_reach extension e = beyond_reach extension reach name n e (file_at t)

counted : (extension : Bool) (reach : List ℕ) (name : Text) (n : ℕ) (ts : List FileSyntax)
    → times extension reach (declared_in name n ts)
    ≡ occurrences name (flat_map (full_names extension) (among reach n ts))
counted extension reach name n [] = refl
counted extension reach name n (t ∷ ts) =
    times-append extension reach name (declared_by name n (file_at t)) (declared_in name (suc n) ts)
    ∙ at (list_any (nat_eq n) reach) refl (counted extension reach name (suc n) ts)
  where
    at : (b : Bool) → list_any (nat_eq n) reach ≡ b
        → times extension reach (declared_in name (suc n) ts)
        ≡ occurrences name (flat_map (full_names extension) (among reach (suc n) ts))
        → times extension reach (declared_by name n (file_at t)) + times extension reach
        (declared_in name (suc n) ts)
        ≡ occurrences name (flat_map (full_names extension) (among reach n (t ∷ ts)))
    at true e more =
        let here_is = in_reach reach name n t extension e in
        let sum = occurrences-append name (full_names extension t)
        (flat_map (full_names extension) (among reach (suc n) ts)) in
        let added : times extension reach (declared_by name n (file_at t)) + times extension reach
        (declared_in name (suc n) ts)
        ≡ occurrences name
        (full_names extension t ++ flat_map (full_names extension) (among reach (suc n) ts)) =
        omega (arith, here_is, sum, more) in
        added ∙ ap
        (λ b. occurrences name
        (flat_map (full_names extension)
        ((if b then t ∷ [] else []) ++ among reach (suc n) ts))) (sym e)
    at false e more =
        let here_is = out_of_reach reach name n t extension e in
        let added : times extension reach (declared_by name n (file_at t)) + times extension reach
        (declared_in name (suc n) ts)
        ≡ occurrences name (flat_map (full_names extension) (among reach (suc n) ts)) =
        omega (arith, here_is, more) in
        added ∙ ap
        (λ b. occurrences name
        (flat_map (full_names extension)
        ((if b then t ∷ [] else []) ++ among reach (suc n) ts))) (sym e)

-- ---- faults, by the names that are listed

among_cases : {A : Type 0} {x : A} (xs ys : List A) → Among (xs ++ ys) x → Among xs x ⊎ Among ys x
among_cases [] ys h = inr h
among_cases (x ∷ xs) ys here = inl here
among_cases (x ∷ xs) ys (there h) =
    elim (among_cases xs ys h) [ inl g ↦ inl (there g) | inr g ↦ inr g ]

abbrev told_of : ElabErrorKind → Text → Fault
told_of kind name = record { place = beginning; wrong = record { kind = kind; what = name } }

-- a name that stands among names and more than once among all is told
told : (kind : ElabErrorKind) (all : List Text) (name : Text)
    → nat_lt 1 (occurrences name all) ≡ true → (names : List Text) → 0 < occurrences name names
    → Among (flat_map (declared_twice kind)
    (filter (λ (x : Text). nat_lt 1 (occurrences x all)) names))
    (told_of kind name)
told kind all name twice [] some = absurd (omega (arith, some))
told kind all name twice (x ∷ xs) some =
    at (bytes_eq name x) refl some (told kind all name twice xs)
  where
    rest : List Text
    rest = filter (λ (x : Text). nat_lt 1 (occurrences x all)) xs

    later : (b : Bool) → Among (flat_map (declared_twice kind) rest) (told_of kind name)
        → Among (flat_map (declared_twice kind) (cond b (x ∷ rest) rest))
        (told_of kind name)
    later false h = h
    later true h = there h

    at : (b : Bool) → bytes_eq name x ≡ b
        → 0 < length (cond b (x ∷ filter (bytes_eq name) xs) (filter (bytes_eq name) xs))
        → (0 < occurrences name xs
        → Among (flat_map (declared_twice kind) rest) (told_of kind name))
        → Among (flat_map (declared_twice kind)
        (cond (nat_lt 1 (occurrences x all)) (x ∷ rest) rest))
        (told_of kind name)
    at true e s more =
        let is : name ≡ x = (bytes_eq-Decides name x).0 e in
        let also : nat_lt 1 (occurrences x all)
        ≡ true = subst (λ (y : Text). nat_lt 1 (occurrences y all) ≡ true) is twice in
        subst (λ (b : Bool). Among (flat_map (declared_twice kind) (cond b (x ∷ rest) rest))
        (told_of kind name)) (sym also)
        (subst (λ (y : Text). Among (told_of kind x ∷ flat_map (declared_twice kind) rest)
        (told_of kind y)) (sym is) here)
    at false e s more = later (nat_lt 1 (occurrences x all)) (more s)

-- where no name stands more than once among all, none is told
none_told : (kind : ElabErrorKind) (all : List Text)
    → ((name : Text) → nat_lt 1 (occurrences name all) ≡ false) → (names : List Text)
    → flat_map (declared_twice kind) (filter (λ (x : Text). nat_lt 1 (occurrences x all)) names)
    ≡ []
none_told kind all once [] = refl
none_told kind all once (x ∷ xs) =
    let rest = filter (λ (x : Text). nat_lt 1 (occurrences x all)) xs in
    ap (λ b. flat_map (declared_twice kind) (cond b (x ∷ rest) rest)) (once x)
    ∙ none_told kind all once xs

append_nil_left : {A : Type 0} (xs ys : List A) → xs ++ ys ≡ [] → xs ≡ []
append_nil_left [] ys e = refl
append_nil_left (x ∷ xs) ys e = absurd cc

append_nil_right : {A : Type 0} (xs ys : List A) → xs ++ ys ≡ [] → ys ≡ []
append_nil_right [] ys e = e
append_nil_right (x ∷ xs) ys e = absurd cc

no_fault_at : {A : Type 0} (faults : A → List Fault) (all : List A) (one : A)
    → flat_map faults all ≡ [] → Contains all one → faults one ≡ []
no_fault_at {A} faults all one e h = at all h.0 e h.1 h.2
  where
    at : (xs : List A) (k : ℕ) → flat_map faults xs ≡ [] → k < length xs
        → get_or xs k one ≡ one → faults one ≡ []
    at [] k gone lt is = absurd (omega (arith, lt))
    at (x ∷ xs) zero gone lt is = ap faults (sym is)
        ∙ append_nil_left (faults x) (flat_map faults xs) gone
    at (x ∷ xs) (suc k) gone lt is =
        at xs k (append_nil_right (faults x) (flat_map faults xs) gone) (omega (arith, lt)) is

when_none : (b : Bool) (kind : ElabErrorKind) (name : Text) → twice_when b kind name ≡ []
    → b ≡ false
when_none false kind name e = refl
when_none true kind name e = absurd cc

-- some declaration counts, where more than none do
some_counts : (extension : Bool) (reach : List ℕ) (name : Text) (ds : List Declaration)
    → 0 < times extension reach ds
    → (d : Declaration) × Contains ds d × (list_any (nat_eq d.file) reach ≡ true)
some_counts extension reach name [] some = absurd (omega (arith, some))
some_counts extension reach name (d ∷ ds) some =
    at (counts extension reach name d) refl some (some_counts extension reach name ds)
  where
    at : (b : Bool) → counts extension reach name d ≡ b
        → 0 < length (cond b (d ∷ filter (counts extension reach name) ds)
        (filter (counts extension reach name) ds))
        → (0 < times extension reach ds
        → (x : Declaration) × Contains ds x × (list_any (nat_eq x.file) reach ≡ true))
        → (x : Declaration) × Contains (d ∷ ds) x × (list_any (nat_eq x.file) reach ≡ true)
    at true e s more = (
      d,
      Contains-append_left (d ∷ []) ds d (Contains-push [] d),
      and_true_right (is_of extension d.kind) (list_any (nat_eq d.file) reach) e,
    )
    at false e s more =
        let one = more s in (one.0, Contains-append_right (d ∷ []) ds one.0 one.1, one.2)

-- how often the files with these numbers declare a name
pub times_over : (table : Declarations) (files : List FileSyntax) → TableTells table files
    → (reach : List ℕ) → IsStrictlyIncreasing reach → (extension : Bool) (name : Text)
    → times extension reach (declared_as table name)
    ≡ occurrences name (flat_map (full_names extension) (picked files reach))
times_over table files tells reach ascends extension name =
    ap (times extension reach) (tells.declares name)
    ∙ counted extension reach name 0 files
    ∙ ap (λ fs. occurrences name (flat_map (full_names extension) fs))
    (picked_among files reach ascends)

module _ (seen : Seen) (files : List FileSyntax)
    (tells : TableTells seen.declarations.now files) where
  abbrev reached : List FileSyntax
  reached = picked files seen.reach.now

  abbrev names_reached : Bool → List Text
  names_reached extension = flat_map (full_names extension) reached

  times_are : (extension : Bool) (name : Text)
      → times_declared extension seen name ≡ occurrences name (names_reached extension)
  times_are extension name = times_over seen.declarations.now files tells seen.reach.now
      seen.reach_ascends extension name

  -- a name that is declared more than once is listed for a file that is reached
  is_listed : (extension : Bool) (name : Text)
      → nat_lt 1 (times_declared extension seen name) ≡ true
      → (d : Declaration) × Contains seen.reach.now d.file
      × Contains (listed_names seen.declarations.now d.file) name
  is_listed extension name e =
      let ds = declared_as seen.declarations.now name in
      let more : 1 < times_declared extension seen name =
      ltb-true 1 (times_declared extension seen name) e in
      let count = length-filter (counts extension seen.reach.now name) ds in
      let below = count_by-le-length (counts extension seen.reach.now name) ds in
      let one = some_counts extension seen.reach.now name ds (omega (arith, more)) in (
        one.0,
        contains_number one.0.file seen.reach.now one.2,
        tells.lists name (omega (arith, more, count, below)) one.0 one.1,
      )

  faults_none : (extension : Bool) (name : Text) → name_faults seen name ≡ []
      → nat_lt 1 (times_declared extension seen name) ≡ false
  faults_none false name e =
      when_none (nat_lt 1 (times_declared false seen name)) TypeDeclaredTwice name
      (append_nil_left
      (twice_when (nat_lt 1 (times_declared false seen name)) TypeDeclaredTwice name)
      (twice_when (nat_lt 1 (times_declared true seen name)) ExtensionDeclaredTwice name) e)
  faults_none true name e =
      when_none (nat_lt 1 (times_declared true seen name)) ExtensionDeclaredTwice name
      (append_nil_right
      (twice_when (nat_lt 1 (times_declared false seen name)) TypeDeclaredTwice name)
      (twice_when (nat_lt 1 (times_declared true seen name)) ExtensionDeclaredTwice name) e)

  -- none of the names that are listed for files that are reached is declared twice
  abbrev NoneTwice : Type 0
  NoneTwice = (file : ℕ) → Contains seen.reach.now file → listed_faults seen file ≡ []

  once : NoneTwice → (extension : Bool) (name : Text)
      → nat_lt 1 (occurrences name (names_reached extension)) ≡ false
  once none extension name = ap (nat_lt 1) (sym (times_are extension name))
      ∙ at (nat_lt 1 (times_declared extension seen name)) refl
    where
      at : (b : Bool) → nat_lt 1 (times_declared extension seen name) ≡ b
          → nat_lt 1 (times_declared extension seen name) ≡ false
      at false h = h
      at true h =
          let one = is_listed extension name h in
          faults_none extension name
          (no_fault_at (name_faults seen) (listed_names seen.declarations.now one.0.file) name
          (none one.0.file one.1) one.2)

  faultless : NoneTwice → link_faults reached ≡ []
  faultless none =
      ap (λ fs. fs ++ flat_map (declared_twice ExtensionDeclaredTwice)
      (repeated (names_reached true)))
      (none_told TypeDeclaredTwice (names_reached false) (once none false) (names_reached false))
      ∙ none_told ExtensionDeclaredTwice (names_reached true) (once none true) (names_reached true)

  one_told : (extension : Bool) (kind : ElabErrorKind) (name : Text) (f : Fault) (b : Bool)
      → nat_lt 1 (times_declared extension seen name) ≡ b → Among (twice_when b kind name) f
      → Among (flat_map (declared_twice kind) (repeated (names_reached extension))) f
  one_told extension kind name f false e h = elim h [ ]
  one_told extension kind name f true e (there h) = elim h [ ]
  one_told extension kind name f true e here =
      let twice = ap (nat_lt 1) (sym (times_are extension name)) ∙ e in
      let more = ltb-true 1 (occurrences name (names_reached extension)) twice in
      told kind (names_reached extension) name twice (names_reached extension) (omega (arith, more))

  name_told : (name : Text) (f : Fault) → Among (name_faults seen name) f
      → Among (link_faults reached) f
  name_told name f h =
      elim (among_cases
      (twice_when (nat_lt 1 (times_declared false seen name)) TypeDeclaredTwice name)
      (twice_when (nat_lt 1 (times_declared true seen name)) ExtensionDeclaredTwice name) h) [
        | inl g ↦ among_left
            (flat_map (declared_twice ExtensionDeclaredTwice) (repeated (names_reached true)))
            (one_told false TypeDeclaredTwice name f
            (nat_lt 1 (times_declared false seen name)) refl g)
        | inr g ↦ among_right (flat_map (declared_twice TypeDeclaredTwice)
            (repeated (names_reached false)))
            (one_told true ExtensionDeclaredTwice name f
            (nat_lt 1 (times_declared true seen name)) refl g)
      ]

  names_told : (names : List Text) (f : Fault) → Among (flat_map (name_faults seen) names) f
      → Among (link_faults reached) f
  names_told [] f h = elim h [ ]
  names_told (x ∷ xs) f h =
      elim (among_cases (name_faults seen x) (flat_map (name_faults seen) xs) h)
      [ inl g ↦ name_told x f g | inr g ↦ names_told xs f g ]

  files_told : (files : List ℕ) (f : Fault) → Among (flat_map (listed_faults seen) files) f
      → Among (link_faults reached) f
  files_told [] f h = elim h [ ]
  files_told (x ∷ xs) f h =
      elim (among_cases (listed_faults seen x) (flat_map (listed_faults seen) xs) h) [
        | inl g ↦ names_told (listed_names seen.declarations.now x) f g
        | inr g ↦ files_told xs f g
      ]

  -- gone through by the files that are reached
  pub links : (r : Result (Unit {0}) ElabFailure)
      → Passes r
      (flat_map (listed_faults seen) seen.reach.now)
      → Passes r (link_faults reached)
  links (Ok u) h =
      faultless (λ file member.
      no_fault_at (listed_faults seen) seen.reach.now file h member)
  links (Err failure.Memory) h = tt
  links (Err (failure.Fault e)) h = files_told seen.reach.now _ h

  -- gone through by the files for which names are listed
  among_reached : (file : ℕ) → Contains seen.reach.now file → list_any (nat_eq file) seen.reach.now
      ≡ true
  among_reached file member = list_any-from_Contains nat_eq_equiv file seen.reach.now member

  if_reached : (file : ℕ) (b : Bool) → b ≡ true
      → (if b then listed_faults seen file else []) ≡ [] → listed_faults seen file ≡ []
  if_reached file true is none = none
  if_reached file false is none = absurd cc

  at_entry : (file : ℕ) (es : List (ℕ × Vec (String Global)))
      → flat_map (reached_faults seen) (map (λ (e : ℕ × Vec (String Global)). e.0) es) ≡ []
      → (lookup (is_at (nat_cmp file)) es ≡ None) ⊎ (reached_faults seen file ≡ [])
  at_entry file [] none = inl refl
  at_entry file (e ∷ es) none = at (is_at (nat_cmp file) e.0) refl (at_entry file es
      (append_nil_right (reached_faults seen e.0) _ none))
    where
      at : (b : Bool) → is_at (nat_cmp file) e.0 ≡ b
          → (lookup (is_at (nat_cmp file)) es ≡ None) ⊎ (reached_faults seen file ≡ [])
          → (cond b (Some e.1) (lookup (is_at (nat_cmp file)) es) ≡ None)
          ⊎ (reached_faults seen file ≡ [])
      at false h more = more
      at true h more = inr (ap (reached_faults seen)
          ((Decides-eqb file e.0).0 (sym (same_number file e.0) ∙ h))
          ∙ append_nil_left (reached_faults seen e.0) _ none)

  none_twice : flat_map (reached_faults seen) (listed_files seen.declarations.now) ≡ []
      → NoneTwice
  none_twice none file member =
      elim (at_entry file seen.declarations.now.repeated.entries none) [
        | inl e ↦ ap (λ o. flat_map (name_faults seen) (name_list o)) e
        | inr e ↦ if_reached file (list_any (nat_eq file) seen.reach.now)
            (among_reached file member) e
      ]

  listed_told : (files : List ℕ) (f : Fault) → Among (flat_map (reached_faults seen) files) f
      → Among (link_faults reached) f
  listed_told [] f h = elim h [ ]
  listed_told (x ∷ xs) f h =
      elim (among_cases (reached_faults seen x) (flat_map (reached_faults seen) xs) h) [
        | inl g ↦ of_one (list_any (nat_eq x) seen.reach.now) g
        | inr g ↦ listed_told xs f g
      ]
    where
      of_one : (b : Bool) → Among (if b then listed_faults seen x else []) f
          → Among (link_faults reached) f
      of_one true g = names_told (listed_names seen.declarations.now x) f g
      of_one false g = elim g [ ]

  pub links_listed : (r : Result (Unit {0}) ElabFailure)
      → Passes r
      (flat_map (reached_faults seen) (listed_files seen.declarations.now))
      → Passes r (link_faults reached)
  links_listed (Ok u) h = faultless (none_twice h)
  links_listed (Err failure.Memory) h = tt
  links_listed (Err (failure.Fault e)) h = listed_told (listed_files seen.declarations.now) _ h
