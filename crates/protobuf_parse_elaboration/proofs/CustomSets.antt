-- The laws of a file's custom options, by its sets of options.
use Rattle.std.proofs.Common.{◌≡◌, inl, inr, List, [], ◌∷◌, flat_map, refl, subst, Bool, true}
use Rattle.std.proofs.Common.{false, ◌||◌}
use Rattle.std.specs.List.{list_any}
use Rattle.protobuf_parse_syntax.specs.Trees.{OptionNameSyntax, builtin, custom, StatementSyntax}
use Rattle.protobuf_parse_syntax.specs.Trees.{OptionSyntax, nested_message, file_message, file_enum}
use Rattle.protobuf_parse_syntax.specs.Trees.{file_extend, file_service, FileSyntax}
use Rattle.protobuf_parse_model.specs.declared.customs.Construct.TheVariants as of
use Rattle.protobuf_parse_model.specs.Descriptors.{Text}
use Rattle.protobuf_parse_model.specs.Faults.{Among, here, there}
use Rattle.protobuf_parse_model.specs.Environment.{Environment, Customs, no_customs}
use Rattle.protobuf_parse_model.specs.BuiltinOptions.{file_table}
use Rattle.protobuf_parse_model.proofs.Blaming.{among_left, among_right}
use Rattle.protobuf_parse_elaboration.specs.FileDescriptor.{options_of_statements, environment}
use Rattle.protobuf_parse_elaboration.specs.FileDescriptor.{file_faults_of, file_duplicates}
use Rattle.protobuf_parse_elaboration.specs.FileDescriptor.{file_faults}
use Rattle.protobuf_parse_elaboration.specs.OptionSets.{OptionSet, statement_sets, option_sets}
use Rattle.protobuf_parse_elaboration.specs.CustomSets.{faults_of_set, faults_of_sets}
use Rattle.protobuf_parse_elaboration.specs.CustomSets.{FaultsAreOfSets, NoneIsNoneInSets}
use Rattle.protobuf_parse_elaboration.specs.CustomSets.{is_custom, is_custom_name, sets_custom}
use Rattle.protobuf_parse_elaboration.proofs.SameNames.{with_customs}
use Rattle.protobuf_parse_elaboration.proofs.AddedFaults.{bare, Adds, adds-nothing, adds-both}
use Rattle.protobuf_parse_elaboration.proofs.AddedFaults.{adds-alone, adds-flat, adds-options}
use Rattle.protobuf_parse_elaboration.proofs.ConstructSets.{extend-adds, enum-adds, service-adds}
use Rattle.protobuf_parse_elaboration.proofs.MessageSets as bodies

-- ---- what custom options add to the faults of a file

module _ (customs : Customs) where
  -- a statement of a file
  statement-adds : (env : Environment) (s : StatementSyntax)
      → Adds customs (file_faults_of (with_customs customs env) s) (file_faults_of (bare env) s)
      (statement_sets env.scope s)
  statement-adds env (file_message m) = bodies.statement-adds customs env (nested_message m)
  statement-adds env (file_enum e) = enum-adds customs env e
  statement-adds env (file_extend e) = extend-adds customs env e
  statement-adds env (file_service s) = service-adds customs env s
  statement-adds env _ = adds-nothing customs []

  -- a file
  file-adds : (seen : List FileSyntax) (t : FileSyntax)
      → Adds customs (file_faults (environment seen customs t) t)
      (file_faults (environment seen no_customs t) t) (option_sets t)
  file-adds seen t =
      let env = environment seen customs t in
      adds-alone customs
      (adds-both customs
      (adds-options customs env of.File file_table (options_of_statements t.statements))
      (adds-flat customs (file_faults_of (with_customs customs env)) (file_faults_of (bare env))
      (statement_sets env.scope) t.statements (statement-adds env)))
      (file_duplicates t.statements)

-- ---- the laws

-- just the faults of a file are those besides custom options and those of its sets
pub faults_are_of_sets : FaultsAreOfSets
faults_are_of_sets seen customs t f =
    let a = file-adds customs seen t in
    (a.told f, λ h. elim h [ inl k ↦ a.stays f k | inr k ↦ a.added f k ])

-- where nothing stands the list is empty
none_in : {A : Type 0} (xs : List A) → ((x : A) → Among xs x → ⊥) → xs ≡ []
none_in [] h = refl
none_in (x ∷ xs) h = absurd (h x here)

-- in an empty list nothing stands
in_none : {A : Type 0} {x : A} {xs : List A} → xs ≡ [] → Among xs x → ⊥
in_none {A} {x} e h = elim (subst (λ (ys : List A). Among ys x) e h) [ ]

-- where each element becomes nothing, all do
none_of_each : {A B : Type 0} (f : A → List B) (xs : List A) → ((x : A) → Among xs x → f x ≡ [])
    → flat_map f xs ≡ []
none_of_each f [] h = refl
none_of_each f (x ∷ xs) h = rw (h x here, none_of_each f xs (λ y k. h y (there k))) refl

-- where all become nothing, each does
each_of_none : {A B : Type 0} (f : A → List B) {xs : List A} {x : A} → flat_map f xs ≡ []
    → Among xs x → f x ≡ []
each_of_none {A} {B} f {xs} {x} e h = none_in (f x) (λ y k. in_none e (among_all h k))
  where
    among_all : {zs : List A} {z : A} {y : B} → Among zs z → Among (f z) y → Among (flat_map f zs) y
    among_all here k = among_left _ k
    among_all (there h) k = among_right _ (among_all h k)

-- a file without faults has none in its sets
pub none_of_sets : (seen : List FileSyntax) (customs : Customs) (t : FileSyntax)
    → file_faults (environment seen customs t) t ≡ [] → faults_of_sets customs t ≡ []
none_of_sets seen customs t none =
    none_in (faults_of_sets customs t) (λ f h. in_none none ((file-adds customs seen t).added f h))

-- a file has no faults just where it has none besides custom options, and none in a set
pub none_is_none_in_sets : NoneIsNoneInSets
none_is_none_in_sets seen customs t = (forth, back)
  where
    forth : file_faults (environment seen customs t) t ≡ []
        → (file_faults (environment seen no_customs t) t ≡ [])
        × ((s : OptionSet) → Among (option_sets t) s → faults_of_set customs s ≡ [])
    forth none = (
      none_in (file_faults (environment seen no_customs t) t)
          (λ f h. in_none none ((file-adds customs seen t).stays f h)),
      λ s h. each_of_none (faults_of_set customs) (none_of_sets seen customs t none) h,
    )

    back : (file_faults (environment seen no_customs t) t ≡ [])
        × ((s : OptionSet) → Among (option_sets t) s → faults_of_set customs s ≡ [])
        → file_faults (environment seen customs t) t ≡ []
    back none =
        let sets : faults_of_sets customs t
        ≡ [] = none_of_each (faults_of_set customs) (option_sets t) none.1 in
        none_in (file_faults (environment seen customs t) t)
        (λ f h. elim ((file-adds customs seen t).told f h)
        [ inl k ↦ in_none none.0 k | inr k ↦ in_none sets k ])

-- where neither of two is true
none_first : (b c : Bool) → (b || c) ≡ false → b ≡ false
none_first true c e = absurd cc
none_first false c e = refl

none_later : (b c : Bool) → (b || c) ≡ false → c ≡ false
none_later true c e = absurd cc
none_later false c e = e

-- nothing in a list passes the test, where none does
not_any : {A : Type 0} (test : A → Bool) (xs : List A) (x : A) → list_any test xs ≡ false
    → Among xs x → test x ≡ false
not_any test [] x e h = elim h [ ]
not_any test (y ∷ xs) x e here = none_first (test y) (list_any test xs) e
not_any test (y ∷ xs) x e (there h) =
    not_any test xs x (none_later (test y) (list_any test xs) e) h

builtin_by_test : (n : OptionNameSyntax) → is_custom_name n ≡ false
    → (name : Text) × (n ≡ builtin name)
builtin_by_test (builtin name) h = (name, refl)
builtin_by_test (custom parts) h = absurd cc

-- where no set has a custom option, each option is a built-in one
pub none_is_custom : (t : FileSyntax) (s : OptionSet) (o : OptionSyntax)
    → list_any sets_custom (option_sets t) ≡ false → Among (option_sets t) s
    → Among s.statements o → (name : Text) × (o.name ≡ builtin name)
none_is_custom t s o none h k =
    builtin_by_test o.name
    (not_any is_custom s.statements o (not_any sets_custom (option_sets t) s none h) k)
