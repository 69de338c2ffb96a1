-- What custom options add to a file: faults beside its others, and bytes in its descriptor.
use Rattle.std.proofs.Common.{◌≡◌, inl, inr, ℕ}
use Rattle.std.proofs.Common.{List, [], ◌∷◌, flat_map, Ok, Err, refl, ◌∙◌, ap, sym}
use Rattle.std.proofs.Common.{subst, false}
use Rattle.std.specs.Prelude.{Result}
use Rattle.std.specs.List.{list_any}
use Rattle.protobuf_parse_syntax.specs.Trees.{FileSyntax}
use Rattle.protobuf_parse_model.specs.Descriptors.{Text, FileDescriptor}
use Rattle.protobuf_parse_model.specs.Environment.{Customs, no_customs}
use Rattle.protobuf_parse_model.specs.Descriptors as described
use Rattle.protobuf_parse_model.specs.Faults.{Among, Elaborates, here, there, Fault, IsFirst}
use Rattle.protobuf_parse_model.specs.Faults.{TellsFirst, fault_view}
use Rattle.protobuf_parse_model.specs.Linking.{before_others}
use Rattle.protobuf_parse_model.specs.Tables.{picked}
use Rattle.protobuf_parse_model.specs.declared.descriptor.FileDescriptorProto.{FileDescriptorProto}
use Rattle.protobuf_parse_model.specs.declared.error.ElabFailure.{ElabFailure}
use Rattle.protobuf_parse_model.specs.declared.error.ElabFailure.TheVariants as failure
use Rattle.protobuf_parse_elaboration.specs.CustomSets.{faults_of_set, faults_of_sets, sets_custom}
use Rattle.protobuf_parse_elaboration.specs.FilesByPath.{trees_at}
use Rattle.protobuf_parse_elaboration.specs.FileDescriptor.{environment, file_faults, file_of}
use Rattle.protobuf_parse_elaboration.specs.OptionSets.{OptionSet, option_sets}
use Rattle.protobuf_parse_elaboration.proofs.CustomSets.{faults_are_of_sets, none_is_custom}
use Rattle.protobuf_parse_elaboration.proofs.CustomSets.{none_of_sets}
use Rattle.protobuf_parse_elaboration.proofs.SameBytes.{bytes_are_of_sets}
use Rattle.protobuf_parse_options.specs.CustomFaults.{custom_option_faults, option_faults_at}
use Rattle.protobuf_parse_options.specs.CustomFaults.{custom_statement_faults}
use Rattle.protobuf_parse_options.proofs.Refusing.{unless_none}
use Rattle.protobuf_parse_wire.specs.Encoded.{encoded}
use Rattle.protobuf_parse_wire.specs.Views.{entries_of_list}
use Rattle.protobuf_parse_options.specs.CustomOptions.{items_of_option, scope_of}
use Rattle.protobuf_parse_options.specs.OptionFields.{OptionScope}
use Rattle.protobuf_parse_options.specs.OptionBytes.{customs_by_files, option_bytes}
use Rattle.protobuf_parse_options.specs.WithoutOptions.{bare_file}
use Rattle.protobuf_parse_options.proofs.BareFiles.{file-alike}
use Rattle.protobuf_parse_run.specs.Loading.{ElaboratesTo, LoadedEntry, customs_over}
use Rattle.protobuf_parse_run.specs.Loading.{plain_over}
use Rattle.protobuf_parse_run.specs.Loading.{descriptors_over, picked_descriptors, repeats_over}
use Rattle.protobuf_parse_run.specs.Run.{Files, customs_of}

-- ** the faults of a file but those of names that are declared twice

-- those of its custom options
abbrev pub told_by : Customs → FileSyntax → List Fault
told_by c t = faults_of_sets c t

abbrev pub others_by : List FileSyntax → Customs → FileSyntax → List Fault
others_by seen c t =
    before_others (file_faults (environment seen no_customs t) t) (told_by c t)

abbrev pub others : Files → Text → FileSyntax → List Fault
others files p t = others_by (trees_at files.trees (files.seen p)) (customs_of files p) t

nothing-in : {A : Type 0} {x : A} → Among [] x → ⊥
nothing-in m = elim m [ ]

-- where each gives nothing, so do all
all-nothing : {A B : Type 0} (f : A → List B) (xs : List A)
    → ((x : A) → Among xs x → f x ≡ []) → flat_map f xs ≡ []
all-nothing f [] each = refl
all-nothing f (x ∷ xs) each =
    rw (each x here) (all-nothing f xs (λ y m. each y (there m)))

module _ (seen : List FileSyntax) (files visible : List FileDescriptor) (t : FileSyntax) where
  abbrev known : Customs
  known = customs_by_files files visible

  -- ** where no custom option is set

  module _ (none : list_any sets_custom (option_sets t) ≡ false) where
    -- nothing is wrong in any set of options, and none denotes anything
    module _ (s : OptionSet) (m : Among (option_sets t) s) where
      abbrev at : OptionScope
      at = scope_of files visible s

      set-faultless : custom_statement_faults at s.construct s.statements ≡ []
      set-faultless =
          all-nothing (option_faults_at at s.construct) s.statements
          (λ o h. let b = none_is_custom t s o none m h in rw b.1 refl)

      set-empty : flat_map (items_of_option at s.construct) s.statements ≡ []
      set-empty = all-nothing (items_of_option at s.construct) s.statements
          (λ o h. let b = none_is_custom t s o none m h in rw b.1 refl)

      set-unspelled : [] ≡ option_bytes files visible s.construct s.scope s.statements
      set-unspelled = sym (unless_none (custom_statement_faults at s.construct s.statements) _
          set-faultless ∙ ap (λ items. encoded (entries_of_list items)) set-empty)

    pub nothing-wrong : custom_option_faults files visible t ≡ []
    nothing-wrong = all-nothing (faults_of_set known) (option_sets t) set-faultless

    pub nothing-spelled : (path : Text) → file_of (environment seen no_customs t) path t
        ≡ file_of (environment seen known t) path t
    nothing-spelled path = bytes_are_of_sets seen no_customs known path t set-unspelled

  -- ** what is wrong with extensions known

  pub options-faultless : file_faults (environment seen known t) t ≡ []
      → custom_option_faults files visible t ≡ []
  options-faultless none = none_of_sets seen known t none

  -- where no custom option is set, nothing is wrong with extensions known either
  pub nothing-known : list_any sets_custom (option_sets t) ≡ false
      → file_faults (environment seen no_customs t) t ≡ []
      → file_faults (environment seen known t) t ≡ []
  nothing-known none own =
      nothing-stands (file_faults (environment seen known t) t)
      (λ (f : Fault) told. elim ((faults_are_of_sets seen known t f).0 told) [
        | inl w ↦ nothing-in (subst (λ (fs : List Fault). Among fs f) own w)
        | inr w ↦ nothing-in (subst (λ (fs : List Fault). Among fs f) (nothing-wrong none) w)
      ])
    where
      nothing-stands : (fs : List Fault) → ((f : Fault) → Among fs f → ⊥) → fs ≡ []
      nothing-stands [] h = refl
      nothing-stands (f ∷ fs) h = absurd (h f here)

  pub option-told : (f : Fault) → file_faults (environment seen no_customs t) t ≡ []
      → Among (file_faults (environment seen known t) t) f
      → Among (custom_option_faults files visible t) f
  option-told f none told =
      elim ((faults_are_of_sets seen known t f).0 told) [
        | inl w ↦ absurd (nothing-in (subst (λ (fs : List Fault). Among fs f) none w))
        | inr w ↦ w
      ]

-- custom options change nothing in what a file becomes but options
pub options-alike : (seen : List FileSyntax) (c : Customs) (path : Text) (t : FileSyntax)
    → bare_file (file_of (environment seen c t) path t)
    ≡ bare_file (file_of (environment seen no_customs t) path t)
options-alike seen c path t = file-alike c no_customs (environment seen c t) path t

-- ** what a file becomes by numbers

module _ (loaded : List LoadedEntry) (files : List FileSyntax) (reach sight : List ℕ) (path : Text)
    (t : FileSyntax) (once : repeats_over loaded files reach t ≡ []) where
  abbrev descriptors : List FileDescriptor
  descriptors = descriptors_over loaded files sight path t

  abbrev seen : List FileSyntax
  seen = picked files sight

  abbrev reached_descriptors : List FileDescriptor
  reached_descriptors = picked_descriptors descriptors reach

  abbrev seen_descriptors : List FileDescriptor
  seen_descriptors = picked_descriptors descriptors sight

  all-faultless : file_faults (environment seen no_customs t) t ≡ []
      → custom_option_faults reached_descriptors seen_descriptors t ≡ []
      → before_others (repeats_over loaded files reach t)
      (before_others (file_faults (environment seen no_customs t) t)
      (custom_option_faults reached_descriptors seen_descriptors t)) ≡ []
  all-faultless own options = rw (once, own) options

  -- the first fault of the file itself is told
  pub own-told : (e : ElabFailure) → TellsFirst e (file_faults (environment seen no_customs t) t)
      → ElaboratesTo loaded files reach sight path t (Err e)
  own-told (failure.Memory) h = tt
  own-told (failure.Fault error) h =
      rw once (told-first (file_faults (environment seen no_customs t) t)
      (file_faults (environment seen (customs_over descriptors reach sight) t) t)
      (fault_view error) h)
    where
      told-first : (firsts others : List Fault) (f : Fault) → IsFirst firsts f
          → IsFirst (before_others firsts others) f
      told-first [] others f m = absurd m
      told-first (a ∷ firsts) others f m = m

  -- no custom option is set
  pub none-set : (r : Result FileDescriptorProto ElabFailure)
      → list_any sets_custom (option_sets t) ≡ false
      → Elaborates described.file_view r (file_faults (environment seen no_customs t) t)
      (plain_over files sight path t)
      → ElaboratesTo loaded files reach sight path t r
  none-set (Ok d) none h = record {
    faultless = all-faultless h.0 (nothing-wrong seen reached_descriptors seen_descriptors t none);
    descriptor = h.1 ∙ nothing-spelled seen reached_descriptors seen_descriptors t none path;
    alike = ap bare_file h.1;
  }
  none-set (Err e) none h = own-told e h

  -- some may be set
  pub some-set : (c : Customs) (r : Result FileDescriptorProto ElabFailure)
      → c ≡ customs_over descriptors reach sight
      → file_faults (environment seen no_customs t) t ≡ []
      → Elaborates described.file_view r (file_faults (environment seen c t) t)
      (file_of (environment seen c t) path t)
      → ElaboratesTo loaded files reach sight path t r
  some-set c (Ok d) same own h = record {
    faultless = all-faultless own
        (options-faultless seen reached_descriptors seen_descriptors t
        (subst (λ (k : Customs). file_faults (environment seen k t) t ≡ []) same h.0));
    descriptor = h.1 ∙ ap (λ (k : Customs). file_of (environment seen k t) path t) same;
    alike = ap bare_file h.1 ∙ options-alike seen c path t;
  }
  some-set c (Err (failure.Memory)) same own h = tt
  some-set c (Err (failure.Fault error)) same own h =
      rw (once, own)
      (subst (λ (k : Customs). IsFirst (file_faults (environment seen k t) t) (fault_view error))
      same h)
