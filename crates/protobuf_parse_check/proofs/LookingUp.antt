-- What a file becomes, whether its custom options are looked at or not.
use Rattle.std.proofs.Common.{◌≡◌, ◌∙◌, ◌⊎◌, ℕ, Bool, true, false, not, ◌&&◌, List, [], ◌∷◌, ap, inl}
use Rattle.std.proofs.Common.{arith, inr, length, map}
use Rattle.std.proofs.Common.{refl, sym, if◌then◌else◌}
use Rattle.std.specs.Global.{Vec}
use Rattle.std.specs.Bool.{◌==◌}
use Rattle.std.specs.Prelude.{IfOk, OnOk, Result, Ok, Err, vec_len}
use Rattle.std.specs.List.{list_any}
use Rattle.std.proofs.lemmas.Bool.{eqb-true}
use Rattle.protobuf_parse_syntax.specs.Trees.{FileSyntax}
use Rattle.protobuf_parse_model.specs.Descriptors as described
use Rattle.protobuf_parse_model.specs.Descriptors.{FileDescriptor, Text}
use Rattle.protobuf_parse_model.specs.Faults.{Fault, fault_view, found}
use Rattle.protobuf_parse_model.specs.Tables.{picked}
use Rattle.protobuf_parse_model.specs.declared.descriptor.FileDescriptorProto.{FileDescriptorProto}
use Rattle.protobuf_parse_model.specs.declared.error.ElabError.{ElabError}
use Rattle.protobuf_parse_elaboration.specs.CustomSets.{sets_custom}
use Rattle.protobuf_parse_elaboration.specs.FileDescriptor.{environment, file_faults}
use Rattle.protobuf_parse_elaboration.specs.OptionSets.{option_sets}
use Rattle.protobuf_parse_options.specs.WithoutOptions.{bare_file}
use Rattle.protobuf_parse_run.specs.Loading.{LoadedEntry, customs_over, descriptors_over}
use Rattle.protobuf_parse_run.specs.Loading.{descriptors_with, file_over, own_over}
use Rattle.protobuf_parse_run.specs.Loading.{IndexBegins, IsWhole, picked_descriptors}
use Rattle.protobuf_parse_run.specs.Loading.{plain_over}
use Rattle.protobuf_parse_run.specs.declared.tables.RunSpots.{RunSpots}
use Rattle.protobuf_parse_run.specs.Repeats.{is_nothing}
use Rattle.protobuf_parse_run.proofs.Catching.{next-alike, whole-alike, whole-begins}
use Rattle.protobuf_parse_run.proofs.Spelling.{nothing-known, nothing-spelled, options-alike}
use Rattle.protobuf_parse_check.specs.declared.judged.Judged.{Judged}
use Rattle.protobuf_parse_check.specs.Judging.{IsJudged, LooksUp, looks_over}

and_false : (b : Bool) → (b && false) ≡ false
and_false true = refl
and_false false = refl

not_false : (b : Bool) → not b ≡ false → b ≡ true
not_false true h = refl
not_false false h = cc

not_true : (b : Bool) → not b ≡ true → b ≡ false
not_true true h = cc
not_true false h = refl

nothing-of : (fs : List Fault) → is_nothing fs ≡ true → fs ≡ []
nothing-of [] h = refl
nothing-of (f ∷ fs) h = cc

-- no fault is found where there is none
pub nothing-is : (faults : Vec ElabError) (fs : List Fault) → found faults ≡ fs
    → (vec_len faults == 0) ≡ is_nothing fs
nothing-is faults fs is =
    ap (λ (n : ℕ). n == 0) faults.ok.0 ∙ none faults.items ∙ ap is_nothing is
  where
    none : (es : List ElabError) → (length es == 0) ≡ is_nothing (map fault_view es)
    none [] = refl
    none (e ∷ es) = some (length (e ∷ es) == 0) refl
      where
        some : (b : Bool) → (length (e ∷ es) == 0) ≡ b → b ≡ false
        some true is = let no = eqb-true (length (e ∷ es)) 0 is in absurd (omega (arith, no))
        some false is = refl

module _ (loaded : List LoadedEntry) (files : List FileSyntax) (reach sight : List ℕ)
    (looks_up : Bool) (path : Text) (t : FileSyntax) where
  abbrev descriptors : List FileDescriptor
  descriptors = descriptors_over loaded files sight path t

  abbrev own : List Fault
  own = own_over files sight t

  abbrev customs_told : List Fault
  customs_told = file_faults (environment (picked files sight)
      (customs_over descriptors reach sight) t) t

  -- without its custom options, where these aren't looked at
  plainly : (d : FileDescriptorProto) (faults : Vec ElabError) (faulty : Bool)
      → faulty ≡ not (is_nothing own) → found faults ≡ own
      → described.file_view d ≡ plain_over files sight path t
      → looks_over files sight t looks_up ≡ false
      → IsJudged loaded files reach sight looks_up path t
      (record { descriptor = d; faults = faults; faulty = faulty })
  plainly d faults faulty is told view off = record {
    faulty = is;
    told = told ∙ ap (λ (b : Bool). if b then customs_told else own) (sym off);
    descriptor = view ∙ ap (λ (b : Bool). if b then file_over files descriptors reach sight path t
        else plain_over files sight path t) (sym off);
    alike = ap bare_file view;
  }

  -- where none is set
  unset : (d : FileDescriptorProto) (faults : Vec ElabError) (faulty : Bool)
      → faulty ≡ not (is_nothing own) → found faults ≡ own
      → described.file_view d ≡ plain_over files sight path t
      → own ≡ [] → list_any sets_custom (option_sets t) ≡ false
      → IsJudged loaded files reach sight looks_up path t
      (record { descriptor = d; faults = faults; faulty = faulty })
  unset d faults faulty is told view nothing none = record {
    faulty = is;
    told = told ∙ either (looks_over files sight t looks_up)
        (nothing ∙ sym (nothing-known (picked files sight) (picked_descriptors descriptors reach)
        (picked_descriptors descriptors sight) t none nothing));
    descriptor = view ∙ either-view (looks_over files sight t looks_up)
        (nothing-spelled (picked files sight) (picked_descriptors descriptors reach)
        (picked_descriptors descriptors sight) t none path);
    alike = ap bare_file view;
  }
    where
      either : (b : Bool) → own ≡ customs_told → own ≡ (if b then customs_told else own)
      either true h = h
      either false h = refl

      either-view : (b : Bool)
          → plain_over files sight path t ≡ file_over files descriptors reach sight path t
          → plain_over files sight path t
          ≡ (if b then file_over files descriptors reach sight path t
          else plain_over files sight path t)
      either-view true h = h
      either-view false h = refl

  -- the test that the code makes says one or the other
  pub not-looked : (d : FileDescriptorProto) (faults : Vec ElabError) (faulty : Bool)
      → faulty ≡ not (is_nothing own) → found faults ≡ own
      → described.file_view d ≡ plain_over files sight path t
      → (faulty ≡ true) ⊎ ((looks_up ≡ false)
      ⊎ (list_any sets_custom (option_sets t) ≡ false))
      → IsJudged loaded files reach sight looks_up path t
      (record { descriptor = d; faults = faults; faulty = faulty })
  not-looked d faults faulty is told view (inl w) =
      plainly d faults faulty is told view
      (ap (λ (b : Bool). looks_up && b) (not_true (is_nothing own) (sym is ∙ w))
      ∙ and_false looks_up)
  not-looked d faults faulty is told view (inr (inl w)) =
      plainly d faults faulty is told view (ap (λ (b : Bool). b && is_nothing own) w)
  not-looked d faults faulty is told view (inr (inr w)) = by_own (is_nothing own) refl
    where
      by_own : (b : Bool) → is_nothing own ≡ b
          → IsJudged loaded files reach sight looks_up path t
          (record { descriptor = d; faults = faults; faulty = faulty })
      by_own true h = unset d faults faulty is told view (nothing-of own h) w
      by_own false h =
          plainly d faults faulty is told view
          (ap (λ (b : Bool). looks_up && b) h ∙ and_false looks_up)

  -- with them
  pub looked : (plain : FileDescriptor) (d : Judged)
      → plain ≡ plain_over files sight path t → is_nothing own ≡ true → looks_up ≡ true
      → LooksUp loaded files reach sight plain path t d
      → IsJudged loaded files reach sight looks_up path t d
  looked plain d same nothing looks l =
      let on : looks_over files sight t looks_up ≡ true =
      ap (λ (b : Bool). b && is_nothing own) looks ∙ nothing in
      record {
        faulty = l.faulty ∙ sym (ap not nothing);
        told = l.told
            ∙ ap (λ (p : FileDescriptor). file_faults (environment (picked files sight)
            (customs_over (descriptors_with loaded p) reach sight) t) t) same
            ∙ ap (λ (b : Bool). if b then customs_told else own) (sym on);
        descriptor = l.descriptor
            ∙ ap (λ (p : FileDescriptor).
            file_over files (descriptors_with loaded p) reach sight path t) same
            ∙ ap (λ (b : Bool). if b then file_over files descriptors reach sight path t
            else plain_over files sight path t) (sym on);
        alike = ap bare_file (l.descriptor
            ∙ ap (λ (p : FileDescriptor).
            file_over files (descriptors_with loaded p) reach sight path t) same)
            ∙ options-alike (picked files sight) (customs_over descriptors reach sight) path t;
      }

  pub looked-if : {E : Type 0} (plain : FileDescriptor) (r : Result Judged E)
      → plain ≡ plain_over files sight path t → is_nothing own ≡ true → looks_up ≡ true
      → IfOk r (λ d. LooksUp loaded files reach sight plain path t d)
      → IfOk r (λ d. IsJudged loaded files reach sight looks_up path t d)
  looked-if plain (Ok d) same nothing looks l = looked plain d same nothing looks l
  looked-if plain (Err e) same nothing looks l = tt

-- the index begins with the files, whatever the options of the last
pub index-begins : {E : Type 0} (r : Result Judged E) (spots : RunSpots)
    (loaded : List LoadedEntry) (files : List FileSyntax) (reach sight : List ℕ)
    (plain : FileDescriptor) (path : Text) (t : FileSyntax)
    → plain ≡ plain_over files sight path t
    → IfOk r (λ d. LooksUp loaded files reach sight plain path t d)
    → OnOk r (IsWhole spots (descriptors_with loaded plain))
    → IfOk r (λ d. IndexBegins spots (descriptors_with loaded (described.file_view d.descriptor)))
index-begins (Ok d) spots loaded files reach sight plain path t same l whole =
    let view = described.file_view d.descriptor in
    let alike : bare_file plain ≡ bare_file view =
    ap bare_file same
    ∙ sym (options-alike (picked files sight)
    (customs_over (descriptors_with loaded plain) reach sight) path t)
    ∙ ap bare_file (sym l.descriptor) in
    whole-begins spots (descriptors_with loaded view)
    (whole-alike spots (descriptors_with loaded plain) (descriptors_with loaded view)
    (next-alike loaded plain view alike) whole)
index-begins (Err e) spots loaded files reach sight plain path t same l whole = tt
