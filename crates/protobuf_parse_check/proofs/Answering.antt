-- What a check answers that tells nothing, beside what a run answers.
use Rattle.std.proofs.Common.{◌≡◌, ◌∙◌, Bool, true, false, List, [], ◌∷◌, ap, refl}
use Rattle.std.proofs.Common.{subst}
use Rattle.std.proofs.Common.{sym, Ok}
use Rattle.std.specs.Prelude.{bytes_eq}
use Rattle.std.specs.List.{AllByRecursion, list_any}
use Rattle.std.specs.declared.alloc.AllocError.{AllocError}
use Rattle.protobuf_parse_model.specs.Descriptors.{Text}
use Rattle.protobuf_parse_model.specs.declared.descriptor.FileDescriptorProto.{FileDescriptorProto}
use Rattle.protobuf_parse_run.specs.Run.{AreAnswered, AreDescriptors, Files, HasTrees, Legal}
use Rattle.protobuf_parse_run.specs.Stability.{WereRead, order}
use Rattle.protobuf_parse_run.specs.Walks.{FileRead, Input, Trees, among}
use Rattle.protobuf_parse_run.specs.declared.log.ReadEntry.{ReadEntry}
use Rattle.protobuf_parse_run.proofs.Keeping.{or_left, or_right, text-same}
use Rattle.protobuf_parse_run.proofs.Listed.{have-lists}
use Rattle.protobuf_parse_load.specs.Laws.{is_told as tells}
use Rattle.protobuf_parse_load.specs.Steps.{closed_paths, load_of}
use Rattle.protobuf_parse_check.specs.declared.report.Check.{Check}
use Rattle.protobuf_parse_check.specs.declared.report.FileReport.{FileReport}
use Rattle.protobuf_parse_check.specs.declared.report.FileState.TheVariants.{Sound}
use Rattle.protobuf_parse_check.specs.declared.report.InputFault.{InputFault}
use Rattle.protobuf_parse_check.specs.Laws.{AcceptedAreQuiet, IsQuiet, QuietAnswersAreRuns}
use Rattle.protobuf_parse_check.specs.Laws.{TellsNothing}
use Rattle.protobuf_parse_check.specs.Reports.{AreClashes, AreListedIn, AreReports, Checked}
use Rattle.protobuf_parse_check.specs.Reports.{ChecksAsTold, Clash, IsCheck, clashes_in, files_of}
use Rattle.protobuf_parse_check.specs.Reports.{is_faulty, loaded_of, state_by, state_of}
use Rattle.protobuf_parse_check.proofs.Accepted.{clean, descriptors-are, sound-at, tells-nothing}
use Rattle.protobuf_parse_check.proofs.ReadAlike.{quiet-reads-are-runs}
use Rattle.protobuf_parse_check.proofs.Settled.{both_none}

-- ** lists of what is told

no-clashes : (files : Files) (inputs : List Input) (cs : List Clash) (fs : List InputFault)
    → AreClashes files inputs cs fs → fs ≡ [] → cs ≡ []
no-clashes files inputs [] fs h none = refl
no-clashes files inputs (c ∷ cs) [] h none = absurd h
no-clashes files inputs (c ∷ cs) (f ∷ fs) h none = cc

no-faults : (files : Files) (inputs : List Input) (cs : List Clash) (fs : List InputFault)
    → AreClashes files inputs cs fs → cs ≡ [] → fs ≡ []
no-faults files inputs [] [] h none = refl
no-faults files inputs [] (f ∷ fs) h none = absurd h
no-faults files inputs (c ∷ cs) fs h none = cc

not-faulty : (faulty below : Bool) → state_by faulty below ≡ Sound → faulty ≡ false
not-faulty true below h = cc
not-faulty false below h = refl

none-faulty : (c : Checked) (ps : List Text) (rs : List FileReport) → AreReports c ps rs
    → AllByRecursion (λ (r : FileReport). r.state ≡ Sound) rs
    → list_any (is_faulty c) ps ≡ false
none-faulty c [] [] h all = refl
none-faulty c [] (r ∷ rs) h all = absurd h
none-faulty c (p ∷ ps) [] h all = absurd h
none-faulty c (p ∷ ps) (r ∷ rs) h all =
    both_none (is_faulty c p) (list_any (is_faulty c) ps)
    (not-faulty (is_faulty c p) (list_any (is_faulty c) (c.reached p)) (sym h.0.state ∙ all.0))
    (none-faulty c ps rs h.1 all.1)

all-sound : (c : Checked) (ps : List Text) (rs : List FileReport) → AreReports c ps rs
    → ((p : Text) → among p ps ≡ true → state_of c p ≡ Sound)
    → AllByRecursion (λ (r : FileReport). r.state ≡ Sound) rs
all-sound c [] [] h sound = tt
all-sound c [] (r ∷ rs) h sound = absurd h
all-sound c (p ∷ ps) [] h sound = absurd h
all-sound c (p ∷ ps) (r ∷ rs) h sound = (
  h.0.state ∙ sound p (or_left (bytes_eq p p) (among p ps) (text-same p)),
  all-sound c ps rs h.1 (λ q m. sound q (or_right (bytes_eq q p) (among q ps) m)),
)

-- ** a check that is done

module _ (legal : Legal) (inputs : List Input) (bundled : List (Text × Text))
    (log : List ReadEntry) (done : Check)
    (ended : ChecksAsTold {E = AllocError} legal inputs bundled log (Ok done)) (trees : Trees)
    (has : HasTrees bundled log trees) (reached seen : Text → List Text)
    (lists : AreListedIn (loaded_of bundled log trees inputs reached seen)) where
  abbrev c : Checked
  c = loaded_of bundled log trees inputs reached seen

  is-check : IsCheck legal c inputs (load_of trees inputs) done
  is-check = ended trees reached seen has lists

  quiet-tells : IsQuiet done → TellsNothing c
  quiet-tells quiet = record {
    steps = sym (ap (list_any tells) is-check.steps) ∙ quiet.steps;
    clashes = no-clashes (files_of c) inputs (clashes_in (files_of c) c.steps) done.clashes.items
        is-check.clashing quiet.clashes;
    files = none-faulty c (closed_paths c.steps) done.files.items is-check.files quiet.files;
  }

  tells-quiet : TellsNothing c
      → ((p : Text) → among p (closed_paths c.steps) ≡ true → state_of c p ≡ Sound)
      → IsQuiet done
  tells-quiet nothing sound = record {
    steps = ap (list_any tells) is-check.steps ∙ nothing.steps;
    clashes = no-faults (files_of c) inputs (clashes_in (files_of c) c.steps) done.clashes.items
        is-check.clashing nothing.clashes;
    files = all-sound c (closed_paths c.steps) done.files.items is-check.files sound;
  }

abbrev read_so : List (Text × Text) → List ReadEntry → Trees → (reached seen : Text → List Text)
    → Files
read_so bundled log trees reached seen = record {
  bundled = bundled;
  reads = log;
  trees = trees;
  reached = reached;
  seen = seen;
}

pub quiet-answers-are-runs : (legal : Legal) → QuietAnswersAreRuns legal
quiet-answers-are-runs legal inputs bundled log done ds lists ended quiet same trees reached seen
    has listed =
    let files : Files = read_so bundled log trees reached seen in
    let read : WereRead files = record { trees = has; listed = listed } in
    let l = lists trees has in
    let nothing = quiet-tells legal inputs bundled log done ended trees has l.0 l.1 l.2 quiet in
    let is = is-check legal inputs bundled log done ended trees has l.0 l.1 l.2 in
    record {
      none_fails = clean files inputs l.0 l.1 read l.2 nothing;
      reads = subst (λ (rs : List FileRead). AreAnswered legal rs log)
          (quiet-reads-are-runs trees inputs nothing.steps) is.answers;
      descriptors = subst (λ (xs : List FileDescriptorProto). AreDescriptors files
          (order trees inputs) xs) (sym same)
          (descriptors-are files inputs l.0 l.1 read l.2 nothing done.files.items is.files);
    }

pub accepted-are-quiet : (legal : Legal) → AcceptedAreQuiet legal
accepted-are-quiet legal inputs bundled log done ds have lists ended run =
    let trees : Trees = have.0 in
    let has : HasTrees bundled log trees = λ p. (have.1 p).0 in
    let k = have-lists bundled log trees has in
    let files : Files = read_so bundled log trees k.0 k.1 in
    let read : WereRead files = record { trees = has; listed = k.2 } in
    let l = lists trees has in
    let accepted = run trees k.0 k.1 has k.2 in
    let nothing = tells-nothing files inputs l.0 l.1 read l.2 accepted.none_fails in
    tells-quiet legal inputs bundled log done ended trees has l.0 l.1 l.2 nothing
    (sound-at files inputs l.0 l.1 read l.2 nothing)
