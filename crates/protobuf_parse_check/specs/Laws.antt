-- Laws of what a check tells, beside what a run over the same inputs answers.
use Rattle.std.specs.Prelude.{◌≡◌, ◌↔◌, ℕ, true, false, List, [], map, Some, Ok, find, slice_get}
use Rattle.std.specs.Global.{Vec}
use Rattle.std.specs.List.{AllByRecursion, list_any}
use Rattle.std.specs.declared.alloc.AllocError.{AllocError}
use Rattle.protobuf_parse_syntax.specs.Trees.{FileSyntax}
use Rattle.protobuf_parse_model.specs.Descriptors.{Text}
use Rattle.protobuf_parse_model.specs.Faults.{Among}
use Rattle.protobuf_parse_model.specs.declared.descriptor.FileDescriptorProto.{FileDescriptorProto}
use Rattle.protobuf_parse_elaboration.specs.FileDescriptor.{file_of}
use Rattle.protobuf_parse_run.specs.Run.{AreDescriptors, Files, HaveTrees, Legal, RunsAsTold}
use Rattle.protobuf_parse_run.specs.Run.{environment_of, fails}
use Rattle.protobuf_parse_run.specs.declared.log.ReadEntry.{ReadEntry}
use Rattle.protobuf_parse_run.specs.Stability.{IsClean, WereRead, order}
use Rattle.protobuf_parse_run.specs.Walks.{Event, Input, Trees, among, at, check, elab, events}
use Rattle.protobuf_parse_run.specs.Walks.{reads_in}
use Rattle.protobuf_parse_load.specs.Laws.{event_of, is_told}
use Rattle.protobuf_parse_load.specs.Loads.{steps_view}
use Rattle.protobuf_parse_load.specs.Steps.{Step, closed_paths, load_reads, load_steps}
use Rattle.protobuf_parse_check.specs.declared.report.Check.{Check}
use Rattle.protobuf_parse_check.specs.declared.report.FileReport.{FileReport}
use Rattle.protobuf_parse_check.specs.declared.report.FileState.TheVariants.{Sound}
use Rattle.protobuf_parse_check.specs.Reports.{AreListedIn, AreReports, Checked, ChecksAsTold}
use Rattle.protobuf_parse_check.specs.Reports.{Clash, HaveOrderedLists, clashes_in, descriptor_of}
use Rattle.protobuf_parse_check.specs.Reports.{faults_of, files_of, is_faulty, is_settled}
use Rattle.protobuf_parse_check.specs.Reports.{loaded_of, state_of}
use Rattle.protobuf_parse_check.specs.Trimmed.{trimmed}

-- what a check goes by where a run read these files, with the lists that the check has of them
abbrev pub checked_of : Files → List Input → (reached seen : Text → List Text) → Checked
checked_of files inputs reached seen =
    loaded_of files.bundled files.reads files.trees inputs reached seen

-- A check tells nothing: no input and no import that isn't followed, no input for which another
-- file was loaded, and nothing of a file.
pub record TellsNothing (c : Checked) : Type 0 where
  pub steps : list_any is_told c.steps ≡ false
  pub clashes : clashes_in (files_of c) c.steps ≡ []
  pub files : list_any (is_faulty c) (closed_paths c.steps) ≡ false

-- ---- a check that tells nothing

-- Where no step tells something, each file is whole.
abbrev pub QuietFilesAreWhole : Type 0
QuietFilesAreWhole = (steps : List Step) → list_any is_told steps ≡ false
    → (p : Text) (t : FileSyntax) → trimmed steps p t ≡ t

-- In the check the file is what it is in the run: it is whole and sound, nothing is told of it, and
-- it becomes the same.
pub record IsAsInRun (files : Files) (c : Checked) (p : Text) (t : FileSyntax) : Type 0 where
  pub whole : trimmed c.steps p t ≡ t
  pub settled : is_settled c p ≡ true
  pub state : state_of c p ≡ Sound
  pub faults : faults_of c p (trimmed c.steps p t) ≡ []
  pub descriptor : descriptor_of c p (trimmed c.steps p t) ≡ file_of (environment_of files p t) p t

-- Where a check tells nothing, so it is for each file that was loaded, in whatever order the run
-- lists what files reach and see.
abbrev pub QuietFilesAreRuns : Type 0
QuietFilesAreRuns = (files : Files) (inputs : List Input) (reached seen : Text → List Text)
    → WereRead files
    → let c = checked_of files inputs reached seen in
    AreListedIn c → TellsNothing c
    → (p : Text) (t : FileSyntax) → among p (closed_paths c.steps) ≡ true
    → files.trees p ≡ Some t → IsAsInRun files c p t

-- Where no step tells something, the files come in the order of the run.
abbrev pub QuietOrderIsRuns : Type 0
QuietOrderIsRuns = (trees : Trees) (inputs : List Input)
    → list_any is_told (load_steps trees inputs) ≡ false
    → closed_paths (load_steps trees inputs) ≡ order trees inputs

-- And just what the run reads was read, in the order of the run.
abbrev pub QuietReadsAreRuns : Type 0
QuietReadsAreRuns = (trees : Trees) (inputs : List Input)
    → list_any is_told (load_steps trees inputs) ≡ false
    → load_reads trees inputs ≡ reads_in (events trees inputs)

-- Where a check tells nothing, its descriptors are those of the run, in the order of the run.
abbrev pub QuietDescriptorsAreRuns : Type 0
QuietDescriptorsAreRuns = (files : Files) (inputs : List Input) (reached seen : Text → List Text)
    → WereRead files
    → let c = checked_of files inputs reached seen in
    AreListedIn c → TellsNothing c
    → (reports : List FileReport) → AreReports c (closed_paths c.steps) reports
    → AreDescriptors files (order files.trees inputs)
    (map (λ (r : FileReport). r.descriptor) reports)

-- A check tells nothing exactly where the run is accepted, in whatever order each of them lists
-- what files reach and see.
abbrev pub QuietIsAccepted : Type 0
QuietIsAccepted = (files : Files) (inputs : List Input) (reached seen : Text → List Text)
    → WereRead files
    → let c = checked_of files inputs reached seen in
    AreListedIn c → TellsNothing c ↔ IsClean files inputs

-- ---- what ends a run

-- one of the steps tells what happens so in a run
pub record TellsStep (c : Checked) (inputs : List Input) (e : Event) : Type 0 where
  pub step : Step
  pub stands : Among c.steps step
  pub told : is_told step ≡ true
  pub happens : event_of inputs step ≡ e

-- one of the clashes is of the input that lies at this path of its own and has this proto path, by
-- the read with this number
pub record TellsClash (c : Checked) (inputs : List Input) (n : ℕ) (own p : Text) : Type 0 where
  pub clash : Clash
  pub stands : Among (clashes_in (files_of c) c.steps) clash
  pub input : slice_get inputs clash.input ≡ Some (at p own)
  pub path : clash.path ≡ p
  pub read : clash.read ≡ n

-- a check tells what happens so in a run: of a file, that something is wrong in it; of an input
-- that is held against what was loaded, that it is another file; and of all else, that it isn't
-- followed
abbrev pub TellsEvent : Checked → List Input → Event → Type 0
TellsEvent c inputs (elab p) = (among p (closed_paths c.steps) ≡ true) × (is_faulty c p ≡ true)
TellsEvent c inputs (check n own p) = TellsClash c inputs n own p
TellsEvent c inputs e = TellsStep c inputs e

-- The first event that ends a run is told by the check.
abbrev pub FirstFaultIsTold : Type 0
FirstFaultIsTold = (files : Files) (inputs : List Input) (reached seen : Text → List Text)
    → WereRead files
    → let c = checked_of files inputs reached seen in
    AreListedIn c
    → (e : Event) → find (fails files) (events files.trees inputs) ≡ Some e
    → TellsEvent c inputs e

-- ---- what a check answers

-- the answer of a check that tells nothing
pub record IsQuiet (done : Check) : Type 0 where
  pub steps : list_any is_told (steps_view done.steps.items) ≡ false
  pub clashes : done.clashes.items ≡ []
  pub files : AllByRecursion (λ (r : FileReport). r.state ≡ Sound) done.files.items

-- Where a check is done and tells nothing, a run that is answered just what it was answered is
-- accepted, with the descriptors of the check.
abbrev pub QuietAnswersAreRuns : Legal → Type 0
QuietAnswersAreRuns legal =
    (inputs : List Input) (bundled : List (Text × Text)) (log : List ReadEntry) (done : Check)
    (ds : Vec FileDescriptorProto) → HaveOrderedLists inputs bundled log
    → ChecksAsTold {E = AllocError} legal inputs bundled log (Ok done) → IsQuiet done
    → ds.items ≡ map (λ (r : FileReport). r.descriptor) done.files.items
    → RunsAsTold legal inputs bundled log (Ok ds)

-- And a check that was answered just what an accepted run was answered tells nothing.
abbrev pub AcceptedAreQuiet : Legal → Type 0
AcceptedAreQuiet legal =
    (inputs : List Input) (bundled : List (Text × Text)) (log : List ReadEntry) (done : Check)
    (ds : Vec FileDescriptorProto) → HaveTrees bundled log → HaveOrderedLists inputs bundled log
    → ChecksAsTold {E = AllocError} legal inputs bundled log (Ok done)
    → RunsAsTold legal inputs bundled log (Ok ds) → IsQuiet done
