-- What a check tells of each file that its inputs reach.
use Rattle.std.specs.Prelude.{◌≡◌, ◌&&◌, ◌||◌, ℕ, Bool, true, false, not, List, [], ◌∷◌, ◌++◌}
use Rattle.std.specs.Prelude.{filter, flat_map, Option, Some, None, Result, Ok, Err, slice_get, string_bytes}
use Rattle.std.specs.Prelude.{if◌then◌else◌}
use Rattle.std.specs.List.{list_any}
use Rattle.protobuf_parse_syntax.specs.Trees.{FileSyntax, file_syntax}
use Rattle.protobuf_parse_model.specs.Descriptors as described
use Rattle.protobuf_parse_model.specs.Descriptors.{Text, FileDescriptor}
use Rattle.protobuf_parse_model.specs.Faults.{Fault, found}
use Rattle.protobuf_parse_model.specs.declared.error.ElabErrorKind.{ElabErrorKind}
use Rattle.protobuf_parse_model.specs.declared.error.ElabErrorKind.TheVariants as kind
use Rattle.protobuf_parse_elaboration.specs.FileDescriptor.{file_faults, file_of}
use Rattle.protobuf_parse_run.specs.PlainRuns.{plain_of}
use Rattle.protobuf_parse_run.specs.Repeats.{is_nothing}
use Rattle.protobuf_parse_run.specs.Run.{AreAnswered, Files, HasTrees, Legal, StandsInCheck}
use Rattle.protobuf_parse_run.specs.Run.{answer_at, are_same_bytes, content_at, environment_of}
use Rattle.protobuf_parse_run.specs.Run.{own_faults, text_for}
use Rattle.protobuf_parse_run.specs.Walks.{Input, Trees, at}
use Rattle.protobuf_parse_run.specs.declared.log.ReadEntry.{ReadEntry}
use Rattle.protobuf_parse_load.specs.Loads.{AreUnreadFiles, IsCutOff, IsFirstRead, ReadFiles}
use Rattle.protobuf_parse_load.specs.Loads.{steps_view}
use Rattle.protobuf_parse_load.specs.Steps.{At, Step, closed_paths, held, load_of}
use Rattle.protobuf_parse_check.specs.declared.report.Check.{Check}
use Rattle.protobuf_parse_check.specs.declared.report.FileReport.{FileReport}
use Rattle.protobuf_parse_check.specs.declared.report.FileState.{FileState}
use Rattle.protobuf_parse_check.specs.declared.report.FileState.TheVariants.{Sound, HeldUp, Faulty}
use Rattle.protobuf_parse_check.specs.declared.report.InputFault.{InputFault}
use Rattle.protobuf_parse_check.specs.Gathered.{AreBrought, brings_any, brought, brought_faults}
use Rattle.protobuf_parse_check.specs.Trimmed.{AreListed, has_told, has_told_public, same_place}
use Rattle.protobuf_parse_check.specs.Trimmed.{trimmed, trimmed_trees}

-- What was loaded: the bundled files, what was read, the tree of each path, the steps; and the paths
-- that each file reaches, and those that it sees, by the imports that are followed.
pub record Checked : Type 0 where
  pub bundled : List (Text × Text)
  pub reads : List ReadEntry
  pub whole : Trees
  pub steps : List Step
  pub reached : Text → List Text
  pub seen : Text → List Text

-- the files, without the imports that are told
abbrev pub files_of : Checked → Files
files_of c = record {
  bundled = c.bundled;
  reads = c.reads;
  trees = trimmed_trees c.steps c.whole;
  reached = c.reached;
  seen = c.seen;
}

-- ---- what is wrong in a file

-- whether an import of the file is told
abbrev pub loses : Checked → Text → Option FileSyntax → Bool
loses c p None = false
loses c p (Some t) = has_told c.steps p t

-- whether a public import of it is
abbrev pub loses_public : Checked → Text → Option FileSyntax → Bool
loses_public c p None = false
loses_public c p (Some t) = has_told_public c.steps p t

-- Whether something is wrong in the file, its custom options left out.
abbrev pub is_troubled : Checked → Text → Bool
is_troubled c p = loses c p (c.whole p)
    || (brings_any (files_of c) p
    || not (is_nothing (own_faults (files_of c) p ((files_of c).trees p))))

-- Custom options are looked at where nothing else is wrong, in the file or in those that it reaches:
-- so the descriptors in which they are looked up say what each name means.
abbrev pub is_settled : Checked → Text → Bool
is_settled c p = not (list_any (is_troubled c) (c.reached p))

-- Whether a name that isn't found may be declared in a file that is not there: an import of the file
-- is told, or a public import of one that it sees.
abbrev pub misses_names : Checked → Text → Bool
misses_names c p = loses c p (c.whole p)
    || list_any (λ q. loses_public c q (c.whole q)) (c.seen p)

-- whether a fault is E2 or E3
abbrev pub is_of_unfound : ElabErrorKind → Bool
is_of_unfound kind.NotFoundByAbsPath = true
is_of_unfound kind.NotFoundByRelPath = true
is_of_unfound _ = false

-- whether it is E1
abbrev pub is_of_duplicate : ElabErrorKind → Bool
is_of_duplicate kind.DuplicateName = true
is_of_duplicate _ = false

-- E5 and E6 of the file, as often as the names are declared
abbrev pub all_brought : Files → Text → FileSyntax → List Fault
all_brought files p t = brought_faults files p t false (brought files false p)
    ++ brought_faults files p t true (brought files true p)

-- whether one of these stands at the place
abbrev pub stands_at : Fault → List Fault → Bool
stands_at f told = list_any (λ (g : Fault). same_place f.place g.place) told

-- A fault is hidden where it may be no fault, since a file is missing; and E1 where E5 or E6 tells
-- the same of the same declaration.
abbrev pub is_hidden : Checked → Text → FileSyntax → Fault → Bool
is_hidden c p t f = (misses_names c p && is_of_unfound f.wrong.kind)
    || (is_of_duplicate f.wrong.kind && stands_at f (all_brought (files_of c) p t))

-- What is told of the file of this path, which has this tree without the imports that are told,
-- beside these and beside E5 and E6.
abbrev pub faults_of : Checked → Text → FileSyntax → List Fault
faults_of c p t =
    if is_settled c p then file_faults (environment_of (files_of c) p t) t
    else filter (λ (f : Fault). not (is_hidden c p t f)) (own_faults (files_of c) p (Some t))

-- ---- what became of it

-- whether something is told of the file
abbrev pub is_faulty_tree : Checked → Text → Option FileSyntax → Bool
is_faulty_tree c p None = false
is_faulty_tree c p (Some t) = has_told c.steps p t
    || (brings_any (files_of c) p || not (is_nothing (faults_of c p (trimmed c.steps p t))))

-- so of a file by its path
abbrev pub is_faulty : Checked → Text → Bool
is_faulty c p = is_faulty_tree c p (c.whole p)

-- a file is faulty, or else held up by one below it, or else sound
abbrev pub state_by : (faulty below : Bool) → FileState
state_by faulty below = if faulty then Faulty else if below then HeldUp else Sound

-- what became of the file of this path
abbrev pub state_of : Checked → Text → FileState
state_of c p = state_by (is_faulty c p) (list_any (is_faulty c) (c.reached p))

-- What the file becomes: with its custom options where these are looked at.
abbrev pub descriptor_of : Checked → Text → FileSyntax → FileDescriptor
descriptor_of c p t =
    if is_settled c p then file_of (environment_of (files_of c) p t) p t
    else plain_of (files_of c) p t

-- what was loaded
abbrev pub read_files : Checked → ReadFiles
read_files c = record { bundled = c.bundled; reads = c.reads; trees = c.whole }

-- This is the report of the file of a path.
pub record IsReport (c : Checked) (p : Text) (r : FileReport) : Type 0 where
  pub tree : FileSyntax
  pub whole : c.whole p ≡ Some tree
  pub path : string_bytes r.path ≡ p
  pub read : IsFirstRead c.reads p r.read
  pub trimmed_is : file_syntax r.tree ≡ trimmed c.steps p tree
  pub state : r.state ≡ state_of c p
  pub repeats : AreBrought (files_of c) p (trimmed c.steps p tree) (found r.repeats)
  pub faults : found r.faults ≡ faults_of c p (trimmed c.steps p tree)
  pub descriptor : described.file_view r.descriptor ≡ descriptor_of c p (trimmed c.steps p tree)

-- these are the reports of the files of these paths, in this order
abbrev pub AreReports : Checked → List Text → List FileReport → Type 0
AreReports c [] [] = Unit {0}
AreReports c (p ∷ ps) (r ∷ rs) = IsReport c p r × AreReports c ps rs
AreReports c _ _ = ⊥

-- ---- inputs at paths of their own

-- whether what an input's own path has, by this read, are the bytes that were loaded for its proto
-- path
abbrev pub is_same_file : Files → Text → ℕ → Bool
is_same_file files p read = are_same_bytes (content_at files read) (text_for files p)

-- an input whose own path has other bytes than were loaded for its proto path, or can't be read, and
-- by which read
pub record Clash : Type 0 where
  pub input : ℕ
  pub path : Text
  pub read : ℕ

-- the one of a step, if it finds one
abbrev pub clash_in : Files → Step → List Clash
clash_in files (held n p read) =
    if is_same_file files p read then [] else record { input = n; path = p; read = read } ∷ []
clash_in files _ = []

-- those of several steps
abbrev pub clashes_in : Files → List Step → List Clash
clashes_in files steps = flat_map (clash_in files) steps

-- the fault stands for the input: L6, or L4 where it can't be read
pub record IsClash (files : Files) (inputs : List Input) (c : Clash) (f : InputFault) : Type 0 where
  pub own : Text
  pub input : slice_get inputs c.input ≡ Some (at c.path own)
  pub input_is : f.input ≡ c.input
  pub stands : StandsInCheck own c.path (answer_at files c.read) f.fault

-- these are their faults, in order
abbrev pub AreClashes : Files → List Input → List Clash → List InputFault → Type 0
AreClashes files inputs [] [] = Unit {0}
AreClashes files inputs (c ∷ cs) (f ∷ fs) =
    IsClash files inputs c f × AreClashes files inputs cs fs
AreClashes files inputs _ _ = ⊥

-- ---- a check

-- What a check tells that is done: these are its steps, its reads were answered so, and of each file
-- there is what becomes of it.
pub record IsCheck (legal : Legal) (c : Checked) (inputs : List Input) (a : At) (check : Check)
    : Type 0 where
  pub steps : steps_view check.steps.items ≡ a.steps
  pub answers : AreAnswered legal a.reads c.reads
  pub unread : AreUnreadFiles (read_files c) a.unread check.unread.items
  pub clashing : AreClashes (files_of c) inputs
      (clashes_in (files_of c) a.steps) check.clashes.items
  pub files : AreReports c (closed_paths a.steps) check.files.items

-- how a check may end: it is done, or memory ran out
abbrev pub CheckEnds : {E : Type 0} → Legal → Checked → List Input → At → Result Check E → Type 0
CheckEnds legal c inputs a (Ok check) = IsCheck legal c inputs a check
CheckEnds legal c inputs a (Err e) = IsCutOff legal a c.reads

-- what was loaded of these inputs
abbrev pub loaded_of : List (Text × Text) → List ReadEntry → Trees → List Input
    → (reached seen : Text → List Text) → Checked
loaded_of bundled log trees inputs reached seen = record {
  bundled = bundled;
  reads = log;
  whole = trees;
  steps = (load_of trees inputs).steps;
  reached = reached;
  seen = seen;
}

-- the lists of the files that each file reaches and sees by the imports that are followed
abbrev pub AreListedIn : Checked → Type 0
AreListedIn c =
    AreListed (files_of c).trees (closed_paths c.steps) c.reached c.seen

-- A check over these inputs and bundled files read this log and ended so, whichever trees the texts
-- have.
abbrev pub ChecksAsTold : {E : Type 0} → Legal → List Input → List (Text × Text)
    → List ReadEntry → Result Check E → Type 0
ChecksAsTold legal inputs bundled log result =
    (trees : Trees) (reached seen : Text → List Text) → HasTrees bundled log trees
    → let c = loaded_of bundled log trees inputs reached seen in
    AreListedIn c → CheckEnds legal c inputs (load_of trees inputs) result

-- There are such lists.
abbrev pub HaveOrderedLists : List Input → List (Text × Text) → List ReadEntry → Type 0
HaveOrderedLists inputs bundled log =
    (trees : Trees) → HasTrees bundled log trees
    → (reached : Text → List Text) × (seen : Text → List Text)
    × AreListedIn (loaded_of bundled log trees inputs reached seen)
