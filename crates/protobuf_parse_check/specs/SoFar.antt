-- No public clause rests on this file.
-- What is known while the files of a load are judged, one after another.
use Rattle.std.specs.Prelude.{◌≡◌, ◌≤◌, ℕ, Bool, true, false, List, [], ◌∷◌, ◌++◌, map, Some, slice_get}
use Rattle.std.specs.Prelude.{string_bytes}
use Rattle.std.specs.List.{AllByRecursion, Contains}
use Rattle.std.specs.List.Sorted.{IsStrictlyIncreasing}
use Rattle.protobuf_parse_base.specs.Multimaps.{values_under}
use Rattle.protobuf_parse_syntax.specs.Counts.{statements_in}
use Rattle.protobuf_parse_syntax.specs.Trees.{FileSyntax, file_syntax}
use Rattle.protobuf_parse_model.specs.Descriptors as described
use Rattle.protobuf_parse_model.specs.Descriptors.{Text, FileDescriptor}
use Rattle.protobuf_parse_model.specs.Faults.{found}
use Rattle.protobuf_parse_model.specs.Tables.{TableTells}
use Rattle.protobuf_parse_elaboration.specs.FilesByPath.{AreDistinct}
use Rattle.protobuf_parse_options.specs.WithoutOptions.{DifferOnlyInOptions}
use Rattle.protobuf_parse_run.specs.Loading.{Agrees, AreKnown, IndexBegins, IsNumbered, LoadedEntry}
use Rattle.protobuf_parse_run.specs.Loading.{IsReaders, Named, descriptor_in, named_trees, tree_in, trees_of}
use Rattle.protobuf_parse_run.specs.PlainRuns.{plain_of}
use Rattle.protobuf_parse_run.specs.Run.{HasTrees}
use Rattle.protobuf_parse_run.specs.Walks.{Input, among, at, import_paths}
use Rattle.protobuf_parse_run.specs.declared.log.ReadEntry.{ReadEntry}
use Rattle.protobuf_parse_load.specs.declared.log.Load.{Load}
use Rattle.protobuf_parse_load.specs.Loads.{AreLoadedFiles, IsFirstRead, steps_view}
use Rattle.protobuf_parse_load.specs.Steps.{Step, closed_paths, held}
use Rattle.protobuf_parse_load.specs.declared.log.LoadedFile.{LoadedFile}
use Rattle.protobuf_parse_check.specs.declared.judge.Judge.{Judge}
use Rattle.protobuf_parse_check.specs.declared.report.FileReport.{FileReport}
use Rattle.protobuf_parse_check.specs.declared.verdict.Verdict.{Verdict}
use Rattle.protobuf_parse_check.specs.Gathered.{AreBrought, brings}
use Rattle.protobuf_parse_check.specs.Judging.{Bringers}
use Rattle.protobuf_parse_check.specs.Reports.{AreListedIn, Checked, descriptor_of, faults_of}
use Rattle.protobuf_parse_check.specs.Reports.{files_of, is_troubled, loses_public, read_files}
use Rattle.protobuf_parse_check.specs.Reports.{state_of}
use Rattle.protobuf_parse_check.specs.Trimmed.{trimmed}

-- the table has the names of the judged files
abbrev pub TellsNames : Judge → Type 0
TellsNames j = TableTells j.tables.names (trees_of (named_trees j.loaded.entries))

-- the index has the first of them
abbrev pub BeginsIndex : Judge → Type 0
BeginsIndex j = IndexBegins j.tables.spots (map descriptor_in j.loaded.entries)

-- What was loaded has trees and lists, and each file stands behind those that it imports.
pub record IsOrdered (c : Checked) : Type 0 where
  pub trees : HasTrees c.bundled c.reads c.whole
  pub listed : AreListedIn c
  pub once : AreDistinct (closed_paths c.steps)
  pub imports : (before : List Text) (p : Text) (after : List Text) (t : FileSyntax)
      → closed_paths c.steps ≡ before ++ p ∷ after → (files_of c).trees p ≡ Some t
      → (q : Text) → among q (import_paths t) ≡ true → among q before ≡ true

-- this is what the file of the path became, and what is told of it
pub record IsVerdict (c : Checked) (p : Text) (e : LoadedEntry) (v : Verdict) : Type 0 where
  pub named : string_bytes e.0 ≡ p
  pub tree : FileSyntax
  pub whole : c.whole p ≡ Some tree
  pub is : tree_in e.1 ≡ trimmed c.steps p tree
  pub kept : file_syntax v.tree ≡ trimmed c.steps p tree
  pub read : IsFirstRead c.reads p e.1.read
  pub troubled : v.troubled ≡ is_troubled c p
  pub loses_public_is : v.loses_public ≡ loses_public c p (c.whole p)
  pub state : v.state ≡ state_of c p
  pub repeats : AreBrought (files_of c) p (trimmed c.steps p tree) (found v.repeats)
  pub faults : found v.faults ≡ faults_of c p (trimmed c.steps p tree)
  pub descriptor : described.file_view e.1.descriptor
      ≡ descriptor_of c p (trimmed c.steps p tree)

-- of each of these files
abbrev pub AreVerdicts : Checked → List Text → List LoadedEntry → List Verdict → Type 0
AreVerdicts c [] [] [] = Unit {0}
AreVerdicts c (p ∷ ps) (e ∷ es) (v ∷ vs) = IsVerdict c p e v × AreVerdicts c ps es vs
AreVerdicts c _ _ _ = ⊥

-- the descriptor of a file without its custom options
abbrev pub plain_named : Checked → Named → FileDescriptor
plain_named c f = plain_of (files_of c) f.0 f.1

-- just the files are noted for a name that bring its declarations together
pub record KeepsBringers (c : Checked) (extension : Bool) (loaded : List LoadedEntry)
    (bringers : Bringers) : Type 0 where
  pub only : (name : Text) (n : ℕ) → Contains (values_under bringers name) n
      → (q : Text) × IsNumbered (named_trees loaded) n q
      × (brings (files_of c) extension q name ≡ true)
  pub all : (name : Text) (n : ℕ) (q : Text) → IsNumbered (named_trees loaded) n q
      → brings (files_of c) extension q name ≡ true → Contains (values_under bringers name) n

-- these files were judged, and those come next
pub record IsSoFar (c : Checked) (j : Judge) (before after : List Text) : Type 0 where
  pub order : closed_paths c.steps ≡ before ++ after
  pub known : AreKnown j.loaded.entries j.tables c.reads
  pub agrees : Agrees (files_of c).trees (named_trees j.loaded.entries)
  pub rising : (n : ℕ) (e : LoadedEntry) → slice_get j.loaded.entries n ≡ Some e
      → IsStrictlyIncreasing e.1.reach.items
  pub alike : DifferOnlyInOptions (map descriptor_in j.loaded.entries)
      (map (plain_named c) (named_trees j.loaded.entries))
  pub types : KeepsBringers c false j.loaded.entries j.brought.types
  pub extensions : KeepsBringers c true j.loaded.entries j.brought.extensions
  pub verdicts : AreVerdicts c before j.loaded.entries j.verdicts.items

-- ---- a whole load

-- no file has more statements than a tree of a text may have
abbrev pub AreFew : List LoadedFile → Type 0
AreFew files =
    AllByRecursion (λ (f : LoadedFile). statements_in (file_syntax f.tree) ≤ 2147483647) files

-- what is told of a file that was judged
abbrev pub report_in : LoadedEntry → Verdict → FileReport
report_in e v = record {
  path = e.0;
  read = e.1.read;
  tree = v.tree;
  state = v.state;
  repeats = v.repeats;
  faults = v.faults;
  descriptor = e.1.descriptor;
}

-- of each of them
abbrev pub reports_of : List LoadedEntry → List Verdict → List FileReport
reports_of [] vs = []
reports_of (e ∷ es) [] = []
reports_of (e ∷ es) (v ∷ vs) = report_in e v ∷ reports_of es vs

-- an input that a step held against what was loaded: it lies at a path of its own, the read with
-- that number asked the reader for it, and the file of its proto path is among these
pub record HoldsRead (inputs : List Input) (log : List ReadEntry) (loaded : List Text) (n : ℕ)
    (p : Text) (read : ℕ) : Type 0 where
  pub own : Text
  pub input : slice_get inputs n ≡ Some (at p own)
  pub entry : ReadEntry
  pub found : slice_get log read ≡ Some entry
  pub readers : IsReaders entry.outcome
  pub there : among p loaded ≡ true

abbrev pub StepHolds : List Input → List ReadEntry → List Text → Step → Type 0
StepHolds inputs log loaded (held n p read) = HoldsRead inputs log loaded n p read
StepHolds inputs log loaded _ = Unit {0}

-- so does each step that holds one
abbrev pub HoldReads : List Input → List ReadEntry → List Text → List Step → Type 0
HoldReads inputs log loaded steps = AllByRecursion (StepHolds inputs log loaded) steps

-- this is what was loaded
pub record IsLoadOf (c : Checked) (load : Load) : Type 0 where
  pub steps : steps_view load.steps.items ≡ c.steps
  pub files : AreLoadedFiles (read_files c) (closed_paths c.steps) load.files.items
