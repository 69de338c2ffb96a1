-- No public clause rests on this file.
-- What the functions of a check do, by the numbers of files.
use Rattle.std.specs.Prelude.{◌≡◌, ◌⊎◌, ◌&&◌, ◌||◌, ℕ, Bool, true, false, not, List, [], ◌∷◌, ◌++◌}
use Rattle.std.specs.Prelude.{map, filter, flat_map, length, nat_eq, nat_lt, Option, Some, None}
use Rattle.std.specs.Prelude.{option_to_list, Result, Ok, Err, slice_get, String}
use Rattle.std.specs.Prelude.{if◌then◌else◌}
use Rattle.std.specs.BTreeMap.{BTreeMap}
use Rattle.std.specs.Global.{Global, Vec}
use Rattle.std.specs.List.{list_any}
use Rattle.std.specs.List.Sorted.{IsStrictlyIncreasing}
use Rattle.protobuf_parse_base.specs.Multimaps.{values_under}
use Rattle.protobuf_parse_lexer.specs.declared.lexer.token.Place.{Place}
use Rattle.protobuf_parse_syntax.specs.Dependencies.{imported, imports, is_public}
use Rattle.protobuf_parse_syntax.specs.Trees.{FileSyntax, ImportSyntax, StatementSyntax, file_import}
use Rattle.protobuf_parse_syntax.specs.Trees.{file_syntax}
use Rattle.protobuf_parse_model.specs.Descriptors as described
use Rattle.protobuf_parse_model.specs.Descriptors.{Text, FileDescriptor}
use Rattle.protobuf_parse_model.specs.Faults.{Fault, found}
use Rattle.protobuf_parse_model.specs.Linking.{full_names, occurrences}
use Rattle.protobuf_parse_model.specs.Tables.{listed_names, picked}
use Rattle.protobuf_parse_model.specs.declared.descriptor.FileDescriptorProto.{FileDescriptorProto}
use Rattle.protobuf_parse_model.specs.declared.scope.seen.Declarations.{Declarations}
use Rattle.protobuf_parse_elaboration.specs.FileDescriptor.{environment, file_faults}
use Rattle.protobuf_parse_elaboration.specs.FilesByPath.{AreDistinct, among}
use Rattle.protobuf_parse_options.specs.WithoutOptions.{bare_file}
use Rattle.protobuf_parse_run.specs.Loaded.{number_in}
use Rattle.protobuf_parse_run.specs.Loading.{LoadedEntry, customs_over, descriptors_over}
use Rattle.protobuf_parse_run.specs.Loading.{descriptors_with, file_over}
use Rattle.protobuf_parse_run.specs.Loading.{IsReaders, file_at, own_over, plain_over}
use Rattle.protobuf_parse_run.specs.Loading.{repeat_place_over}
use Rattle.protobuf_parse_run.specs.Repeats.{is_nothing}
use Rattle.protobuf_parse_run.specs.Run.{Files, StandsInCheck, answer_at}
use Rattle.protobuf_parse_run.specs.Walks.{Input, at}
use Rattle.protobuf_parse_run.specs.declared.fault.RunFault.{RunFault}
use Rattle.protobuf_parse_run.specs.declared.fault.RunFault.TheVariants as fault
use Rattle.protobuf_parse_run.specs.declared.loader.LoadedFile.{LoadedFile}
use Rattle.protobuf_parse_run.specs.declared.log.ReadEntry.{ReadEntry}
use Rattle.protobuf_parse_run.specs.declared.reach.Sights.{Sights}
use Rattle.protobuf_parse_load.specs.Loads.{IsFirstRead}
use Rattle.protobuf_parse_load.specs.Steps.{Step, held}
use Rattle.protobuf_parse_check.specs.declared.cuts.Cuts.{Cuts}
use Rattle.protobuf_parse_check.specs.declared.cuts.TrimmedTree.{TrimmedTree}
use Rattle.protobuf_parse_check.specs.declared.imports.FoundImports.{FoundImports}
use Rattle.protobuf_parse_check.specs.declared.judge.Losses.{Losses}
use Rattle.protobuf_parse_check.specs.declared.judged.Judged.{Judged}
use Rattle.protobuf_parse_check.specs.declared.repeats.Brought.{Brought}
use Rattle.protobuf_parse_check.specs.declared.verdict.Verdict.{Verdict}
use Rattle.protobuf_parse_check.specs.Gathered.{kind_of}
use Rattle.protobuf_parse_check.specs.declared.report.FileState.{FileState}
use Rattle.protobuf_parse_check.specs.declared.report.FileState.TheVariants.{Faulty}
use Rattle.protobuf_parse_check.specs.Reports.{is_of_duplicate, is_of_unfound}
use Rattle.protobuf_parse_check.specs.Reports.{is_same_file, stands_at, state_by}
use Rattle.protobuf_parse_check.specs.Trimmed.{same_place, told_place, told_places}

-- ---- imports that are told

-- the map has the places of the imports that the steps tell
abbrev pub HasCuts : List Step → Cuts → Type 0
HasCuts steps cuts = (p : Text) → values_under cuts.places p ≡ told_places steps p

-- and that of the step
abbrev pub AddsStep : Cuts → Cuts → Step → Type 0
AddsStep old new step =
    (p : Text) → values_under new.places p ≡ values_under old.places p ++ told_place p step

-- whether it is one of these places
abbrev pub is_placed : List Place → ImportSyntax → Bool
is_placed places i = list_any (same_place i.place) places

-- whether a statement is none of the imports at these places
abbrev pub is_kept : List Place → StatementSyntax → Bool
is_kept places (file_import i) = not (is_placed places i)
is_kept places _ = true

-- whether a public import is at one of them
abbrev pub is_placed_public : List Place → ImportSyntax → Bool
is_placed_public places i = is_public i.vis && is_placed places i

-- a statement was added, unless it is an import at one of these places
pub record TrimsStatement (places : List Place) (old new : TrimmedTree) (s : StatementSyntax)
    : Type 0 where
  pub syntax : new.tree.syntax ≡ old.tree.syntax
  pub statements : (file_syntax new.tree).statements
      ≡ (file_syntax old.tree).statements ++ (if is_kept places s then s ∷ [] else [])
  pub loses : new.loses ≡ (old.loses || list_any (is_placed places) (imported s))
  pub loses_public : new.loses_public
      ≡ (old.loses_public || list_any (is_placed_public places) (imported s))

-- the tree without the imports at these places, and whether there are any
pub record IsTrimmed (places : List Place) (t : FileSyntax) (new : TrimmedTree) : Type 0 where
  pub tree : file_syntax new.tree
      ≡ record { syntax = t.syntax; statements = filter (is_kept places) t.statements }
  pub loses : new.loses ≡ list_any (is_placed places) (imports t.statements)
  pub loses_public : new.loses_public ≡ list_any (is_placed_public places) (imports t.statements)

-- ---- imports by their numbers

-- the number of the loaded file that an import names, if there is one
abbrev pub import_number : List LoadedEntry → ImportSyntax → List ℕ
import_number loaded i = option_to_list (number_in i.path loaded)

-- the same, where the import is public
abbrev pub public_number : List LoadedEntry → ImportSyntax → List ℕ
public_number loaded i = if is_public i.vis then import_number loaded i else []

-- those of the imports among statements
pub record FindsNumbers (loaded : List LoadedEntry) (ss : List StatementSyntax)
    (found : FoundImports) : Type 0 where
  pub all : found.all.items ≡ flat_map (import_number loaded) (imports ss)
  pub public : found.public.items ≡ flat_map (public_number loaded) (imports ss)

-- and that of a statement
pub record AddsNumbers (loaded : List LoadedEntry) (s : StatementSyntax) (old new : FoundImports)
    : Type 0 where
  pub all : new.all.items ≡ old.all.items ++ flat_map (import_number loaded) (imported s)
  pub public : new.public.items
      ≡ old.public.items ++ flat_map (public_number loaded) (imported s)

-- ---- names that are declared more than once

abbrev pub Bringers : Type 0
Bringers = BTreeMap (String Global) (Vec ℕ)

-- whether the files with these numbers declare the name more than once
abbrev pub twice_over : List FileSyntax → List ℕ → Bool → Text → Bool
twice_over files reach extension name =
    nat_lt 1 (occurrences name (flat_map (full_names extension) (picked files reach)))

-- whether one of the first numbers is among the others
abbrev pub any_of : List ℕ → List ℕ → Bool
any_of numbers reach = list_any (λ (n : ℕ). list_any (nat_eq n) reach) numbers

-- whether they do so, and none of them is noted for the name
abbrev pub is_new : List FileSyntax → List ℕ → Bool → Bringers → Text → Bool
is_new files reach extension bringers name =
    twice_over files reach extension name && not (any_of (values_under bringers name) reach)

-- These are such names, each once, and all those among the candidates; the file with the number
-- `own` is noted for them.
pub record BringsNames (files : List FileSyntax) (reach : List ℕ) (extension : Bool)
    (candidates : List Text) (own : ℕ) (old new : Bringers) (names : List Text) : Type 0 where
  pub once : AreDistinct names
  pub only : (name : Text) → among name names ≡ true
      → is_new files reach extension old name ≡ true
  pub all : (name : Text) → among name candidates ≡ true
      → is_new files reach extension old name ≡ true → among name names ≡ true
  pub keeps : (name : Text) → values_under new name
      ≡ values_under old name ++ (if among name names then own ∷ [] else [])

-- the names that are listed for the files with these numbers
abbrev pub listed_for : Declarations → List ℕ → List Text
listed_for table numbers = flat_map (listed_names table) numbers

-- what one of these files reaches, or nothing
abbrev pub IsBelow : List LoadedEntry → List ℕ → List ℕ → Type 0
IsBelow loaded reach numbers = (numbers ≡ [])
    ⊎ ((n : ℕ) × (e : LoadedEntry) × (list_any (nat_eq n) reach ≡ true)
    × (slice_get loaded n ≡ Some e) × (numbers ≡ e.1.reach.items))

-- all of the numbers that one of these files doesn't reach, where its own are in order
pub record IsBeside (loaded : List LoadedEntry) (reach files : List ℕ) : Type 0 where
  pub below : List ℕ
  pub is_below : IsBelow loaded reach below
  pub all : IsStrictlyIncreasing below → (n : ℕ) → list_any (nat_eq n) reach ≡ true
      → list_any (nat_eq n) below ≡ false → list_any (nat_eq n) files ≡ true

-- the names that the next file brings together
pub record BringsNew (loaded : List LoadedEntry) (files : List FileSyntax) (table : Declarations)
    (reach : List ℕ) (extension : Bool) (old new : Bringers) (names : List Text) : Type 0 where
  pub listed : List ℕ
  pub beside : IsBeside loaded reach listed
  pub brings : BringsNames files reach extension (listed_for table listed) (length loaded) old new
      names

-- E5 or E6 of a name, by the numbers of files
abbrev pub repeat_over : List LoadedEntry → List FileSyntax → List ℕ → FileSyntax → Bool → Text
    → Fault
repeat_over loaded files reach t extension name = record {
  place = repeat_place_over loaded files reach t extension name;
  wrong = record { kind = kind_of extension; what = name };
}

abbrev pub repeats_over : List LoadedEntry → List FileSyntax → List ℕ → FileSyntax → Bool
    → List Text → List Fault
repeats_over loaded files reach t extension names =
    map (repeat_over loaded files reach t extension) names

-- these are told of the next file, and noted
pub record FindsRepeats (loaded : List LoadedEntry) (files : List FileSyntax)
    (table : Declarations) (reach : List ℕ) (t : FileSyntax) (old new : Brought)
    (told : List Fault) : Type 0 where
  pub types : List Text
  pub extensions : List Text
  pub types_are : BringsNew loaded files table reach false old.types new.types types
  pub extensions_are : BringsNew loaded files table reach true old.extensions new.extensions
      extensions
  pub told_are : told ≡ repeats_over loaded files reach t false types
      ++ repeats_over loaded files reach t true extensions

-- ---- what a file becomes

-- whether its custom options are looked at
abbrev pub looks_over : List FileSyntax → List ℕ → FileSyntax → Bool → Bool
looks_over files sight t looks_up = looks_up && is_nothing (own_over files sight t)

-- what it becomes, by the numbers of the files that it reaches and sees
pub record IsJudged (loaded : List LoadedEntry) (files : List FileSyntax) (reach sight : List ℕ)
    (looks_up : Bool) (path : Text) (t : FileSyntax) (d : Judged) : Type 0 where
  pub faulty : d.faulty ≡ not (is_nothing (own_over files sight t))
  pub told : found d.faults
      ≡ (if looks_over files sight t looks_up
      then file_faults (environment (picked files sight)
      (customs_over (descriptors_over loaded files sight path t) reach sight) t) t
      else own_over files sight t)
  pub descriptor : described.file_view d.descriptor
      ≡ (if looks_over files sight t looks_up
      then file_over files (descriptors_over loaded files sight path t) reach sight path t
      else plain_over files sight path t)
  pub alike : bare_file (described.file_view d.descriptor)
      ≡ bare_file (plain_over files sight path t)

-- what it becomes with its custom options, where this is its descriptor without them
pub record LooksUp (loaded : List LoadedEntry) (files : List FileSyntax) (reach sight : List ℕ)
    (plain : FileDescriptor) (path : Text) (t : FileSyntax) (d : Judged) : Type 0 where
  pub faulty : d.faulty ≡ false
  pub told : found d.faults
      ≡ file_faults (environment (picked files sight)
      (customs_over (descriptors_with loaded plain) reach sight) t) t
  pub descriptor : described.file_view d.descriptor
      ≡ file_over files (descriptors_with loaded plain) reach sight path t

-- ---- what is told of it

-- whether a fault is hidden, where names may be missing, and these are told
abbrev pub is_hidden_by : Bool → List Fault → Fault → Bool
is_hidden_by misses repeats f = (misses && is_of_unfound f.wrong.kind)
    || (is_of_duplicate f.wrong.kind && stands_at f repeats)

abbrev pub shown_by : Bool → List Fault → List Fault → List Fault
shown_by misses repeats faults =
    filter (λ (f : Fault). not (is_hidden_by misses repeats f)) faults

abbrev pub has_trouble : Option Verdict → Bool
has_trouble None = false
has_trouble (Some v) = v.troubled

-- whether a file is faulty
abbrev pub is_faulty_state : FileState → Bool
is_faulty_state Faulty = true
is_faulty_state _ = false

abbrev pub has_fault : Option Verdict → Bool
has_fault None = false
has_fault (Some v) = is_faulty_state v.state

abbrev pub has_lost : Option Verdict → Bool
has_lost None = false
has_lost (Some v) = v.loses_public

-- whether it is so of one of the files with these numbers
abbrev pub any_with : (Option Verdict → Bool) → List Verdict → List ℕ → Bool
any_with test verdicts numbers =
    list_any (λ (n : ℕ). test (slice_get verdicts n)) numbers

-- whether an import of the file is told, or a name
abbrev pub is_wrong : Losses → List Fault → Bool
is_wrong losses repeats = losses.any || not (is_nothing repeats)

-- what is told of the next file, by the numbers of the files that it reaches and sees
pub record GivesVerdict (loaded : List LoadedEntry) (files : List FileSyntax)
    (table : Declarations) (sights : Sights) (losses : Losses) (path : Text) (t : FileSyntax)
    (verdicts : List Verdict) (old new : Brought) (descriptor : FileDescriptorProto) (v : Verdict)
    : Type 0 where
  pub repeats : FindsRepeats loaded files table sights.reach.items t old new (found v.repeats)
  pub judged : Judged
  pub is_judged : IsJudged loaded files sights.reach.items sights.sight.items
      (not (is_wrong losses (found v.repeats))
      && not (any_with has_trouble verdicts sights.reach.items)) path t judged
  pub descriptor_is : descriptor ≡ judged.descriptor
  pub faults : found v.faults
      ≡ shown_by (losses.any || any_with has_lost verdicts sights.sight.items) (found v.repeats)
      (found judged.faults)
  pub troubled : v.troubled ≡ (is_wrong losses (found v.repeats) || judged.faulty)
  pub state : v.state
      ≡ state_by (is_wrong losses (found v.repeats) || not (is_nothing (found v.faults)))
      (any_with has_fault verdicts sights.reach.items)
  pub loses_public : v.loses_public ≡ losses.public
  pub tree : file_syntax v.tree ≡ t

-- ---- inputs at paths of their own

-- an input that a step held against what was loaded: it lies at a path of its own, what it has was
-- read so, and the file of its proto path is loaded
pub record HoldsInput (inputs : List Input) (log : List ReadEntry) (loaded : List LoadedEntry)
    (n : ℕ) (p : Text) (read : ℕ) : Type 0 where
  pub own : Text
  pub input : slice_get inputs n ≡ Some (at p own)
  pub entry : ReadEntry
  pub found : slice_get log read ≡ Some entry
  pub readers : IsReaders entry.outcome
  pub file : LoadedFile
  pub is_loaded : file_at p loaded ≡ Some file
  pub was_read : IsFirstRead log p file.read

-- so does each step that holds one
abbrev pub HoldsStep : List Input → List ReadEntry → List LoadedEntry → Step → Type 0
HoldsStep inputs log loaded (held n p read) = HoldsInput inputs log loaded n p read
HoldsStep inputs log loaded _ = Unit {0}

abbrev pub HoldSteps : List Input → List ReadEntry → List LoadedEntry → List Step → Type 0
HoldSteps inputs log loaded [] = Unit {0}
HoldSteps inputs log loaded (s ∷ steps) =
    HoldsStep inputs log loaded s × HoldSteps inputs log loaded steps

-- what is told of an input: the fault stands where other bytes were loaded, and none is told else
abbrev pub IsClashOf : Files → List Input → ℕ → Text → ℕ → Option RunFault → Type 0
IsClashOf files inputs n p read None = is_same_file files p read ≡ true
IsClashOf files inputs n p read (Some f) = (is_same_file files p read ≡ false)
    × ((own : Text) × (slice_get inputs n ≡ Some (at p own))
    × StandsInCheck own p (answer_at files read) f)

-- with these bundled files and reads
pub record HasReads (files : Files) (bundled : List (Text × Text)) (log : List ReadEntry)
    : Type 0 where
  pub bundled_are : files.bundled ≡ bundled
  pub reads_are : files.reads ≡ log

-- the fault of an answer, if there is one
abbrev pub IsFaultOf : Result (Unit {0}) RunFault → Option RunFault → Type 0
IsFaultOf (Ok u) o = o ≡ None
IsFaultOf (Err f) o = (o ≡ Some f) × (f ≡ fault.Memory → ⊥)
