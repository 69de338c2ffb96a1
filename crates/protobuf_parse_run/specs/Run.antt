-- What a run read, which of its events fails, and which fault stands at an event.
use Rattle.std.specs.Prelude.{◌≡◌, ◌⊎◌, ◌≤◌, ◌+◌, ℕ, length, Bool, true, false, not, List, [], ◌∷◌}
use Rattle.std.specs.Prelude.{◌++◌, map, Option, Some, None, is_some, option_map, flat_map}
use Rattle.std.specs.Prelude.{slice_get, Result, Ok, Err, if◌then◌else◌, bytes_eq, string_bytes}
use Rattle.std.specs.Prelude.{find}
use Rattle.std.specs.Global.{Vec}
use Rattle.std.specs.Borrow.{Bor}
use Rattle.std.specs.Str.{IsUtf8}
use Rattle.protobuf_parse_base.specs.PathViews.{path_buf_text}
use Rattle.protobuf_parse_lexer.specs.Cut.{error_place}
use Rattle.protobuf_parse_lexer.specs.declared.error.ParserErrorWithLocation.{ParserErrorWithLocation}
use Rattle.protobuf_parse_syntax.specs.Parsing.{HasTree, IsFaultOf}
use Rattle.protobuf_parse_syntax.specs.Trees.{FileSyntax}
use Rattle.protobuf_parse_model.specs.Descriptors as described
use Rattle.protobuf_parse_model.specs.Descriptors.{Text, FileDescriptor}
use Rattle.protobuf_parse_model.specs.Environment.{Customs, Environment}
use Rattle.protobuf_parse_model.specs.Faults as elaborating
use Rattle.protobuf_parse_model.specs.Faults.{Among, IsFirst, fault_view}
use Rattle.protobuf_parse_model.specs.declared.descriptor.FileDescriptorProto.{FileDescriptorProto}
use Rattle.protobuf_parse_model.specs.Environment.{no_customs}
use Rattle.protobuf_parse_model.specs.Linking.{before_others}
use Rattle.protobuf_parse_elaboration.specs.FileDescriptor.{environment, file_faults, file_of}
use Rattle.protobuf_parse_elaboration.specs.FilesByPath.{AreDistinct, AreJust, trees_at}
use Rattle.protobuf_parse_options.specs.CustomFaults.{elaboration_faults}
use Rattle.protobuf_parse_options.specs.OptionBytes.{customs_by_files}
use Rattle.protobuf_parse_options.specs.Recovery.{plain_at}
use Rattle.protobuf_parse_run.specs.declared.bundled.TheConstants.{BUNDLED_FILES}
use Rattle.protobuf_parse_run.specs.declared.fault.RunFault.{RunFault}
use Rattle.protobuf_parse_run.specs.declared.fault.RunFault.TheVariants as fault
use Rattle.protobuf_parse_run.specs.declared.fault.ResolveFault.{ResolveFault}
use Rattle.protobuf_parse_run.specs.declared.fault.ResolveFault.TheVariants as refused
use Rattle.protobuf_parse_run.specs.declared.fault.ReadInputFault.{ReadInputFault}
use Rattle.protobuf_parse_run.specs.declared.fault.ReadInputFault.TheVariants as unread
use Rattle.protobuf_parse_run.specs.declared.source.ResolvedProtoFile.{ResolvedProtoFile}
use Rattle.protobuf_parse_run.specs.declared.log.RunInput.{RunInput}
use Rattle.protobuf_parse_run.specs.declared.log.RunInput.TheVariants as given
use Rattle.protobuf_parse_run.specs.declared.log.ReadEntry.{ReadEntry}
use Rattle.protobuf_parse_run.specs.declared.log.ReadOutcome.{ReadOutcome}
use Rattle.protobuf_parse_run.specs.declared.log.ReadOutcome.TheVariants as outcome
pub use Rattle.protobuf_parse_run.specs.Repeats.{is_nothing}
use Rattle.protobuf_parse_run.specs.Repeats.{repeat_faults}
use Rattle.protobuf_parse_run.specs.Walks.{Input, named, at, Asked, the_resolver, the_reader, Event}
use Rattle.protobuf_parse_run.specs.Walks.{cycle, long, load, check, elab, Trees, Reaches, Sees}
use Rattle.protobuf_parse_run.specs.Walks.{FileRead}
use Rattle.protobuf_parse_run.specs.Walks.{reads_in, elab_paths, events, import_statements, until}

-- what a run's input says
abbrev pub input_view : RunInput → Input
input_view (given.Named name) = named (path_buf_text name)
input_view (given.At name fs_path) = at (path_buf_text name) (string_bytes fs_path)

-- the rows of a table of bundled files
abbrev pub rows : List (Bor (List ℕ) × Bor (List ℕ)) → List (Text × Text)
rows table = map (λ (r : Bor (List ℕ) × Bor (List ℕ)). (r.0.now, r.1.now)) table

-- the files that this library brings, as src/bundled.rt has them: proto paths and texts
abbrev pub shipped : List (Text × Text)
shipped = map (λ r. (r.0.now, r.1.now)) BUNDLED_FILES.now

-- ---- what was read

-- the text of the first row with this path
abbrev pub row_of : Text → List (Text × Text) → Option Text
row_of path [] = None
row_of path (row ∷ table) = if bytes_eq path row.0 then Some row.1 else row_of path table

-- the answer to the first read of a path
abbrev pub first_read : Text → List ReadEntry → Option ReadOutcome
first_read path [] = None
first_read path (entry ∷ log) = if bytes_eq path (path_buf_text entry.path) then Some entry.outcome
    else first_read path log

-- the bytes that an answer gives for a path: a file's, or those of a bundled file where the
-- resolver has none
abbrev pub text_given : List (Text × Text) → Text → Option ReadOutcome → Option Text
text_given table path (Some (outcome.Content origin content)) = Some content.items
text_given table path (Some outcome.NotFound) = row_of path table
text_given table path _ = None

-- what faults call the file
abbrev pub origin_given : Text → Option ReadOutcome → Text
origin_given path (Some (outcome.Content origin content)) = string_bytes origin
origin_given path _ = path

-- the bytes of a path: what the first read of it gave
abbrev pub text_read : List (Text × Text) → List ReadEntry → Text → Option Text
text_read bundled log path = text_given bundled path (first_read path log)

-- What a run read, with the bundled files; the tree of each path, as far as it has one; the paths
-- that each file reaches, and those that it sees.
pub record Files : Type 0 where
  pub bundled : List (Text × Text)
  pub reads : List ReadEntry
  pub trees : Trees
  pub reached : Text → List Text
  pub seen : Text → List Text

-- these are just the files that each file reaches and sees, each once, in any order
pub record FilesAreListed (trees : Trees) (reached seen : Text → List Text) : Type 0 where
  pub reaches : (p : Text) → AreJust (Reaches trees p) (reached p)
  pub sees : (p : Text) → AreJust (Sees trees p) (seen p)

-- what the first read of a path gave
abbrev pub answer_for : Files → Text → Option ReadOutcome
answer_for files path = first_read path files.reads

-- the bytes of a path
abbrev pub text_for : Files → Text → Option Text
text_for files path = text_read files.bundled files.reads path

-- the answer to the read with this number
abbrev pub answer_at : Files → ℕ → Option ReadOutcome
answer_at files n = option_map (λ (e : ReadEntry). e.outcome) (slice_get files.reads n)

-- the text is UTF-8 and this is its tree, or it has none
abbrev pub IsTree : Option Text → Option FileSyntax → Type 0
IsTree (Some text) (Some t) = IsUtf8 text × HasTree text t
IsTree (Some text) None = IsUtf8 text → (t : FileSyntax) → HasTree text t → ⊥
IsTree None (Some t) = ⊥
IsTree None None = Unit {0}

-- and no other
abbrev pub IsTheTree : Option Text → Option FileSyntax → Type 0
IsTheTree text t = IsTree text t × ((u : Option FileSyntax) → IsTree text u → u ≡ t)

-- each path has the tree of its text; a path that was not read has none
abbrev pub HasTrees : List (Text × Text) → List ReadEntry → Trees → Type 0
HasTrees bundled log trees = (path : Text) → IsTree (text_read bundled log path) (trees path)

-- Each text that was read has one tree or none, so that there are such trees, and no others.
abbrev pub HaveTrees : List (Text × Text) → List ReadEntry → Type 0
HaveTrees bundled log = (trees : Trees)
    × ((path : Text) → IsTheTree (text_read bundled log path) (trees path))

-- There are lists of just the files that each file reaches and sees, since only files that were
-- read have trees.
abbrev pub HaveLists : List (Text × Text) → List ReadEntry → Type 0
HaveLists bundled log = (trees : Trees) → HasTrees bundled log trees
    → (reached : Text → List Text) × (seen : Text → List Text) × FilesAreListed trees reached seen

-- ---- which event fails

-- both are there, and are the same
abbrev pub are_same_bytes : Option Text → Option Text → Bool
are_same_bytes (Some a) (Some b) = bytes_eq a b
are_same_bytes _ _ = false

-- those of the files that have a tree: what names in custom options mean is looked up in these
abbrev pub plains_at : Files → List Text → List FileDescriptor
plains_at files ps = plain_at files.trees files.seen ps

-- what the custom options of a file become
abbrev pub customs_of : Files → Text → Customs
customs_of files p =
    customs_by_files (plains_at files (files.reached p)) (plains_at files (files.seen p))

-- from where the file of this path and tree is seen: names are looked up over the files that it
-- sees
abbrev pub environment_of : Files → Text → FileSyntax → Environment
environment_of files p t =
    environment (trees_at files.trees (files.seen p)) (customs_of files p) t

-- the faults that stand in a file: names that are declared twice in the files that it reaches, or
-- else its own, or else those of its custom options
abbrev pub faults_at : Files → Text → Option FileSyntax → List elaborating.Fault
faults_at files p (Some t) =
    elaboration_faults (repeat_faults files.trees files.reached p t)
    (trees_at files.trees (files.seen p))
    (plains_at files (files.reached p)) (plains_at files (files.seen p)) t
faults_at files p None = []

-- those of them that are neither for names that are declared twice nor for custom options
abbrev pub own_faults : Files → Text → Option FileSyntax → List elaborating.Fault
own_faults files p (Some t) =
    file_faults (environment (trees_at files.trees (files.seen p)) no_customs t) t
own_faults files p None = []

-- the bytes of the read with this number, which an input's own path was read by
abbrev pub content_at : Files → ℕ → Option Text
content_at files n = text_given [] [] (answer_at files n)

-- Of the faults of a file the one that is told: one of the names that are declared twice, if one
-- is, since the files that it reaches are listed in any order; else the first of the others.
abbrev pub IsToldOf : (repeats others : List elaborating.Fault) → elaborating.Fault → Type 0
IsToldOf [] others f = IsFirst others f
IsToldOf (r ∷ rs) others f = Among (r ∷ rs) f

-- the fault of a file that ends a run
abbrev pub IsToldAt : Files → Text → Option FileSyntax → elaborating.Fault → Type 0
IsToldAt files p None f = ⊥
IsToldAt files p (Some t) f =
    IsToldOf (repeat_faults files.trees files.reached p t)
    (before_others (own_faults files p (Some t)) (file_faults (environment_of files p t) t)) f

-- whether an event ends a run
abbrev pub fails : Files → Event → Bool
fails files (cycle p) = true
fails files (long i) = true
fails files (load a p) = not (is_some (files.trees p))
fails files (check n f p) = not (are_same_bytes (content_at files n) (text_for files p))
fails files (elab p) = not (is_nothing (faults_at files p (files.trees p)))

-- ---- which fault stands where an event fails

-- the text has no tree, and the parse error stands in it
pub record IsUnparsed (text : Text) (e : ParserErrorWithLocation) : Type 0 where
  pub treeless : (t : FileSyntax) → HasTree text t → ⊥
  pub stands : IsFaultOf text e.error (error_place e)

-- what a resolver's fault says
pub data ResolverSays : Type 0 where
  no_memory : ResolverSays
  unreadable : Text → ResolverSays
  refuses : Text → ResolverSays

-- what the Rust value says
abbrev pub fault_said : ResolveFault → ResolverSays
fault_said refused.Memory = no_memory
fault_said (refused.CouldNotRead path) = unreadable (string_bytes path)
fault_said (refused.Refused reason) = refuses (string_bytes reason)

-- the fault of a path that was asked so, whose answer and text are these
abbrev pub StandsInLoad : Asked → Text → Option ReadOutcome → Option Text → RunFault → Type 0
StandsInLoad asked p answer text (fault.ContentIsNotUtf8 path) =
    (string_bytes path ≡ p) × (bytes : Text) × (text ≡ Some bytes) × ¬ IsUtf8 bytes
StandsInLoad asked p answer text (fault.FileNotFoundInImportPath path resolver) =
    (string_bytes path ≡ p) × (answer ≡ Some outcome.NotFound) × (text ≡ None)
StandsInLoad asked p answer text (fault.CouldNotReadFile path why) =
    (asked ≡ the_reader (string_bytes path)) × (answer ≡ Some (outcome.ReaderFault why))
StandsInLoad asked p answer text (fault.Resolver path why) =
    (string_bytes path ≡ p) × (given : ResolveFault) × (answer ≡ Some (outcome.ResolverFault given))
    × (fault_said why ≡ fault_said given)
StandsInLoad asked p answer text (fault.Parse file error) =
    (string_bytes file ≡ origin_given p answer) × (bytes : Text) × (text ≡ Some bytes)
    × IsUtf8 bytes × IsUnparsed bytes error
StandsInLoad asked p answer text _ = ⊥

-- the fault of an input's own file, read as this answer, whose path was loaded with this text
abbrev pub StandsInCheck : Text → Text → Option ReadOutcome → RunFault → Type 0
StandsInCheck own p answer (fault.CouldNotReadFile path why) =
    (string_bytes path ≡ own) × (answer ≡ Some (outcome.ReaderFault why))
StandsInCheck own p answer (fault.Shadowed input path) =
    (string_bytes input ≡ own) × (string_bytes path ≡ p) × (bytes : Text)
    × (text_given [] [] answer ≡ Some bytes)
StandsInCheck own p answer _ = ⊥

-- the fault says of the file of this path that its own import chain meets it again
abbrev pub StandsInCycle : Text → RunFault → Type 0
StandsInCycle p (fault.ImportCycle path) = string_bytes path ≡ p
StandsInCycle p _ = ⊥

-- the fault says of this input that a chain of imports from it is too long
abbrev pub StandsInLong : Text → RunFault → Type 0
StandsInLong i (fault.ImportChainTooLong input) = string_bytes input ≡ i
StandsInLong i _ = ⊥

-- the fault is one that may be told so, and names the file as faults call it
abbrev pub StandsInElab : Text → (elaborating.Fault → Type 0) → RunFault → Type 0
StandsInElab origin Told (fault.Elaborate file error) = (string_bytes file ≡ origin)
    × Told (fault_view error)
StandsInElab origin Told _ = ⊥

-- the fault stands at the event that ends a run
abbrev pub StandsAtEvent : Files → Event → RunFault → Type 0
StandsAtEvent files (cycle p) = StandsInCycle p
StandsAtEvent files (long i) = StandsInLong i
StandsAtEvent files (load asked p) =
    StandsInLoad asked p (answer_for files p) (text_for files p)
StandsAtEvent files (check n own p) = StandsInCheck own p (answer_at files n)
StandsAtEvent files (elab p) =
    StandsInElab (origin_given p (answer_for files p))
    (IsToldAt files p (files.trees p))

-- ---- which answers are legal

-- what a resolver may answer for a proto path
abbrev pub MayResolve : Type 1
MayResolve = Text → Result (Option ResolvedProtoFile) ResolveFault → Type 0

-- what a reader may answer for a path of the host
abbrev pub MayRead : Type 1
MayRead = Text → Result (Vec ℕ) ReadInputFault → Type 0

-- the resolver may give the answer for the path; want of memory is none that is logged
abbrev pub Resolved : MayResolve → Text → ReadOutcome → Type 0
Resolved may p (outcome.Content origin content) =
    may p (Ok (Some (record { path = origin; content = content })))
Resolved may p outcome.NotFound = may p (Ok None)
Resolved may p (outcome.ResolverFault why) = (why ≡ refused.Memory → ⊥) × may p (Err why)
Resolved may p (outcome.ReaderFault why) = ⊥

-- the reader may give the answer for the path of the host; nor is its want of memory logged
abbrev pub WasRead : MayRead → Text → ReadOutcome → Type 0
WasRead may own (outcome.Content origin content) = (string_bytes origin ≡ own)
    × may own (Ok content)
WasRead may own (outcome.ReaderFault why) = (why ≡ unread.Memory → ⊥) × may own (Err why)
WasRead may own _ = ⊥

-- the answer is one that who is asked may give
abbrev pub MayAnswer : MayResolve → MayRead → Asked → Text → ReadOutcome → Type 0
MayAnswer resolve read the_resolver p answer = Resolved resolve p answer
MayAnswer resolve read (the_reader own) p answer = WasRead read own answer

-- which answers are legal: those that who is asked for a path may give
abbrev pub Legal : Type 1
Legal = Asked → Text → ReadOutcome → Type 0

-- the entries are these reads in order, each with a legal answer
abbrev pub AreAnswered : Legal → List FileRead → List ReadEntry → Type 0
AreAnswered legal [] [] = Unit {0}
AreAnswered legal (read ∷ reads) (entry ∷ log) =
    (path_buf_text entry.path ≡ read.path) × legal read.asked read.path entry.outcome
    × AreAnswered legal reads log
AreAnswered legal _ _ = ⊥

-- ---- what a run promises

-- the descriptors of these files, in this order, each of which has a tree without faults
abbrev pub AreDescriptors : Files → List Text → List FileDescriptorProto → Type 0
AreDescriptors files [] [] = Unit {0}
AreDescriptors files (p ∷ paths) (d ∷ ds) =
    ((t : FileSyntax) × (files.trees p ≡ Some t)
    × (described.file_view d ≡ file_of (environment_of files p t) p t))
    × AreDescriptors files paths ds
AreDescriptors files _ _ = ⊥

-- no event fails, and these are the descriptors of the files in order
pub record IsAccepted (legal : Legal) (files : Files) (events : List Event)
    (ds : List FileDescriptorProto) : Type 0 where
  pub none_fails : find (fails files) events ≡ None
  pub reads : AreAnswered legal (reads_in events) files.reads
  pub descriptors : AreDescriptors files (elab_paths events) ds

-- the fault stands at the first event that fails, and the reads are those up to and with it
pub record RunIsRefused (legal : Legal) (files : Files) (events : List Event) (f : RunFault)
    : Type 0 where
  pub event : Event
  pub first : find (fails files) events ≡ Some event
  pub reads : AreAnswered legal (reads_in (until (fails files) events)) files.reads
  pub stands : StandsAtEvent files event f

-- memory ran out: the reads are those of a beginning of the events up to and with the first that
-- fails
pub record IsBroken (legal : Legal) (files : Files) (events : List Event) (f : RunFault)
    : Type 0 where
  pub memory : f ≡ fault.Memory
  pub done : List Event
  pub rest : List Event
  pub beginning : until (fails files) events ≡ done ++ rest
  pub reads : AreAnswered legal (reads_in done) files.reads

-- how a run may end: with the descriptors, with the first fault, or for want of memory
abbrev pub RunEnds : Legal → Files → List Event → Result (Vec FileDescriptorProto) RunFault → Type 0
RunEnds legal files events (Ok ds) = IsAccepted legal files events ds.items
RunEnds legal files events (Err f) = RunIsRefused legal files events f
    ⊎ IsBroken legal files events f

-- the fault is this or want of memory
abbrev pub OrMemory : RunFault → Type 0 → Type 0
OrMemory f P = P ⊎ (f ≡ fault.Memory)

-- L5 comes only where the resolver may give such a fault for that path, and L4 only where the
-- reader may give that fault for that path. Neither is want of memory.
abbrev pub IsCaused : MayResolve → MayRead → RunFault → Type 0
IsCaused resolve read (fault.Resolver path why) =
    (given : ResolveFault) × Resolved resolve (string_bytes path) (outcome.ResolverFault given)
    × (fault_said why ≡ fault_said given)
IsCaused resolve read (fault.CouldNotReadFile path why) =
    WasRead read (string_bytes path) (outcome.ReaderFault why)
IsCaused resolve read _ = Unit {0}

-- files were met exactly so often where there is a result, and at most so often where there is none
abbrev pub IsCounted : {X E : Type 0} → ℕ → ℕ → Result X E → Type 0
IsCounted meets count (Ok _) = meets ≡ count
IsCounted meets count (Err _) = meets ≤ count

-- A file is met once for each input and each import statement of the loaded files, if the run is
-- accepted, and at most so often if it isn't.
abbrev pub IsMet : List Input → List (Text × Text) → List ReadEntry → ℕ
    → Result (Vec FileDescriptorProto) RunFault → Type 0
IsMet inputs bundled log meets result =
    (trees : Trees) → HasTrees bundled log trees
    → IsCounted meets (length inputs + import_statements trees (events trees inputs)) result

-- A run over these inputs and bundled files read this log and ended so, whichever trees the texts
-- have; each file is elaborated over the trees of just the files that it sees, in whatever order
-- these are listed.
abbrev pub RunsAsTold : Legal → List Input → List (Text × Text) → List ReadEntry
    → Result (Vec FileDescriptorProto) RunFault → Type 0
RunsAsTold legal inputs bundled log result =
    (trees : Trees) (reached seen : Text → List Text) → HasTrees bundled log trees
    → FilesAreListed trees reached seen
    → RunEnds legal
    (record { bundled = bundled; reads = log; trees = trees; reached = reached; seen = seen })
    (events trees inputs) result

-- ---- nothing is asked twice

-- the path, where the resolver is asked for it
abbrev pub if_resolver : Asked → Text → List Text
if_resolver the_resolver p = p ∷ []
if_resolver (the_reader own) p = []

-- the paths for which these reads ask the resolver, in order
abbrev pub resolved_in : List FileRead → List Text
resolved_in reads = flat_map (λ (r : FileRead). if_resolver r.asked r.path) reads

-- the input, where the reader is asked for it
abbrev pub if_reader : Asked → Text → List Input
if_reader the_resolver p = []
if_reader (the_reader own) p = at p own ∷ []

-- the inputs for which these reads ask the reader, in order
abbrev pub placed_reads : List FileRead → List Input
placed_reads reads = flat_map (λ (r : FileRead). if_reader r.asked r.path) reads

-- the input, where it has a path of its own
abbrev pub if_placed : Input → List Input
if_placed (named p) = []
if_placed (at p own) = at p own ∷ []

-- the inputs at paths of their own
abbrev pub placed : List Input → List Input
placed inputs = flat_map if_placed inputs

-- The log answers the first reads of the run, in order. The resolver is asked for distinct paths,
-- and the reader for the first inputs at paths of their own, each once.
pub record IsAskedOnce (legal : Legal) (trees : Trees) (inputs : List Input) (log : List ReadEntry)
    : Type 0 where
  pub reads : List FileRead
  pub later : List FileRead
  pub first : reads_in (events trees inputs) ≡ reads ++ later
  pub answers : AreAnswered legal reads log
  pub resolver : AreDistinct (resolved_in reads)
  pub unasked : List Input
  pub reader : placed inputs ≡ placed_reads reads ++ unasked

-- So it is whichever trees the texts have that were read.
abbrev pub AreAskedOnce : Legal → List Input → List (Text × Text) → List ReadEntry → Type 0
AreAskedOnce legal inputs bundled log = (trees : Trees) → HasTrees bundled log trees
    → IsAskedOnce legal trees inputs log
