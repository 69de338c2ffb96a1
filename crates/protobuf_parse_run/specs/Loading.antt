-- No public clause rests on this file.
-- What holds while files are loaded, for every list of reads that the log begins and any events
-- kept so far.
use Rattle.std.specs.Prelude.{◌≡◌, ◌⊎◌, ◌≤◌, ℕ, Bool, true, false, nat_lt, List, [], ◌∷◌, ◌++◌}
use Rattle.std.specs.Prelude.{length, map, flat_map, Option, Some, None}
use Rattle.std.specs.Prelude.{option_to_list, Result, Ok, Err, bytes_eq, String, string_bytes}
use Rattle.std.specs.Prelude.{slice_get, find, filter, nat_eq}
use Rattle.std.specs.Global.{Global}
use Rattle.std.specs.List.{AllByRecursion, Contains, list_any}
use Rattle.std.specs.List.Sorted.{IsStrictlyIncreasing}
use Rattle.std.specs.Map.{lookup}
use Rattle.protobuf_parse_base.specs.PathViews.{path_buf_text}
use Rattle.protobuf_parse_lexer.specs.declared.lexer.token.Place.{Place}
use Rattle.protobuf_parse_syntax.specs.Trees.{FileSyntax, file_syntax}
use Rattle.protobuf_parse_syntax.specs.declared.tree.FileTree.{FileTree}
use Rattle.protobuf_parse_model.specs.Descriptors as described
use Rattle.protobuf_parse_model.specs.Descriptors.{Text, FileDescriptor}
use Rattle.protobuf_parse_model.specs.Environment.{Customs, no_customs}
use Rattle.protobuf_parse_model.specs.Tables.{TableTells, picked}
use Rattle.protobuf_parse_model.specs.declared.descriptor.FileDescriptorProto.{FileDescriptorProto}
use Rattle.protobuf_parse_model.specs.Faults as elaborating
use Rattle.protobuf_parse_model.specs.Faults.{fault_view}
use Rattle.protobuf_parse_model.specs.Linking.{before_others, declares_name, link_faults}
use Rattle.protobuf_parse_model.specs.declared.error.ElabFailure.{ElabFailure}
use Rattle.protobuf_parse_model.specs.declared.error.ElabFailure.TheVariants as failure
use Rattle.protobuf_parse_elaboration.specs.FileDescriptor.{environment, file_faults, file_of}
use Rattle.protobuf_parse_elaboration.specs.FilesByPath.{AreDistinct}
use Rattle.protobuf_parse_options.specs.CustomFaults.{elaboration_faults}
use Rattle.protobuf_parse_options.specs.Holding.{Holds}
use Rattle.protobuf_parse_options.specs.OptionBytes.{customs_by_files}
use Rattle.protobuf_parse_options.specs.WithoutOptions.{bare_file}
use Rattle.protobuf_parse_run.specs.declared.fault.RunFault.{RunFault}
use Rattle.protobuf_parse_run.specs.declared.fault.RunFault.TheVariants as fault
use Rattle.protobuf_parse_run.specs.declared.loader.LoadedFile.{LoadedFile}
use Rattle.protobuf_parse_run.specs.declared.loader.LoadedAs.{LoadedAs}
use Rattle.protobuf_parse_run.specs.declared.reach.Held.{Held}
use Rattle.protobuf_parse_run.specs.declared.tables.RunSpots.{RunSpots}
use Rattle.protobuf_parse_run.specs.declared.tables.Tables.{Tables}
use Rattle.protobuf_parse_run.specs.declared.reach.Held.TheVariants as held_as
use Rattle.protobuf_parse_run.specs.declared.log.ReadEntry.{ReadEntry}
use Rattle.protobuf_parse_run.specs.declared.log.ReadOutcome.{ReadOutcome}
use Rattle.protobuf_parse_run.specs.Walks.{Asked, the_resolver, the_reader, Event, long, load, elab}
use Rattle.protobuf_parse_run.specs.Walks.{has, among, Trees, Reaches, HandsOn, walks_joined, walk}
use Rattle.protobuf_parse_run.specs.Walks.{reads_in, elab_paths}
use Rattle.std.specs.Borrow.{Bor}
use Rattle.std.specs.Str.{IsUtf8}
use Rattle.protobuf_parse_run.specs.declared.fault.ResolveFault.{ResolveFault}
use Rattle.protobuf_parse_run.specs.declared.fault.ReadInputFault.{ReadInputFault}
use Rattle.protobuf_parse_run.specs.declared.log.ReadOutcome.TheVariants as outcome
use Rattle.protobuf_parse_run.specs.declared.source.Sources.{Sources}
use Rattle.protobuf_parse_run.specs.Run.{Files, MayAnswer, MayRead, MayResolve, FilesAreListed}
use Rattle.protobuf_parse_run.specs.Run.{HasTrees, OrMemory, IsTheTree, text_read, environment_of}
use Rattle.protobuf_parse_run.specs.Run.{first_read, fault_said, text_given, origin_given}
use Rattle.protobuf_parse_run.specs.PlainRuns.{plain_of}
use Rattle.protobuf_parse_run.specs.Run.{AreAnswered, Legal, StandsAtEvent, StandsInLoad}
use Rattle.protobuf_parse_run.specs.Run.{StandsInElab, IsToldAt, IsToldOf, IsUnparsed, fails}
use Rattle.protobuf_parse_run.specs.Run.{faults_at}
use Rattle.protobuf_parse_run.specs.Repeats.{repeat_place, told_at}

-- the answers that may be given by those whom a run asks: its resolver, which may answer so, and
-- its reader, which may so
abbrev pub legal_by : {R I : Type 0} → (R → MayResolve) → (I → MayRead) → Sources R I → Legal
legal_by may_answer may_read sources =
    MayAnswer (may_answer sources.resolver.now) (may_read sources.reader.now)

-- the events of a walk, by its input, who is asked, the room and the chain
abbrev pub WalkShape : Type 0
WalkShape = Text → Asked → ℕ → List Text → List Event

abbrev pub LoadedEntry : Type 0
LoadedEntry = String Global × LoadedFile

abbrev pub paths_of : List LoadedEntry → List Text
paths_of loaded = map (λ (e : LoadedEntry). string_bytes e.0) loaded

-- the loaded file of a path
abbrev pub file_at : Text → List LoadedEntry → Option LoadedFile
file_at path loaded = lookup (λ (k : String Global). bytes_eq path (string_bytes k)) loaded

abbrev pub read_paths : List ReadEntry → List Text
read_paths log = map (λ (e : ReadEntry). path_buf_text e.path) log

-- ---- descriptors by numbers

abbrev pub descriptor_in : LoadedEntry → FileDescriptor
descriptor_in e = described.file_view e.1.descriptor

-- those of the loaded files, and behind them that of the next
abbrev pub descriptors_with : List LoadedEntry → FileDescriptor → List FileDescriptor
descriptors_with loaded d = map descriptor_in loaded ++ d ∷ []

-- The index has just the files, as many as it counts.
pub record IsWhole (spots : RunSpots) (descriptors : List FileDescriptor) : Type 0 where
  pub holds : Holds spots.declared descriptors
  pub count : length descriptors ≡ spots.files

-- The index has the first of the files.
pub record IndexBegins (spots : RunSpots) (descriptors : List FileDescriptor) : Type 0 where
  pub front : List FileDescriptor
  pub rest : List FileDescriptor
  pub split : descriptors ≡ front ++ rest
  pub whole : IsWhole spots front

-- ---- the numbers of loaded files

-- the tree that a loaded file had
abbrev pub tree_in : LoadedFile → FileSyntax
tree_in file = file_syntax file.tree.value

-- the paths and the trees of the loaded files, in their order
abbrev pub Named : Type 0
Named = Text × FileSyntax

abbrev pub named_trees : List LoadedEntry → List Named
named_trees loaded = map (λ (e : LoadedEntry). (string_bytes e.0, tree_in e.1)) loaded

abbrev pub trees_of : List Named → List FileSyntax
trees_of files = map (λ (f : Named). f.1) files

abbrev pub paths_in : List Named → List Text
paths_in files = map (λ (f : Named). f.0) files

-- the file with this number has this path
abbrev pub IsNumbered : List Named → ℕ → Text → Type 0
IsNumbered files n path = (t : FileSyntax) × (slice_get files n ≡ Some (path, t))

-- so have those with these numbers
abbrev pub FilesAreNumbered : List Named → List ℕ → List Text → Type 0
FilesAreNumbered files [] [] = Unit {0}
FilesAreNumbered files (n ∷ ns) (path ∷ paths) = IsNumbered files n path
    × FilesAreNumbered files ns paths
FilesAreNumbered files _ _ = ⊥

-- these are the numbers of just the files that have the property
pub record AreNumbersOf (Has : Text → Type 0) (files : List Named) (numbers : List ℕ) : Type 0 where
  pub sound : (n : ℕ) → Contains numbers n → (q : Text) × IsNumbered files n q × Has q
  pub complete : (q : Text) → Has q → (n : ℕ) × Contains numbers n × IsNumbered files n q

-- each of the files has its tree
abbrev pub Agrees : Trees → List Named → Type 0
Agrees trees files = (n : ℕ) (p : Text) (t : FileSyntax) → slice_get files n ≡ Some (p, t)
    → trees p ≡ Some t

-- which numbers of a loaded file: those of the files that it reaches, or those of the files that it
-- hands on
abbrev pub held : Held → LoadedFile → List ℕ
held held_as.Reach file = file.reach.items
held held_as.HandedOn file = file.handed_on.items

-- whatever the trees of other files are, each loaded file holds the numbers of just the files to
-- which it stands so
abbrev pub AllHold : (Trees → Text → Text → Type 0) → Held → List LoadedEntry → Type 0
AllHold R which loaded =
    (trees : Trees) → Agrees trees (named_trees loaded) → (n : ℕ) (e : LoadedEntry)
    → slice_get loaded n ≡ Some e
    → AreNumbersOf (R trees (string_bytes e.0)) (named_trees loaded) (held which e.1)

-- what is known of loaded files: the table has their names, each path stands once and was read, and
-- each file knows what it reaches and hands on
pub record AreKnown (loaded : List LoadedEntry) (tables : Tables)
    (log : List ReadEntry) : Type 0 where
  pub tells : TableTells tables.names (trees_of (named_trees loaded))
  pub begins : IndexBegins tables.spots (map descriptor_in loaded)
  pub once : AreDistinct (paths_in (named_trees loaded))
  pub reach : AllHold Reaches held_as.Reach loaded
  pub handed_on : AllHold HandsOn held_as.HandedOn loaded
  pub read : (p : Text) (file : LoadedFile) → file_at p loaded ≡ Some file
      → among p (read_paths log) ≡ true

-- the numbers that a loaded file reaches
abbrev pub reach_in : Option LoadedFile → List ℕ
reach_in None = []
reach_in (Some file) = file.reach.items

abbrev pub held_at : Held → Option LoadedEntry → List ℕ
held_at which None = []
held_at which (Some e) = held which e.1

-- the numbers that each of these files holds, one file after another, and then that of the next
-- file
abbrev pub held_by : Held → List LoadedEntry → List ℕ → List ℕ
held_by which loaded files = flat_map (λ n. held_at which (slice_get loaded n)) files
    ++ length loaded ∷ []

-- these numbers are ascending, and just those
pub record AreJoined (which : Held) (loaded : List LoadedEntry)
    (files numbers : List ℕ) : Type 0 where
  pub ascending : IsStrictlyIncreasing numbers
  pub all : (n : ℕ) → Contains (held_by which loaded files) n → Contains numbers n
  pub only : (n : ℕ) → Contains numbers n → Contains (held_by which loaded files) n

-- those with these numbers
abbrev pub picked_descriptors : List FileDescriptor → List ℕ → List FileDescriptor
picked_descriptors descriptors numbers =
    flat_map (λ (n : ℕ). option_to_list (slice_get descriptors n)) numbers

-- What a file becomes without its custom options, over the files with the numbers that it sees.
abbrev pub plain_over : List FileSyntax → List ℕ → Text → FileSyntax → FileDescriptor
plain_over files sight path t = file_of (environment (picked files sight) no_customs t) path t

-- the descriptors in which its custom options are looked up: its own is the one without them
abbrev pub descriptors_over : List LoadedEntry → List FileSyntax → List ℕ → Text → FileSyntax
    → List FileDescriptor
descriptors_over loaded files sight path t = descriptors_with loaded (plain_over files sight path t)

-- the loaded file of the path reaches the file with this number
abbrev pub reaches_number : List LoadedEntry → Text → ℕ → Bool
reaches_number loaded path n = list_any (λ (m : ℕ). nat_eq m n) (reach_in (file_at path loaded))

-- those of the numbers whose files declare the name
abbrev pub declaring_numbers : List FileSyntax → Bool → Text → List ℕ → List ℕ
declaring_numbers files extension name numbers =
    filter (λ (n : ℕ). declares_name extension name (slice_get files n)) numbers

abbrev pub repeat_place_over : List LoadedEntry → List FileSyntax → List ℕ → FileSyntax → Bool
    → Text → Place
repeat_place_over loaded files reach t extension name =
    repeat_place (reaches_number loaded) (declaring_numbers files extension name reach) t extension
    name

-- E5 and E6 of a file, over the files with the numbers that it reaches
abbrev pub repeats_over : List LoadedEntry → List FileSyntax → List ℕ → FileSyntax
    → List elaborating.Fault
repeats_over loaded files reach t =
    map (told_at (repeat_place_over loaded files reach t)) (link_faults (picked files reach))

-- the faults of a file, and what it becomes, over the files with the numbers that it reaches and
-- sees
abbrev pub faults_over : List LoadedEntry → List FileSyntax → List FileDescriptor → List ℕ
    → List ℕ → FileSyntax → List elaborating.Fault
faults_over loaded files descriptors reach sight t =
    elaboration_faults (repeats_over loaded files reach t) (picked files sight)
    (picked_descriptors descriptors reach) (picked_descriptors descriptors sight) t

abbrev pub customs_over : List FileDescriptor → List ℕ → List ℕ → Customs
customs_over descriptors reach sight =
    customs_by_files (picked_descriptors descriptors reach) (picked_descriptors descriptors sight)

-- those of a file by itself
abbrev pub own_over : List FileSyntax → List ℕ → FileSyntax → List elaborating.Fault
own_over files sight t = file_faults (environment (picked files sight) no_customs t) t

-- which of the faults of a file may be told
abbrev pub IsToldOver : List LoadedEntry → List FileSyntax → List FileDescriptor → List ℕ
    → List ℕ → FileSyntax → elaborating.Fault → Type 0
IsToldOver loaded files descriptors reach sight t f =
    IsToldOf (repeats_over loaded files reach t)
    (before_others (own_over files sight t)
    (file_faults (environment (picked files sight) (customs_over descriptors reach sight) t) t)) f

-- the failure tells one that may be told, unless memory ran out
abbrev pub TellsSuch : ElabFailure → (elaborating.Fault → Type 0) → Type 0
TellsSuch failure.Memory Told = Unit {0}
TellsSuch (failure.Fault e) Told = Told (fault_view e)

abbrev pub file_over : List FileSyntax → List FileDescriptor → List ℕ → List ℕ → Text → FileSyntax
    → FileDescriptor
file_over files descriptors reach sight path t =
    file_of (environment (picked files sight) (customs_over descriptors reach sight) t) path t

abbrev pub descriptor_seen : Bor FileDescriptorProto → FileDescriptor
descriptor_seen d = described.file_view d.now

-- What a file becomes by these numbers: but for options, what it becomes without its custom ones.
pub record IsElaborated (loaded : List LoadedEntry) (files : List FileSyntax)
    (reach sight : List ℕ) (path : Text) (t : FileSyntax) (d : FileDescriptorProto) : Type 0 where
  pub faultless : faults_over loaded files (descriptors_over loaded files sight path t)
      reach sight t ≡ []
  pub descriptor : described.file_view d
      ≡ file_over files (descriptors_over loaded files sight path t) reach sight path t
  pub alike : bare_file (described.file_view d) ≡ bare_file (plain_over files sight path t)

-- What a file becomes by these numbers, or the fault that is told.
abbrev pub ElaboratesTo : List LoadedEntry → List FileSyntax → (reach sight : List ℕ) → Text
    → FileSyntax → Result FileDescriptorProto ElabFailure → Type 0
ElaboratesTo loaded files reach sight path t (Ok d) =
    IsElaborated loaded files reach sight path t d
ElaboratesTo loaded files reach sight path t (Err e) =
    TellsSuch e
    (IsToldOver loaded files (descriptors_over loaded files sight path t) reach sight t)

-- these are more files than were loaded
abbrev pub MoreLoaded : List LoadedEntry → List LoadedEntry → Type 0
MoreLoaded old new = (more : List LoadedEntry) × (new ≡ old ++ more)

-- these are more of what was there
abbrev pub Grows : List ReadEntry → List ReadEntry → Type 0
Grows old new = (more : List ReadEntry) × (new ≡ old ++ more)

-- no file of the chain is elaborated
abbrev pub Apart : List Event → List Text → Type 0
Apart events chain = (p : Text) → among p chain ≡ true → has (elab p) events ≡ false

abbrev pub Within : List Event → List Event → Type 0
Within small large = (e : Event) → has e small ≡ true → has e large ≡ true

-- The events of this shape are all kept, wherever it is met, but for a chain that is too long,
-- which there is exactly where the room is below the height.
pub record Settled (kept : List Event) (height : ℕ) (events : WalkShape) : Type 0 where
  pub before : List Event
  pub within : Within before kept
  pub only : (i : Text) (a : Asked) (room : ℕ) (chain : List Text) → Apart before chain
      → (e : Event) → has e (events i a room chain) ≡ true → (has e kept ≡ true) ⊎ (e ≡ long i)
  pub tall : (i : Text) (a : Asked) (room : ℕ) (chain : List Text) → Apart before chain
      → has (long i) (events i a room chain) ≡ nat_lt room height

-- the walks of a path
abbrev pub path_shape : Trees → Text → WalkShape
path_shape trees path = λ i a room chain. walk trees i a room chain path

-- the walks of these paths, one after another
abbrev pub imports_shape : Trees → List Text → WalkShape
imports_shape trees paths =
    λ i a room chain. walks_joined (walk trees i the_resolver room chain) paths

-- a loaded file had the tree of its path, and is what that becomes; but for options this is what
-- that becomes without custom ones
pub record IsLoaded (files : Files) (log : List ReadEntry) (path : Text)
    (file : LoadedFile) : Type 0 where
  pub low : file.height ≤ 100
  pub is : files.trees path ≡ Some (tree_in file)
  pub descriptor : described.file_view file.descriptor
      ≡ file_of (environment_of files path (tree_in file)) path (tree_in file)
  pub alike : bare_file (described.file_view file.descriptor)
      ≡ bare_file (plain_of files path (tree_in file))
  pub entry : ReadEntry
  pub read : slice_get log file.read ≡ Some entry
  pub named : path_buf_text entry.path ≡ path
  pub first : first_read path files.reads ≡ Some entry.outcome

pub record Good (legal : Legal) (files : Files) (kept : List Event)
    (loaded : List LoadedEntry)
    (log : List ReadEntry) (chain : List Text) : Type 0 where
  pub answers : AreAnswered legal (reads_in kept) log
  pub elabs : elab_paths kept ≡ paths_of loaded
  pub clean : find (fails files) kept ≡ None
  pub settled : (p : Text) (e : LoadedFile) → file_at p loaded ≡ Some e
      → Settled kept e.height (path_shape files.trees p)
  pub made : AllByRecursion (λ (e : LoadedEntry). IsLoaded files log (string_bytes e.0) e.1)
      loaded
  pub known : (p : Text) → has (load the_resolver p) kept ≡ true
      → (among p chain ≡ true) ⊎ (has (elab p) kept ≡ true)
  pub read : (p : Text) → among p (read_paths log) ≡ true → has (load the_resolver p) kept ≡ true
  pub apart : Apart kept chain

-- the event is the first of these that fails, the log has the reads up to it, and the fault stands
-- at it
pub record Halts (legal : Legal) (files : Files) (events : List Event)
    (log : List ReadEntry)
    (f : RunFault) : Type 0 where
  pub before : List Event
  pub event : Event
  pub after : List Event
  pub split : events ≡ before ++ event ∷ after
  pub clean : find (fails files) before ≡ None
  pub failing : fails files event ≡ true
  pub answers : AreAnswered legal (reads_in (before ++ event ∷ [])) log
  pub stands : StandsAtEvent files event f

-- memory ran out, and the log has the reads of a beginning in which nothing fails
pub record Breaks (legal : Legal) (files : Files) (events : List Event)
    (log : List ReadEntry)
    (f : RunFault) : Type 0 where
  pub memory : f ≡ fault.Memory
  pub before : List Event
  pub after : List Event
  pub split : events ≡ before ++ after
  pub clean : find (fails files) before ≡ None
  pub answers : AreAnswered legal (reads_in before) log

abbrev pub Stops : Legal → Files → List Event → List ReadEntry → RunFault → Type 0
Stops legal files events log f = Halts legal files events log f
    ⊎ Breaks legal files events log f

-- whom a read asks
abbrev pub asked_by : Option (Bor (List ℕ)) → Asked
asked_by None = the_resolver
asked_by (Some own) = the_reader own.now

-- a resolver gives no reader's fault
abbrev pub CanGive : Asked → ReadOutcome → Type 0
CanGive the_resolver (outcome.ReaderFault why) = ⊥
CanGive _ _ = Unit {0}

-- a reader gives a content or a fault of its own
abbrev pub IsReaders : ReadOutcome → Type 0
IsReaders (outcome.Content origin content) = Unit {0}
IsReaders (outcome.ReaderFault why) = Unit {0}
IsReaders _ = ⊥

abbrev pub IsShadowed : Text → Text → RunFault → Type 0
IsShadowed own p (fault.Shadowed input path) = (string_bytes input ≡ own) × (string_bytes path ≡ p)
IsShadowed own p _ = ⊥

abbrev pub IsNoText : Text → RunFault → Type 0
IsNoText p (fault.ContentIsNotUtf8 path) = string_bytes path ≡ p
IsNoText p _ = ⊥

abbrev pub IsUnfound : Text → RunFault → Type 0
IsUnfound p (fault.FileNotFoundInImportPath path resolver) = string_bytes path ≡ p
IsUnfound p _ = ⊥

abbrev pub IsUnreadable : Text → ReadInputFault → RunFault → Type 0
IsUnreadable own given (fault.CouldNotReadFile path why) = (string_bytes path ≡ own) × (why ≡ given)
IsUnreadable own given _ = ⊥

abbrev pub IsUnresolved : Text → ResolveFault → RunFault → Type 0
IsUnresolved p given (fault.Resolver path why) = (string_bytes path ≡ p)
    × (fault_said why ≡ fault_said given)
IsUnresolved p given _ = ⊥

abbrev pub IsParseFault : Text → Text → RunFault → Type 0
IsParseFault origin text (fault.Parse file error) = (string_bytes file ≡ origin)
    × IsUnparsed text error
IsParseFault origin text _ = ⊥

-- L10 of a file, with this fault
abbrev pub IsElabFault : Text → elaborating.Fault → RunFault → Type 0
IsElabFault origin stands (fault.Elaborate file error) = (string_bytes file ≡ origin)
    × (fault_view error ≡ stands)
IsElabFault origin stands _ = ⊥

-- L1 or L9 of a content
abbrev pub IsContentFault : Text → Text → Text → RunFault → Type 0
IsContentFault p origin text (fault.ContentIsNotUtf8 path) = (string_bytes path ≡ p) × ¬ IsUtf8 text
IsContentFault p origin text (fault.Parse file error) = (string_bytes file ≡ origin)
    × IsUtf8 text × IsUnparsed text error
IsContentFault p origin text _ = ⊥

-- what a call leaves, where the events are those kept with its own
abbrev pub Leaves : Legal → Files → List Event → WalkShape → List LoadedEntry
    → List ReadEntry
    → List Text
    → Result LoadedAs RunFault → Type 0
Leaves legal files events shape loaded log chain (Ok placed) =
    Good legal files events loaded log chain × Settled events placed.height shape
Leaves legal files events shape loaded log chain (Err f) =
    Stops legal files events log f

abbrev pub Goes : Legal → Files → List Event → List LoadedEntry → List ReadEntry
    → Result (Unit {0}) RunFault → Type 0
Goes legal files events loaded log (Ok _) = Good legal files events loaded log []
Goes legal files events loaded log (Err f) = Stops legal files events log f

-- A file was added for this path: it had this tree, in which no fault stands, and is what that
-- becomes.
pub record IsAdded (files : Files) (path : Text) (tree : FileSyntax)
    (height read : ℕ) (old new : List LoadedEntry) (placed : LoadedAs) : Type 0 where
  pub key : String Global
  pub file : LoadedFile
  pub entries : new ≡ old ++ (key, file) ∷ []
  pub named : string_bytes key ≡ path
  pub tree_is : tree_in file ≡ tree
  pub height_is : file.height ≡ height
  pub read_is : file.read ≡ read
  pub faultless : faults_at files path (Some tree) ≡ []
  pub descriptor : described.file_view file.descriptor
      ≡ file_of (environment_of files path tree) path tree
  pub alike : bare_file (described.file_view file.descriptor)
      ≡ bare_file (plain_of files path tree)
  pub placed_is : placed.height ≡ height

-- the texts of a chain
abbrev pub chain_texts : List (String Global) → List Text
chain_texts chain = map string_bytes chain

-- A read of a file that isn't loaded, between these two logs, that gave its tree or a fault.
abbrev pub ReadsTree : Legal → List (Text × Text) → Asked → Text → List ReadEntry → List ReadEntry
    → Result FileTree RunFault → Type 0
ReadsTree legal table asked p old new (Ok tree) =
    (e : ReadEntry) × (new ≡ old ++ e ∷ []) × (path_buf_text e.path ≡ p) × legal asked p e.outcome
    × IsTheTree (text_given table p (Some e.outcome)) (Some (file_syntax tree))
ReadsTree legal table asked p old new (Err f) =
    ((e : ReadEntry) × (new ≡ old ++ e ∷ []) × (path_buf_text e.path ≡ p) × legal asked p e.outcome
    × IsTheTree (text_given table p (Some e.outcome)) None
    × StandsInLoad asked p (Some e.outcome) (text_given table p (Some e.outcome)) f)
    ⊎ ((f ≡ fault.Memory) × (new ≡ old))

-- of each path it is known which tree alone its text has, or that it has none
abbrev pub IsDecided : List (Text × Text) → List ReadEntry → Type 0
IsDecided table log = (path : Text) → (t : Option FileSyntax)
    × IsTheTree (text_read table log path) t

-- The files of a run with this log and these bundled files, or of one that goes on from it.
pub record GoesOn (files : Files) (table : List (Text × Text)) (log : List ReadEntry) : Type 0 where
  pub bundled : files.bundled ≡ table
  pub reads : Grows log files.reads
  pub trees : HasTrees files.bundled files.reads files.trees
  pub listed : FilesAreListed files.trees files.reached files.seen

-- the loaded file of a path, as a look-up told it
abbrev pub IsPlaced : Text → List LoadedEntry → Option LoadedAs → Type 0
IsPlaced path loaded None = file_at path loaded ≡ None
IsPlaced path loaded (Some placed) = (file : LoadedFile) × (file_at path loaded ≡ Some file)
    × (placed.height ≡ file.height) × IsNumbered (named_trees loaded) placed.number path

-- what an elaboration leaves
abbrev pub ElaboratesFile : Files → Text → FileSyntax → ℕ → ℕ → List ReadEntry
    → List LoadedEntry → List LoadedEntry → Result LoadedAs RunFault → Type 0
ElaboratesFile files path tree height read log old new (Ok placed) = file_at path old ≡ None
    → IsAdded files path tree height read old new placed
ElaboratesFile files path tree height read log old new (Err f) = (e : ReadEntry)
    → slice_get log read ≡ Some e → path_buf_text e.path ≡ path
    → OrMemory f
    (StandsInElab (origin_given path (Some e.outcome))
    (IsToldAt files path (Some tree)) f)

-- the trees of the loaded files, and behind them that of the next
abbrev pub with_next : List LoadedEntry → FileSyntax → List FileSyntax
with_next loaded tree = trees_of (named_trees loaded) ++ tree ∷ []

-- the descriptors of the loaded files, and behind them that of the next without custom options
abbrev pub descriptors_next : List LoadedEntry → List ℕ → Text → FileSyntax → List FileDescriptor
descriptors_next loaded sight path tree =
    descriptors_over loaded (with_next loaded tree) sight path tree

-- A file was added behind those that were loaded, whose imports have these numbers, and its public
-- ones those. By the numbers of the files that it reaches and sees, no fault stands in it, and it
-- has become its descriptor.
pub record IsAddedOver (path : Text) (tree : FileSyntax) (height read : ℕ)
    (imports public : List ℕ) (old new : List LoadedEntry) (tables : Tables)
    (placed : LoadedAs) : Type 0 where
  pub key : String Global
  pub file : LoadedFile
  pub sight : List ℕ
  pub entries : new ≡ old ++ (key, file) ∷ []
  pub named : string_bytes key ≡ path
  pub tree_is : tree_in file ≡ tree
  pub height_is : file.height ≡ height
  pub read_is : file.read ≡ read
  pub reaches : AreJoined held_as.Reach old imports file.reach.items
  pub sees : AreJoined held_as.HandedOn old imports sight
  pub hands_on : AreJoined held_as.HandedOn old public file.handed_on.items
  pub faultless : faults_over old (with_next old tree)
      (descriptors_next old sight path tree) file.reach.items sight tree ≡ []
  pub descriptor : described.file_view file.descriptor
      ≡ file_over (with_next old tree)
      (descriptors_next old sight path tree) file.reach.items sight path tree
  pub alike : bare_file (described.file_view file.descriptor)
      ≡ bare_file (plain_over (with_next old tree) sight path tree)
  pub tells : TableTells tables.names (with_next old tree)
  pub begins : IndexBegins tables.spots (map descriptor_in new)
  pub height_placed : placed.height ≡ height
  pub number_placed : placed.number ≡ length old

-- By the numbers of the files that a file reaches and sees, this fault stands in it, or memory ran
-- out.
abbrev pub IsRefusedOver : Text → Text → FileSyntax → List ℕ → List LoadedEntry → RunFault
    → Type 0
IsRefusedOver origin path tree imports old f =
    OrMemory f ((reach : List ℕ) × (sight : List ℕ) × AreJoined held_as.Reach old imports reach
    × AreJoined held_as.HandedOn old imports sight
    × StandsInElab origin
    (IsToldOver old (with_next old tree)
    (descriptors_next old sight path tree) reach sight tree) f)

abbrev pub ElaboratesOver : Text → FileSyntax → ℕ → ℕ → List ℕ → List ℕ → List ReadEntry
    → List LoadedEntry
    → List LoadedEntry → Tables → Result LoadedAs RunFault → Type 0
ElaboratesOver path tree height read imports public log old new tables (Ok placed) =
    file_at path old ≡ None
    → IsAddedOver path tree height read imports public old new tables
    placed
ElaboratesOver path tree height read imports public log old new tables
    (Err f) = (e : ReadEntry)
    → slice_get log read ≡ Some e → path_buf_text e.path ≡ path
    → IsRefusedOver (origin_given path (Some e.outcome)) path tree imports old f

-- no file on the chain is loaded
abbrev pub AreUnloaded : List Text → List LoadedEntry → Type 0
AreUnloaded chain loaded = (p : Text) → among p chain ≡ true → file_at p loaded ≡ None

-- A file of this path is loaded with that number, among these files and no fewer than before.
pub record IsMetAt (path : Text) (old new : List LoadedEntry) (placed : LoadedAs) : Type 0 where
  pub number : IsNumbered (named_trees new) placed.number path
  pub more : MoreLoaded old new
