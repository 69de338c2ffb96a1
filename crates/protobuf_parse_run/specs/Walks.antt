-- Walks of import trees: what happens to the files that a run's inputs reach, in which order.
-- A walk unfolds a whole import tree and remembers nothing; of equal events the first is kept.
use Rattle.std.specs.Prelude.{◌≡◌, true, ℕ, zero, suc, ◌+◌, Bool, false, nat_eq, List, [], ◌∷◌}
use Rattle.std.specs.Prelude.{◌++◌, map, flat_map, length, Option, Some, None, if◌then◌else◌}
use Rattle.std.specs.Prelude.{bytes_eq}
use Rattle.std.specs.List.{list_any}
use Rattle.protobuf_parse_syntax.specs.Trees.{FileSyntax, ImportSyntax, StatementSyntax}
use Rattle.protobuf_parse_model.specs.Descriptors.{Text}
pub use Rattle.protobuf_parse_elaboration.specs.FilesByPath.{Trees, among, Leads}
use Rattle.protobuf_parse_syntax.specs.Dependencies.{imported, imports, is_public}

-- an input: found by the resolver, or a file at a path of its own
pub data Input : Type 0 where
  named : Text → Input
  at : Text → Text → Input

-- who is asked for a file: the resolver, or the reader, at an input's own path
pub data Asked : Type 0 where
  the_resolver : Asked
  the_reader : Text → Asked

-- the proto path of an input
abbrev pub input_name : Input → Text
input_name (named p) = p
input_name (at p own) = p

-- an input that is named is asked of the resolver, one at a path of its own of the reader
abbrev pub asked_of : Input → Asked
asked_of (named p) = the_resolver
asked_of (at p own) = the_reader own

-- what happens: a file on its own import chain is met again; a chain from an input is too long; a
-- file is read and parsed; an input's own file, read after so many reads, is held against what was
-- loaded for its path; a file whose imports are done is elaborated
pub data Event : Type 0 where
  cycle : Text → Event
  long : Text → Event
  load : Asked → Text → Event
  check : ℕ → Text → Text → Event
  elab : Text → Event

-- equal events; a file is loaded once, whoever is asked for it
abbrev pub same_event : Event → Event → Bool
same_event (cycle p) (cycle q) = bytes_eq p q
same_event (long p) (long q) = bytes_eq p q
same_event (load a p) (load b q) = bytes_eq p q
same_event (check n f p) (check m g q) = nat_eq n m
same_event (elab p) (elab q) = bytes_eq p q
same_event _ _ = false

-- whether an event is among these
abbrev pub has : Event → List Event → Bool
has event events = list_any (λ x. same_event event x) events

-- each of these that is not there yet is added
abbrev pub keep : List Event → List Event → List Event
keep kept [] = kept
keep kept (event ∷ events) = keep (if has event kept then kept else kept ++ event ∷ []) events

-- the paths that a file imports, in order
abbrev pub import_paths : FileSyntax → List Text
import_paths t = map (λ (i : ImportSyntax). i.path) (imports t.statements)

-- a file reaches itself, and what the files reach that it imports
abbrev pub Reaches : Trees → Text → Text → Type 0
Reaches = Leads import_paths

-- the path of an import, where it is public
abbrev pub public_path : ImportSyntax → List Text
public_path i = if is_public i.vis then i.path ∷ [] else []

-- that of a statement, where it is a public import
abbrev pub public_paths_of : StatementSyntax → List Text
public_paths_of s = flat_map public_path (imported s)

-- the paths that it imports publicly
abbrev pub public_paths : FileSyntax → List Text
public_paths t = flat_map public_paths_of t.statements

-- a file hands on itself, and what the files hand on that it imports publicly
abbrev pub HandsOn : Trees → Text → Text → Type 0
HandsOn = Leads public_paths

-- A file sees itself, and what the files hand on that it imports: the names that these declare may
-- be written in it. Protocol Buffers Language Guide, "Importing Definitions"
-- (https://protobuf.dev).
pub data Sees (trees : Trees) : Text → Text → Type 0 where
  sees_itself : (p : Text) → Sees trees p p
  by_import : (p q r : Text) (t : FileSyntax) → trees p ≡ Some t → among q (import_paths t) ≡ true
      → HandsOn trees q r → Sees trees p r

-- A file reaches each file that it sees: so a name of a type that is looked up over the files that
-- it sees is declared in one that it reaches.
abbrev pub SeenAreReached : Type 0
SeenAreReached = (trees : Trees) (p q : Text) → Sees trees p q → Reaches trees p q

-- the walks of these paths, one behind the other
abbrev pub walks_joined : (Text → List Event) → List Text → List Event
walks_joined walk_of [] = []
walks_joined walk_of (path ∷ paths) = walk_of path ++ walks_joined walk_of paths

-- after a file with a tree is loaded: the walks of its imports in order, and then its elaboration
abbrev pub events_inside : Option FileSyntax → (Text → List Event) → Text → List Event
events_inside None walk_of path = []
events_inside (Some t) walk_of path = walks_joined walk_of (import_paths t) ++ elab path ∷ []

-- the walk of a path, met at the end of a chain of imports that has room for this many more files
unfoldable pub walk : Trees → Text → Asked → ℕ → List Text → Text → List Event
walk trees input asked zero chain path =
    if among path chain then cycle path ∷ [] else long input ∷ []
walk trees input asked (suc room) chain path =
    if among path chain then cycle path ∷ []
    else load asked path ∷ events_inside (trees path)
    (walk trees input the_resolver room (chain ++ path ∷ [])) path

-- a read: who is asked, and for the file of which path
pub record FileRead : Type 0 where
  pub asked : Asked
  pub path : Text

-- the reads of events
abbrev pub reads_in : List Event → List FileRead
reads_in [] = []
reads_in (load a p ∷ events) = record { asked = a; path = p } ∷ reads_in events
reads_in (check n f p ∷ events) = record { asked = the_reader f; path = p } ∷ reads_in events
reads_in (_ ∷ events) = reads_in events

-- the files that are elaborated, in order
abbrev pub elab_paths : List Event → List Text
elab_paths [] = []
elab_paths (elab path ∷ events) = path ∷ elab_paths events
elab_paths (_ ∷ events) = elab_paths events

-- how many imports a tree has, if there is one
abbrev pub statements_of : Option FileSyntax → ℕ
statements_of None = 0
statements_of (Some t) = length (import_paths t)

-- how many import statements the files have that are loaded
abbrev pub import_statements : Trees → List Event → ℕ
import_statements trees [] = 0
import_statements trees (load a p ∷ events) =
    statements_of (trees p) + import_statements trees events
import_statements trees (_ ∷ events) = import_statements trees events

-- an input at a path of its own is checked first, if an earlier input's events load its name
abbrev pub checks : List Event → Input → List Event
checks kept (named p) = []
checks kept (at p own) = if has (load the_resolver p) kept then check (length (reads_in kept)) own p
    ∷ [] else []

-- the walk of an input, in which a chain has room for a hundred files
abbrev pub input_walk : Trees → Input → List Event
input_walk trees i = walk trees (input_name i) (asked_of i) 100 [] (input_name i)

-- what is kept after the check of this input
abbrev pub with_check : Input → Trees → List Event → List Event
with_check i trees kept = kept ++ checks kept i

-- and after its walk, from the empty chain
abbrev pub with_input : Input → Trees → List Event → List Event
with_input i trees kept = keep (with_check i trees kept) (input_walk trees i)

-- what is kept after these inputs in turn
unfoldable pub events_after : Trees → List Event → List Input → List Event
events_after trees kept [] = kept
events_after trees kept (i ∷ inputs) = events_after trees (with_input i trees kept) inputs

-- the events of a run
abbrev pub events : Trees → List Input → List Event
events trees inputs = events_after trees [] inputs

-- up to and with the first that passes the test
abbrev pub until : (Event → Bool) → List Event → List Event
until test [] = []
until test (event ∷ events) = event ∷ (if test event then [] else until test events)
