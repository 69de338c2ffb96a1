-- Laws of what a load does.
use Rattle.std.specs.Prelude.{◌≡◌, ◌⊎◌, ℕ, suc, Bool, true, false, ◌&&◌, nat_eq, List, [], ◌∷◌}
use Rattle.std.specs.Prelude.{◌++◌}
use Rattle.std.specs.Prelude.{Option, Some, None, bytes_eq, map, slice_get}
use Rattle.std.specs.List.{AllByRecursion, list_any}
use Rattle.protobuf_parse_lexer.specs.declared.lexer.token.Place.{Place}
use Rattle.protobuf_parse_syntax.specs.Dependencies.{imports}
use Rattle.protobuf_parse_syntax.specs.Trees.{FileSyntax, ImportSyntax}
use Rattle.protobuf_parse_model.specs.Descriptors.{Text}
use Rattle.protobuf_parse_elaboration.specs.FilesByPath.{AreDistinct}
use Rattle.protobuf_parse_run.specs.Run.{Files, fails, resolved_in}
use Rattle.protobuf_parse_run.specs.Walks.{Asked, Event, FileRead, Input, Trees, among, asked_of}
use Rattle.protobuf_parse_run.specs.Walks.{at}
use Rattle.protobuf_parse_run.specs.Walks.{check, cycle, elab, events, input_name, load, long}
use Rattle.protobuf_parse_run.specs.Walks.{the_reader, the_resolver, until}
use Rattle.protobuf_parse_load.specs.Steps.{AskedBy, Step, Why, by_import, by_input, closed}
use Rattle.protobuf_parse_load.specs.Steps.{closed_paths, held, is_cycle, is_too_long, is_unread}
use Rattle.protobuf_parse_load.specs.Steps.{load_reads, load_steps, opened, told}

-- ---- nothing is left out

-- equal places
abbrev pub same_place : Place → Place → Bool
same_place a b = nat_eq a.line b.line && nat_eq a.col b.col

-- the same input, or the import statements at one place of one file
abbrev pub same_asker : AskedBy → AskedBy → Bool
same_asker (by_input n) (by_input m) = nat_eq n m
same_asker (by_import p a) (by_import q b) = bytes_eq p q && same_place a b
same_asker _ _ = false

-- the step tells that what asks isn't followed
abbrev pub tells_of : AskedBy → Step → Bool
tells_of by (told from p why) = same_asker by from
tells_of by _ = false

-- one of the steps tells so, or the path is among the loaded files
abbrev pub IsFollowed : List Step → List Text → AskedBy → Text → Type 0
IsFollowed steps loaded by p = (list_any (tells_of by) steps ≡ true) ⊎ (among p loaded ≡ true)

-- so it is for each of these imports of a file
abbrev pub AreFollowed : List Step → List Text → Text → List ImportSyntax → Type 0
AreFollowed steps loaded p is =
    AllByRecursion (λ (i : ImportSyntax). IsFollowed steps loaded (by_import p i.place) i.path) is

-- and for these inputs, the first of which has this number
abbrev pub InputsAreFollowed : List Step → List Text → ℕ → List Input → Type 0
InputsAreFollowed steps loaded n [] = Unit {0}
InputsAreFollowed steps loaded n (i ∷ inputs) =
    IsFollowed steps loaded (by_input n) (input_name i)
    × InputsAreFollowed steps loaded (suc n) inputs

-- Each file that is loaded has a tree, and each of its imports is told at its place, or its file is
-- loaded before. So the imports that are not told make no cycle.
abbrev pub ImportsComeFirst : Type 0
ImportsComeFirst = (trees : Trees) (inputs : List Input) (before after : List Text) (p : Text)
    → closed_paths (load_steps trees inputs) ≡ before ++ p ∷ after
    → (t : FileSyntax) × (trees p ≡ Some t)
    × AreFollowed (load_steps trees inputs) before p (imports t.statements)

-- Each input is told, or its file is loaded.
abbrev pub InputsCome : Type 0
InputsCome = (trees : Trees) (inputs : List Input)
    → InputsAreFollowed (load_steps trees inputs) (closed_paths (load_steps trees inputs)) 0 inputs

-- No file is loaded twice.
abbrev pub FilesComeOnce : Type 0
FilesComeOnce = (trees : Trees) (inputs : List Input)
    → AreDistinct (closed_paths (load_steps trees inputs))

-- The resolver is asked for no path twice.
abbrev pub PathsAreAskedOnce : Type 0
PathsAreAskedOnce = (trees : Trees) (inputs : List Input)
    → AreDistinct (resolved_in (load_reads trees inputs))

-- ---- what is held against what was loaded

-- the input with this number lies at a path of its own, the read with that number asks the reader
-- for it, and the file of its proto path is among those that are loaded at these steps
abbrev pub IsHeldSo : List Input → List FileRead → List Step → Step → Type 0
IsHeldSo inputs reads steps (held n p r) = (own : Text) × (slice_get inputs n ≡ Some (at p own))
    × (slice_get reads r ≡ Some (record { asked = the_reader own; path = p }))
    × (among p (closed_paths steps) ≡ true)
IsHeldSo inputs reads steps _ = Unit {0}

-- so it is at each step that says so, by the steps of the whole load
abbrev pub HeldAreRead : Type 0
HeldAreRead = (trees : Trees) (inputs : List Input)
    → AllByRecursion (IsHeldSo inputs (load_reads trees inputs) (load_steps trees inputs))
    (load_steps trees inputs)

-- ---- a run is the front of a load

-- the step tells that something isn't followed
abbrev pub is_told : Step → Bool
is_told (told by p why) = true
is_told _ = false

-- who is asked for a file: by an input its reader or the resolver, by an import the resolver
abbrev pub asked_at : Option Input → Asked
asked_at None = the_resolver
asked_at (Some i) = asked_of i

-- so of a step of a load of these inputs
abbrev pub asked_for : List Input → AskedBy → Asked
asked_for inputs (by_input n) = asked_at (slice_get inputs n)
asked_for inputs (by_import p place) = the_resolver

-- the path of its own at which an input lies
abbrev pub own_at : Option Input → Text
own_at (Some (at p own)) = own
own_at _ = []

-- what happens in a run where something isn't followed
abbrev pub told_event : Asked → Text → Why → Event
told_event asked p (is_unread n) = load asked p
told_event asked p is_cycle = cycle p
told_event asked p (is_too_long input) = long input

-- what happens in a run at a step of a load of these inputs
abbrev pub event_of : List Input → Step → Event
event_of inputs (opened by p) = load (asked_for inputs by) p
event_of inputs (told by p why) = told_event (asked_for inputs by) p why
event_of inputs (closed p h) = elab p
event_of inputs (held n p r) = check r (own_at (slice_get inputs n)) p

-- the events of a run at the steps of a load
abbrev pub load_events : Trees → List Input → List Event
load_events trees inputs = map (event_of inputs) (load_steps trees inputs)

-- Up to the first that ends it, the events of a run are those of the load.
abbrev pub RunIsFront : Type 0
RunIsFront = (files : Files) (inputs : List Input)
    → until (fails files) (events files.trees inputs)
    ≡ until (fails files) (load_events files.trees inputs)

-- Where nothing is told, the events of a run are those of the load.
abbrev pub LoadIsRun : Type 0
LoadIsRun = (trees : Trees) (inputs : List Input)
    → list_any is_told (load_steps trees inputs) ≡ false
    → events trees inputs ≡ load_events trees inputs
