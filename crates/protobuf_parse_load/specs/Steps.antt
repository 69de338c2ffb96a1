-- What a load of inputs does, one import statement after another: each file is read and parsed
-- once, its imports are loaded first, and nothing ends it. What can't be followed is told where it
-- stands, and is as if it were absent.
use Rattle.std.specs.Prelude.{ℕ, zero, suc, List, [], ◌∷◌, ◌++◌, length, max, nat_le, Option, Some}
use Rattle.std.specs.Prelude.{None, bytes_eq, if◌then◌else◌}
use Rattle.protobuf_parse_lexer.specs.declared.lexer.token.Place.{Place}
use Rattle.protobuf_parse_syntax.specs.Dependencies.{imports}
use Rattle.protobuf_parse_syntax.specs.Trees.{FileSyntax, ImportSyntax}
use Rattle.protobuf_parse_model.specs.Descriptors.{Text}
use Rattle.protobuf_parse_run.specs.Walks.{Asked, FileRead, Input, Trees, among, asked_of, at}
use Rattle.protobuf_parse_run.specs.Walks.{input_name, named, the_reader, the_resolver}
use Rattle.protobuf_parse_load.specs.declared.known.Known.{Known}
use Rattle.protobuf_parse_load.specs.declared.known.Known.TheVariants.{Unreadable, Loaded}

-- who asks for a file: an input, by its number, or the import statement at a place of the file with
-- this path
pub data AskedBy : Type 0 where
  by_input : ℕ → AskedBy
  by_import : Text → Place → AskedBy

-- why it isn't followed: its file can't be read or parsed, and has this number among such files; it
-- closes a cycle; or it makes a chain of too many files, from the input with this path
pub data Why : Type 0 where
  is_unread : ℕ → Why
  is_cycle : Why
  is_too_long : Text → Why

-- what a load does: the file of a path was read, and its imports are met next; what asks for the
-- path isn't followed; the imports of the file are met, and the longest chain from it has so many
-- files; the input with this number lies at a path of its own, while its proto path was loaded
-- before, and what it has was read as the read with this number
pub data Step : Type 0 where
  opened : AskedBy → Text → Step
  told : AskedBy → Text → Why → Step
  closed : Text → ℕ → Step
  held : ℕ → Text → ℕ → Step

-- ---- what is known of a path

-- where the file of the path could not be read or parsed
abbrev pub unread_by : Text → Text → Why → Option Known → Option Known
unread_by p q (is_unread n) rest = if bytes_eq p q then Some (Unreadable n) else rest
unread_by p q is_cycle rest = rest
unread_by p q (is_too_long input) rest = rest

-- what a step says of it, or else this
abbrev pub known_by : Text → Step → Option Known → Option Known
known_by p (opened by q) rest = rest
known_by p (told by q why) rest = unread_by p q why rest
known_by p (closed q h) rest = if bytes_eq p q then Some (Loaded h) else rest
known_by p (held n q r) rest = rest

-- what the first of the steps says that says something of it
abbrev pub known : Text → List Step → Option Known
known p [] = None
known p (s ∷ steps) = known_by p s (known p steps)

-- ---- a load at a statement of a file

-- the steps so far, the reads, those of them that gave no tree, and how many files the longest
-- chain of the file's imports so far has
pub record At : Type 0 where
  pub steps : List Step
  pub reads : List FileRead
  pub unread : List FileRead
  pub height : ℕ

-- a step, and no read
abbrev pub tells : Step → At → At
tells step a = record {
  steps = a.steps ++ step ∷ [];
  reads = a.reads;
  unread = a.unread;
  height = a.height;
}

-- a read of a path that gives no tree
abbrev pub misses : AskedBy → Asked → Text → At → At
misses by asked p a = record {
  steps = a.steps ++ told by p (is_unread (length a.unread)) ∷ [];
  reads = a.reads ++ record { asked = asked; path = p } ∷ [];
  unread = a.unread ++ record { asked = asked; path = p } ∷ [];
  height = a.height;
}

-- a read of a path that gives a tree, none of whose imports is met so far
abbrev pub opens : AskedBy → Asked → Text → At → At
opens by asked p a = record {
  steps = a.steps ++ opened by p ∷ [];
  reads = a.reads ++ record { asked = asked; path = p } ∷ [];
  unread = a.unread;
  height = 0;
}

-- all its imports are met
abbrev pub closes : Text → At → At
closes p a = record {
  steps = a.steps ++ closed p (suc a.height) ∷ [];
  reads = a.reads;
  unread = a.unread;
  height = suc a.height;
}

-- beside imports the longest chain of which has so many files
abbrev pub back : ℕ → At → At
back h a = record {
  steps = a.steps;
  reads = a.reads;
  unread = a.unread;
  height = max h a.height;
}

-- a path that isn't on its own chain, by what is known of it, where a chain from it may have so
-- many files
abbrev pub meets_known : ℕ → Text → AskedBy → Text → At → Option Known → At → At
meets_known room input by p a None new = new
meets_known room input by p a (Some (Unreadable n)) new = tells (told by p (is_unread n)) a
meets_known room input by p a (Some (Loaded h)) new =
    if nat_le h room then back h a else tells (told by p (is_too_long input)) a

-- a path that is read now, by its tree and what meets imports
abbrev pub meets_new : Option FileSyntax → (List ImportSyntax → At → At) → AskedBy → Asked → Text
    → At → At
meets_new None inside by asked p a = misses by asked p a
meets_new (Some t) inside by asked p a =
    back a.height (closes p (inside (imports t.statements) (opens by asked p a)))

-- imports, one after another
abbrev pub meets_each : (ImportSyntax → At → At) → List ImportSyntax → At → At
meets_each meet [] a = a
meets_each meet (i ∷ is) a = meets_each meet is (meet i a)

-- The file of a path, asked for so at the end of a chain of imports from this input, which has room
-- for so many more files. That it is on the chain comes before what is known of it, and that before
-- the room.
unfoldable pub meet : Trees → Text → Asked → ℕ → List Text → AskedBy → Text → At → At
meet trees input asked zero chain by p a =
    if among p chain then tells (told by p is_cycle) a
    else meets_known 0 input by p a (known p a.steps) (tells (told by p (is_too_long input)) a)
meet trees input asked (suc room) chain by p a =
    if among p chain then tells (told by p is_cycle) a
    else meets_known (suc room) input by p a (known p a.steps)
    (meets_new (trees p)
    (meets_each (λ (i : ImportSyntax). meet trees input the_resolver room (chain ++ p ∷ [])
    (by_import p i.place) i.path)) by asked p a)

-- ---- the inputs

-- where the file of an input at a path of its own was loaded before: what that path has is read, so
-- that it can be held against what was loaded
abbrev pub holds_known : ℕ → Text → Text → At → Option Known → At
holds_known n p own a None = a
holds_known n p own a (Some (Unreadable m)) = a
holds_known n p own a (Some (Loaded h)) = record {
  steps = a.steps ++ held n p (length a.reads) ∷ [];
  reads = a.reads ++ record { asked = the_reader own; path = p } ∷ [];
  unread = a.unread;
  height = a.height;
}

-- so of an input: one that the resolver finds is not held against anything
abbrev pub holds : ℕ → Input → At → At
holds n (named p) a = a
holds n (at p own) a = holds_known n p own a (known p a.steps)

-- an input, from the empty chain, where a chain has room for a hundred files
abbrev pub walks_input : Trees → ℕ → Input → At → At
walks_input trees n i a = meet trees (input_name i) (asked_of i) 100 [] (by_input n) (input_name i)
    a

-- the input with this number
abbrev pub meets_input : Trees → ℕ → Input → At → At
meets_input trees n i a = walks_input trees n i (holds n i a)

-- inputs, one after another, the first of which has this number
abbrev pub loads : Trees → ℕ → List Input → At → At
loads trees n [] a = a
loads trees n (i ∷ inputs) a = loads trees (suc n) inputs (meets_input trees n i a)

-- nothing is loaded
abbrev pub nothing : At
nothing = record { steps = []; reads = []; unread = []; height = 0 }

-- a load of these inputs
abbrev pub load_of : Trees → List Input → At
load_of trees inputs = loads trees 0 inputs nothing

-- its steps
abbrev pub load_steps : Trees → List Input → List Step
load_steps trees inputs = (load_of trees inputs).steps

-- its reads
abbrev pub load_reads : Trees → List Input → List FileRead
load_reads trees inputs = (load_of trees inputs).reads

-- the files that are loaded at these steps, in order: each behind those that it imports
abbrev pub closed_paths : List Step → List Text
closed_paths [] = []
closed_paths (closed p h ∷ steps) = p ∷ closed_paths steps
closed_paths (_ ∷ steps) = closed_paths steps
