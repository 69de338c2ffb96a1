-- Each name of a type in the descriptors of an accepted run is declared by a file that is reached.
--
-- So who holds what a file reaches can follow every name in its descriptor: the type of a field,
-- what an extension extends, what a method takes and returns.
use Rattle.std.specs.Prelude.{◌≡◌, ◌⊎◌, List, [], ◌∷◌, Some}
use Rattle.protobuf_parse_syntax.specs.Trees.{FileSyntax}
use Rattle.protobuf_parse_model.specs.Descriptors.{Text}
use Rattle.protobuf_parse_model.specs.Declarations.{file_generated}
use Rattle.protobuf_parse_model.specs.Faults.{Among}
use Rattle.protobuf_parse_elaboration.specs.FileDescriptor.{file_of}
use Rattle.protobuf_parse_elaboration.specs.NamedTypes.{names_declared, type_names_in}
use Rattle.protobuf_parse_run.specs.Walks.{Input, Trees, Reaches}
use Rattle.protobuf_parse_run.specs.Run.{Files, environment_of}
use Rattle.protobuf_parse_run.specs.Stability.{IsClean, IsFileOfRun, WereRead}

-- A file that p reaches declares a message or an enum of that full name.
pub record IsDeclaredInReach (trees : Trees) (p name : Text) : Type 0 where
  pub path : Text
  pub tree : FileSyntax
  pub is_reached : Reaches trees p path
  pub has_tree : trees path ≡ Some tree
  pub declares : Among (names_declared (tree ∷ [])) name

-- In an accepted run each such name in the descriptor of p is declared so, or is that of a message
-- behind one of p's own maps and groups.
abbrev pub NamesAreReached : Type 0
NamesAreReached =
    (files : Files) (inputs : List Input) → WereRead files → IsClean files inputs
    → (p : Text) (t : FileSyntax) → IsFileOfRun files.trees inputs p → files.trees p ≡ Some t
    → (name : Text) → Among (type_names_in (file_of (environment_of files p t) p t)) name
    → IsDeclaredInReach files.trees p name ⊎ Among (file_generated t) name
