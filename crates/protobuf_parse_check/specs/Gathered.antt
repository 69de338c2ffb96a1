-- Full names that a file brings together: E5 and E6, each once.
--
-- In a file and all that it reaches a full name is declared once. A file brings together a name that
-- these files declare more than once, where no other file that it reaches does so already: so it is
-- told in one file, and not again in all that import that one.
use Rattle.std.specs.Prelude.{◌≡◌, ◌&&◌, ◌||◌, Bool, true, false, not, List, ◌++◌, map, filter}
use Rattle.std.specs.Prelude.{flat_map, nat_lt, bytes_eq, if◌then◌else◌}
use Rattle.std.specs.List.{list_any}
use Rattle.protobuf_parse_syntax.specs.Trees.{FileSyntax}
use Rattle.protobuf_parse_model.specs.Descriptors.{Text}
use Rattle.protobuf_parse_model.specs.Faults.{Fault}
use Rattle.protobuf_parse_model.specs.Linking.{full_names, occurrences}
use Rattle.protobuf_parse_model.specs.declared.error.ElabErrorKind.{ElabErrorKind}
use Rattle.protobuf_parse_model.specs.declared.error.ElabErrorKind.TheVariants.{TypeDeclaredTwice}
use Rattle.protobuf_parse_model.specs.declared.error.ElabErrorKind.TheVariants.{ExtensionDeclaredTwice}
use Rattle.protobuf_parse_elaboration.specs.FilesByPath.{AreJust, trees_at}
use Rattle.protobuf_parse_run.specs.Repeats.{declaring, is_nothing, repeat_place}
use Rattle.protobuf_parse_run.specs.Run.{Files}
use Rattle.protobuf_parse_run.specs.Walks.{among}

-- the full names of the extensions of the files that a file reaches, or else of their messages and
-- enums
abbrev pub names_reached : Files → Bool → Text → List Text
names_reached files extension p =
    flat_map (full_names extension) (trees_at files.trees (files.reached p))

-- whether they have the name more than once
abbrev pub reaches_twice : Files → Bool → Text → Text → Bool
reaches_twice files extension name p =
    nat_lt 1 (occurrences name (names_reached files extension p))

-- the other files that a file reaches
abbrev pub others_reached : Files → Text → List Text
others_reached files p = filter (λ (q : Text). not (bytes_eq q p)) (files.reached p)

-- whether the file brings the declarations of the name together
abbrev pub brings : Files → Bool → Text → Text → Bool
brings files extension p name =
    reaches_twice files extension name p
    && not (list_any (reaches_twice files extension name) (others_reached files p))

-- the names of which it does so, as often as they are declared
abbrev pub brought : Files → Bool → Text → List Text
brought files extension p =
    filter (brings files extension p) (names_reached files extension p)

-- whether there are any
abbrev pub brings_any : Files → Text → Bool
brings_any files p =
    not (is_nothing (brought files false p)) || not (is_nothing (brought files true p))

-- E6, or else E5
abbrev pub kind_of : Bool → ElabErrorKind
kind_of extension = if extension then ExtensionDeclaredTwice else TypeDeclaredTwice

-- the fault for a name: it stands where the file declares the name last, or at the import with which
-- the last of the files that do is reached
abbrev pub brought_fault : Files → Text → FileSyntax → Bool → Text → Fault
brought_fault files p t extension name = record {
  place = repeat_place (λ q r. among r (files.reached q))
      (declaring files.trees extension name (files.reached p)) t extension name;
  wrong = record { kind = kind_of extension; what = name };
}

-- so for each of these
abbrev pub brought_faults : Files → Text → FileSyntax → Bool → List Text → List Fault
brought_faults files p t extension names = map (brought_fault files p t extension) names

-- These are E5 of just the messages and enums, and behind them E6 of just the extensions, that the
-- file brings together: of each name once, in any order.
pub record AreBrought (files : Files) (p : Text) (t : FileSyntax) (told : List Fault)
    : Type 0 where
  pub types : List Text
  pub extensions : List Text
  pub types_are : AreJust (λ (name : Text). brings files false p name ≡ true) types
  pub extensions_are : AreJust (λ (name : Text). brings files true p name ≡ true) extensions
  pub told_are : told ≡ brought_faults files p t false types ++ brought_faults files p t true extensions
