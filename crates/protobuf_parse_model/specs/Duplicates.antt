-- Names that stand twice.
use Rattle.std.specs.Prelude.{Bool, false, ◌||◌, if◌then◌else◌, List, [], ◌∷◌, ◌++◌, bytes_eq}
use Rattle.protobuf_parse_lexer.specs.declared.lexer.token.Place.{Place}
use Rattle.protobuf_parse_model.specs.declared.error.ElabErrorKind.{ElabErrorKind}
use Rattle.protobuf_parse_model.specs.declared.error.ElabErrorKind.TheVariants.{DuplicateName}
use Rattle.protobuf_parse_model.specs.Descriptors.{Text}
use Rattle.protobuf_parse_model.specs.Faults.{Wrong, Fault, placed}

-- one fault, where the test says so
abbrev pub fault_when : Bool → ElabErrorKind → Text → List Wrong
fault_when stands kind what = if stands then record { kind = kind; what = what } ∷ [] else []

-- one fault, of this kind and with this text
abbrev pub fault : ElabErrorKind → Text → List Wrong
fault kind what = record { kind = kind; what = what } ∷ []

-- the name is one of these
abbrev pub stands_in : Text → List Text → Bool
stands_in name [] = false
stands_in name (x ∷ xs) = bytes_eq x name || stands_in name xs

-- what is declared: its name, and the place of the statement that declares it
pub record NamedAt : Type 0 where
  pub place : Place
  pub name : Text

-- E1 at each declaration whose name stands among those before it; `before` are those before the
-- first
abbrev pub repeats_after : List Text → List NamedAt → List Fault
repeats_after before [] = []
repeats_after before (x ∷ xs) =
    placed x.place (fault_when (stands_in x.name before) DuplicateName x.name)
    ++ repeats_after (before ++ x.name ∷ []) xs

-- E1 at each declaration whose name an earlier one in its scope has
abbrev pub duplicates : List NamedAt → List Fault
duplicates declared = repeats_after [] declared
