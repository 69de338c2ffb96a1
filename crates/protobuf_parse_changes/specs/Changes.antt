-- What is told of two versions of files: that something changed, and where it is.
use Rattle.std.specs.Prelude.{ℤ, Bool, List, [], ◌∷◌, Option, Some, None, if◌then◌else◌}
use Rattle.protobuf_parse_model.specs.Descriptors.{Text}
use Rattle.protobuf_parse_changes.specs.declared.kind.ChangeKind.{ChangeKind}

-- The path of an old file, and the full name of what it declares, or nothing; the name of a part of
-- that, and the number of the part.
pub record Site : Type 0 where
  pub file : Text
  pub name : Text
  pub member : Option Text
  pub number : Option ℤ

-- a change
pub record Changed : Type 0 where
  pub kind : ChangeKind
  pub at : Site

-- that change, there
abbrev pub changed : ChangeKind → Site → Changed
changed kind at = record { kind = kind; at = at }

-- that change, where the test says so
abbrev pub changed_if : Bool → ChangeKind → Site → List Changed
changed_if test kind at = if test then changed kind at ∷ [] else []

-- what the file declares by the full name
abbrev pub site : (file name : Text) → Site
site file name = record { file = file; name = name; member = None; number = None }

-- a part of that
abbrev pub inside : Site → (name : Text) → (number : Option ℤ) → Site
inside at name number =
    record { file = at.file; name = at.name; member = Some name; number = number }
