-- No public clause rests on this file.
-- What the code reads of a table of declarations, and what it adds to it.
use Rattle.std.specs.Prelude.{ℕ, ◌<◌, Bool, true, false, ◌&&◌, List, [], ◌++◌, flat_map, filter}
use Rattle.std.specs.Prelude.{length, nat_eq, nat_lt, if◌then◌else◌, Contains, String, ◌≡◌, ◌∷◌}
use Rattle.std.specs.Prelude.{bytes_eq}
use Rattle.std.specs.List.{list_any}
use Rattle.std.specs.Global.{Global, Vec}
use Rattle.std.specs.BTreeMap.{BTreeMap, keys}
use Rattle.protobuf_parse_model.specs.declared.error.ElabErrorKind.{ElabErrorKind}
use Rattle.protobuf_parse_model.specs.declared.error.ElabErrorKind.TheVariants.{TypeDeclaredTwice}
use Rattle.protobuf_parse_model.specs.declared.error.ElabErrorKind.TheVariants.{ExtensionDeclaredTwice}
use Rattle.protobuf_parse_model.specs.declared.scope.seen.Declaration.{Declaration}
use Rattle.protobuf_parse_model.specs.declared.scope.seen.Declarations.{Declarations}
use Rattle.protobuf_parse_model.specs.declared.scope.seen.Seen.{Seen}
use Rattle.protobuf_parse_model.specs.Descriptors.{Text}
use Rattle.protobuf_parse_model.specs.Faults.{Fault, placed}
use Rattle.protobuf_parse_model.specs.Duplicates.{fault_when}
use Rattle.protobuf_parse_model.specs.Linking.{beginning}
use Rattle.protobuf_parse_model.specs.SeenFiles.{declared_as}
use Rattle.protobuf_parse_model.specs.Tables.{ListsRepeated, is_of, listed_names, names_listed}

-- the declaration was added at the end of those of its full name
pub record AddsOne (old new : Declarations) (full : Text) (d : Declaration) : Type 0 where
  pub declares : (name : Text)
      → declared_as new name ≡ declared_as old name ++ (if bytes_eq full name then d ∷ [] else [])
  pub lists : ListsRepeated old → ListsRepeated new

-- tables that say the same of each name
pub record SaysSame (old new : Declarations) : Type 0 where
  pub declares : (name : Text) → declared_as new name ≡ declared_as old name
  pub lists : new.repeated ≡ old.repeated

-- each name is still listed for the files for which it was
abbrev pub KeepsListed : BTreeMap ℕ (Vec (String Global)) → BTreeMap ℕ (Vec (String Global))
    → Type 0
KeepsListed old new = (n : ℕ) (name : Text) → Contains (names_listed old n) name
    → Contains (names_listed new n) name

-- What was listed still is; and a name that is declared already, and once more in the file with
-- that number, is listed for that file and for each that declares it.
pub record ListsOne (old : Declarations) (new : BTreeMap ℕ (Vec (String Global))) (full : Text)
    (file : ℕ) : Type 0 where
  pub kept : KeepsListed old.repeated new
  pub earlier : ListsRepeated old → (d : Declaration) → Contains (declared_as old full) d
      → Contains (names_listed new d.file) full
  pub again : ListsRepeated old → 0 < length (declared_as old full)
      → Contains (names_listed new file) full

-- how many of the declarations, of extensions or else of types, stand in files with these numbers
abbrev pub times : Bool → List ℕ → List Declaration → ℕ
times extension reach ds =
    length (filter (λ (d : Declaration). is_of extension d.kind && list_any (nat_eq d.file) reach)
    ds)

-- how often the files that are reached declare the name
abbrev pub times_declared : Bool → Seen → Text → ℕ
times_declared extension seen name =
    times extension seen.reach.now (declared_as seen.declarations.now name)

-- where the file begins, if the test says so
abbrev pub twice_when : Bool → ElabErrorKind → Text → List Fault
twice_when stands kind name = placed beginning (fault_when stands kind name)

-- E5 and E6 for the name
abbrev pub name_faults : Seen → Text → List Fault
name_faults seen name =
    twice_when (nat_lt 1 (times_declared false seen name)) TypeDeclaredTwice name
    ++ twice_when (nat_lt 1 (times_declared true seen name)) ExtensionDeclaredTwice name

-- the same for the names that are listed for a file
abbrev pub listed_faults : Seen → ℕ → List Fault
listed_faults seen file = flat_map (name_faults seen) (listed_names seen.declarations.now file)

-- the files for which names are listed
abbrev pub listed_files : Declarations → List ℕ
listed_files table = keys table.repeated

-- the same, if that file is reached
abbrev pub reached_faults : Seen → ℕ → List Fault
reached_faults seen file =
    if list_any (nat_eq file) seen.reach.now then listed_faults seen file else []
