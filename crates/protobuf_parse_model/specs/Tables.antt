-- What a table of declarations tells of files.
use Rattle.std.specs.Prelude.{◌≡◌, ℕ, ◌<◌, suc, Bool, not, List, [], ◌∷◌, ◌++◌}
use Rattle.std.specs.Prelude.{map, flat_map, filter, length, bytes_eq, string_bytes}
use Rattle.std.specs.Prelude.{option_to_list, slice_get, Contains}
use Rattle.std.specs.Prelude.{Option, Some, None, String}
use Rattle.std.specs.Global.{Global, Vec}
use Rattle.std.specs.BTreeMap.{BTreeMap, get}
use Rattle.std.specs.Ordering.{nat_cmp}
use Rattle.protobuf_parse_syntax.specs.Trees.{FileSyntax}
use Rattle.protobuf_parse_model.specs.declared.scope.seen.DeclarationKind.{DeclarationKind}
use Rattle.protobuf_parse_model.specs.declared.scope.seen.DeclarationKind.TheVariants as kind
use Rattle.protobuf_parse_model.specs.declared.scope.seen.Declaration.{Declaration}
use Rattle.protobuf_parse_model.specs.declared.scope.seen.Declarations.{Declarations}
use Rattle.protobuf_parse_model.specs.Descriptors.{Text}
use Rattle.protobuf_parse_model.specs.DeclaredAt.{DeclaredAt, file_at}
use Rattle.protobuf_parse_model.specs.SeenFiles.{declared_as}

-- the declarations of the name among what the file with that number declares
abbrev pub declared_by : Text → ℕ → List DeclaredAt → List Declaration
declared_by name file ds =
    map (λ (d : DeclaredAt). record { file = file; kind = d.what.kind })
    (filter (λ (d : DeclaredAt). bytes_eq d.name name) ds)

-- the declarations in files, of which the first has the number n and each next one the next number
abbrev pub declared_in : Text → ℕ → List FileSyntax → List Declaration
declared_in name n [] = []
declared_in name n (t ∷ ts) = declared_by name n (file_at t) ++ declared_in name (suc n) ts

-- the full names in a list that may be there
abbrev pub name_list : Option (Vec (String Global)) → List Text
name_list None = []
name_list (Some names) = map string_bytes names.items

-- the full names that are listed for the file with that number
abbrev pub names_listed : BTreeMap ℕ (Vec (String Global)) → ℕ → List Text
names_listed names file = name_list (get nat_cmp names file)

-- those of the full names that the file declares which the table lists as declared more than once
abbrev pub listed_names : Declarations → ℕ → List Text
listed_names table file = names_listed table.repeated file

-- Each name that is declared more than once is listed for each file that declares it.
abbrev pub ListsRepeated : Declarations → Type 0
ListsRepeated table = (name : Text) → 1 < length (declared_as table name)
    → (d : Declaration) → Contains (declared_as table name) d
    → Contains (listed_names table d.file) name

-- Each name is declared in the table as the files declare it, in their order.
pub record TableTells (table : Declarations) (files : List FileSyntax) : Type 0 where
  pub declares : (name : Text) → declared_as table name ≡ declared_in name 0 files
  pub lists : ListsRepeated table

-- the files with these numbers
abbrev pub picked : {T : Type 0} → List T → List ℕ → List T
picked files numbers = flat_map (λ (n : ℕ). option_to_list (slice_get files n)) numbers

-- ---- what is declared twice

-- whether this is what an extension is declared as, or else what a message or an enum is
abbrev pub is_of : Bool → DeclarationKind → Bool
is_of extension kind.Message = not extension
is_of extension kind.Enum = not extension
is_of extension kind.Generated = not extension
is_of extension kind.Extension = extension
