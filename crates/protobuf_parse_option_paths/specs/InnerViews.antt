-- No public clause rests on this file.
-- What the code keeps, without where it lies in memory.
use Rattle.std.specs.Prelude.{ℕ, List, Option, Vec, option_map, unwrap_or, map}
use Rattle.std.specs.Prelude.{◌≡◌, ◌==◌, if◌then◌else◌, slice_get}
use Rattle.std.specs.Option.{option_and_then}
use Rattle.std.specs.Borrow.{Bor}
use Rattle.std.specs.BTreeMap.{BTreeMap, get_by}
use Rattle.std.specs.Global.{Global}
use Rattle.std.specs.Ordering.{nat_cmp}
use Rattle.std.specs.Cmp.Lexicographic.{slice_cmp}
use Rattle.protobuf_parse_model.specs.declared.customs.Construct.{Construct}
use Rattle.protobuf_parse_model.specs.declared.descriptor.FieldDescriptorProto.{FieldDescriptorProto}
use Rattle.protobuf_parse_model.specs.Declarations.{Declared, Scope}
use Rattle.protobuf_parse_model.specs.Descriptors.{Text, FieldDescriptor, MessageDescriptor}
use Rattle.protobuf_parse_model.specs.Descriptors.{field_view}
use Rattle.protobuf_parse_model.specs.OptionNumbers.{Numbers}
use Rattle.protobuf_parse_model.specs.SeenFiles.{name_texts}
use Rattle.protobuf_parse_source_info.specs.Info.{LocationSyntax}
use Rattle.protobuf_parse_source_info.specs.Walks.{Path}
use Rattle.protobuf_parse_option_paths.specs.Paths.{Lead, count, with_lead, with_path}
use Rattle.protobuf_parse_option_paths.specs.Bearers.{Bearer, message_bearer, part_bearer}

-- the bearer of a construct in the scope, if there is a construct
abbrev pub bearer_of_found : Scope → Option Construct → Option Bearer
bearer_of_found scope found =
    option_map (λ (c : Construct). record { construct = c; scope = scope }) found

-- the same, where the scope is texts
abbrev pub bearer_at : List (Bor (List ℕ)) → Option Construct → Option Bearer
bearer_at scope found = bearer_of_found (name_texts scope) found

-- in a message that is the scope and has these messages inside it, behind the number of a field
-- and an index
abbrev pub inside_bearer : Scope → List MessageDescriptor → (field index : ℕ) → Path → Option Bearer
inside_bearer scope ms n i path =
    if n == 3 then
    option_and_then (λ (m : MessageDescriptor). message_bearer scope m path) (slice_get ms i)
    else part_bearer scope n path

-- a field that was found
abbrev pub field_found : Option (Bor FieldDescriptorProto) → Option FieldDescriptor
field_found found = option_map (λ (f : Bor FieldDescriptorProto). field_view f.now) found

-- an extension that was found by its full name
abbrev pub under_full_name : Text → Bor FieldDescriptorProto → Declared FieldDescriptor
under_full_name name f = record { name = name; what = field_view f.now }

-- an extension that was found, without its full name
abbrev pub field_of_declared : Option (Declared FieldDescriptor) → Option FieldDescriptor
field_of_declared found = option_map (λ (d : Declared FieldDescriptor). d.what) found

-- numbers with the names that they have
abbrev pub numbers_view : List (Bor Text × ℕ) → Numbers
numbers_view numbers = map (λ (n : Bor Text × ℕ). (n.0.now, n.1)) numbers

-- numbers by paths
abbrev pub Counts : Type 0
Counts = BTreeMap (Vec ℕ Global) ℕ

-- how many options are counted at a path
abbrev pub counted : Counts → Path → ℕ
counted counts p = unwrap_or (get_by (λ k. slice_cmp nat_cmp p k.items) counts) 0

-- The paths of repeated options before are counted.
abbrev pub IsCounted : Counts → List Path → Type 0
IsCounted counts before = (p : Path) → counted counts p ≡ count before p

-- A location got its full path, behind repeated options with these paths, and it is counted too.
pub record PutsLead (now : Counts) (before : List Path) (new old : LocationSyntax) (lead : Lead)
    : Type 0 where
  pub location : new ≡ with_path before lead old
  pub counts : IsCounted now (with_lead before lead)
