-- On what the options at a path stand, and the scope from which their names are looked up: of a
-- message, an enum or an enum's value the scope around the message or the enum; of what stands in a
-- message (fields, oneofs, extensions) that message; of all else the package. The numbers are those
-- that the fields have in descriptor.proto.
use Rattle.std.specs.Prelude.{ℕ, ◌==◌, ◌||◌, List, [], ◌∷◌, Option, Some, None}
use Rattle.std.specs.Prelude.{if◌then◌else◌, bytes_eq, slice_get}
use Rattle.std.specs.Option.{option_and_then}
use Rattle.protobuf_parse_source_info.specs.Walks.{Path}
use Rattle.protobuf_parse_model.specs.Descriptors.{FileDescriptor, MessageDescriptor, a_message}
use Rattle.protobuf_parse_model.specs.Descriptors.{messages_list, parts_seen}
use Rattle.protobuf_parse_model.specs.Declarations.{Scope, inside, scope_of_package}
use Rattle.protobuf_parse_model.specs.declared.customs.Construct.{Construct}
use Rattle.protobuf_parse_model.specs.declared.customs.Construct.TheVariants as of

-- what has the options, and the scope
pub record Bearer : Type 0 where
  pub construct : Construct
  pub scope : Scope

-- those of a construct, where the path goes on with this number alone
abbrev pub options_at : (number : ℕ) → Construct → Scope → Path → Option Bearer
options_at number construct scope path =
    if bytes_eq path (number ∷ []) then Some (record { construct = construct; scope = scope })
    else None

-- ---- behind the number of a field, and an index

-- in an enum: `options`, or those of a `value`
abbrev pub enum_bearer : Scope → Path → Option Bearer
enum_bearer scope [] = None
enum_bearer scope (n ∷ []) = options_at 3 of.Enum scope (n ∷ [])
enum_bearer scope (n ∷ i ∷ path) =
    if n == 2 then options_at 3 of.EnumValue scope path else None

-- in a service: `options`, or those of a `method`
abbrev pub service_bearer : Scope → Path → Option Bearer
service_bearer scope [] = None
service_bearer scope (n ∷ []) = options_at 3 of.Service scope (n ∷ [])
service_bearer scope (n ∷ i ∷ path) =
    if n == 2 then options_at 4 of.Method scope path else None

-- in a message that is the scope: of a `field` or an `extension`, of a `oneof_decl`, or in an
-- `enum_type`
abbrev pub part_bearer : Scope → ℕ → Path → Option Bearer
part_bearer scope n path =
    if n == 2 || n == 6 then options_at 8 of.Field scope path
    else (if n == 8 then options_at 2 of.Oneof scope path
    else (if n == 4 then enum_bearer scope path else None))

-- the messages inside a message
abbrev pub nested_in : MessageDescriptor → List MessageDescriptor
nested_in (a_message parts nested) = messages_list nested

-- in a message of the scope: `options`, those in a `nested_type`, or those of another part
abbrev pub message_bearer : Scope → MessageDescriptor → Path → Option Bearer
message_bearer scope m [] = None
message_bearer scope m (n ∷ []) = options_at 7 of.Message scope (n ∷ [])
message_bearer scope m (n ∷ i ∷ path) =
    if n == 3 then
    option_and_then
    (λ (k : MessageDescriptor). message_bearer (inside scope (parts_seen m).name) k path)
    (slice_get (nested_in m) i)
    else part_bearer (inside scope (parts_seen m).name) n path

-- ---- in a file

-- in an `enum_type`, in a `service`, or of an `extension`
abbrev pub file_part_bearer : Scope → ℕ → Path → Option Bearer
file_part_bearer scope n path =
    if n == 5 then enum_bearer scope path
    else (if n == 6 then service_bearer scope path
    else (if n == 7 then options_at 8 of.Field scope path else None))

-- `options`, those in a `message_type`, or those of another part
abbrev pub bearer_in : Scope → List MessageDescriptor → Path → Option Bearer
bearer_in scope ms [] = None
bearer_in scope ms (n ∷ []) = options_at 8 of.File scope (n ∷ [])
bearer_in scope ms (n ∷ i ∷ path) =
    if n == 4 then
    option_and_then (λ (m : MessageDescriptor). message_bearer scope m path) (slice_get ms i)
    else file_part_bearer scope n path

-- the bearer of the options at a path of the file
abbrev pub bearer_of : FileDescriptor → Path → Option Bearer
bearer_of file path = bearer_in (scope_of_package file.«package») file.message_type path
