-- The messages and the extensions that files declare, and what the numbers in a message's records
-- name. Protocol Buffers Language Guide (proto2), "Nested Types", "Packages", "Extensions"
-- (https://protobuf.dev).
use Rattle.std.specs.Prelude.{ℕ, pos, Bool, true, false, ◌&&◌, List, [], ◌∷◌, ◌++◌, map, filter}
use Rattle.std.specs.Prelude.{find, Option, Some, None, not}
use Rattle.std.specs.List.{flat_map, list_any}
use Rattle.std.specs.Option.{option_map_or}
use Rattle.std.specs.Ordering.{int_eq}
use Rattle.std.specs.Str.{bytes_eq}
use Rattle.protobuf_parse_base.specs.Characters as char
use Rattle.protobuf_parse_model.specs.Declarations.{Declared}
use Rattle.protobuf_parse_model.specs.Descriptors.{Text, FileDescriptor, FieldDescriptor}
use Rattle.protobuf_parse_model.specs.Descriptors.{MessageParts, MessageDescriptor}
use Rattle.protobuf_parse_model.specs.Descriptors.{MessageDescriptors, a_message, no_messages}
use Rattle.protobuf_parse_model.specs.Descriptors.{messages}

-- a message by its full name
pub record Declaration : Type 0 where
  pub name : Text
  pub parts : MessageParts

-- the name inside the scope, after a dot
abbrev pub name_within : Text → Text → Text
name_within scope name = scope ++ (char.dot ∷ name)

abbrev mutual
  -- the message and those inside it
  pub declared_message : Text → MessageDescriptor → List Declaration
  declared_message scope (a_message parts nested) =
      record { name = name_within scope parts.name; parts = parts }
      ∷ declared_messages (name_within scope parts.name) nested

  -- of messages that stand side by side
  pub declared_messages : Text → MessageDescriptors → List Declaration
  declared_messages scope no_messages = []
  declared_messages scope (messages m ms) = declared_message scope m ++ declared_messages scope ms

-- the package, if any, after a dot
abbrev pub package_scope : Option Text → Text
package_scope None = []
package_scope (Some name) = name_within [] name

-- the messages of a file, each before those inside it
abbrev pub messages_declared_in : FileDescriptor → List Declaration
messages_declared_in file =
    flat_map (declared_message (package_scope file.«package»)) file.message_type

-- extensions that stand in the scope, by full name
abbrev pub extensions_within : Text → List FieldDescriptor → List (Declared FieldDescriptor)
extensions_within scope fields =
    map (λ (f : FieldDescriptor). record { name = name_within scope f.name; what = f }) fields

-- the extensions of a file by full name: those inside messages, and those of the file
abbrev pub declared_extensions : FileDescriptor → List (Declared FieldDescriptor)
declared_extensions file =
    flat_map (λ (d : Declaration). extensions_within d.name d.parts.extension)
    (messages_declared_in file)
    ++ extensions_within (package_scope file.«package») file.extension

-- the extensions of a file
abbrev pub extensions_declared_in : FileDescriptor → List FieldDescriptor
extensions_declared_in file =
    map (λ (e : Declared FieldDescriptor). e.what) (declared_extensions file)

-- those of the declarations that have the name
abbrev pub messages_named : Text → List Declaration → List MessageParts
messages_named name ds = map (λ d. d.parts) (filter (λ d. bytes_eq name d.name) ds)

-- whether the field's extendee is of that name
abbrev pub extends : Text → FieldDescriptor → Bool
extends name extension = option_map_or (bytes_eq name) extension.extendee false

-- the messages that have the full name, and the extensions of it
abbrev pub messages_with_name : List FileDescriptor → Text → List MessageParts
messages_with_name files name = messages_named name (flat_map messages_declared_in files)

-- the extensions of the message of that full name
abbrev pub extensions_extending : List FileDescriptor → Text → List FieldDescriptor
extensions_extending files name = filter (extends name) (flat_map extensions_declared_in files)

-- the first of the fields that has the number
abbrev pub field_numbered : List FieldDescriptor → ℕ → Option FieldDescriptor
field_numbered fields number = find (λ field. int_eq (pos number) field.number) fields

-- whether no two of the fields have one number
abbrev pub have_distinct_numbers : List FieldDescriptor → Bool
have_distinct_numbers [] = true
have_distinct_numbers (field ∷ fields) =
    not (list_any (λ other. int_eq field.number other.number) fields)
    && have_distinct_numbers fields
