-- What files declare of the fields of a message that merging asks for.
use Rattle.std.specs.Prelude.{ℕ, ℤ, pos, negsuc, ◌^◌, Bool, true, false, not, ◌&&◌, nat_lt, List, []}
use Rattle.std.specs.Prelude.{Option, Some, None, option_map, unwrap_or, if◌then◌else◌}
use Rattle.std.specs.Option.{is_some, option_and_then}
use Rattle.protobuf_parse_model.specs.Options.{MessageOptionValues}
use Rattle.protobuf_parse_model.specs.Descriptors.{Text, FileDescriptor, FieldDescriptor}
use Rattle.protobuf_parse_model.specs.Descriptors.{EnumDescriptor, MessageDescriptor, parts_seen}
use Rattle.protobuf_parse_model.specs.declared.descriptor.FieldType.{FieldType}
use Rattle.protobuf_parse_model.specs.declared.descriptor.FieldType.TheVariants as types
use Rattle.protobuf_parse_index.specs.Lookups.{enum_named, field_numbered, message_named}
use Rattle.protobuf_parse_index.specs.Lookups.{value_name}
use Rattle.protobuf_parse_index.specs.Walk.{Standing}
use Rattle.protobuf_parse_decode.specs.Declarations.{is_repeated, path_in_proto3}

-- what counts of a field's declaration
pub record Declared : Type 0 where
  pub repeated : Bool
  -- whether a zero says no more than that nothing is there
  pub implicit : Bool
  -- the position of its oneof
  pub oneof : Option ℕ
  -- the message or the enum that it holds
  pub type_name : Text
  -- whether that is a closed enum
  pub closed : Bool
  -- whether that is the entry of a map
  pub is_map : Bool

-- the declarations of a message's fields, by their numbers
abbrev pub FieldsByNumber : Type 0
FieldsByNumber = ℕ → Option Declared

-- ---- maps

-- whether options of a message say that it is an entry
abbrev pub says_entry : MessageOptionValues → Bool
says_entry o = unwrap_or o.map_entry false

-- whether a message is the entry of a map
abbrev pub is_entry : MessageDescriptor → Bool
is_entry m = unwrap_or (option_map says_entry (parts_seen m).options) false

-- whether the message of that name is the entry of a map
abbrev pub entry_named : List FileDescriptor → Text → Bool
entry_named files name = unwrap_or
    (option_map (λ (m : Standing MessageDescriptor). is_entry m.what) (message_named files name))
    false

-- whether a repeated field of messages of that name is a map (Protocol Buffers Encoding, "Maps")
abbrev pub is_map_field : List FileDescriptor → (repeated : Bool) → (type_name : Text) → Bool
is_map_field files repeated name = repeated && entry_named files name

-- ---- enums

-- whether the enum of that name is closed: a file with another syntax than proto3 declares it
-- (Protocol Buffers, "Enum Behavior")
abbrev pub closed_named : List FileDescriptor → Text → Bool
closed_named files name = unwrap_or
    (option_map (λ (e : Standing EnumDescriptor). not (path_in_proto3 files (Some e.file)))
    (enum_named files name))
    false

-- whether a type is that of enums
abbrev pub is_enum : FieldType → Bool
is_enum types.Int32 = false
is_enum types.Int64 = false
is_enum types.Uint32 = false
is_enum types.Uint64 = false
is_enum types.Sint32 = false
is_enum types.Sint64 = false
is_enum types.Fixed32 = false
is_enum types.Fixed64 = false
is_enum types.Sfixed32 = false
is_enum types.Sfixed64 = false
is_enum types.Bool = false
is_enum types.String = false
is_enum types.Bytes = false
is_enum types.Float = false
is_enum types.Double = false
is_enum types.Message = false
is_enum types.Group = false
is_enum types.Enum = true

-- whether files declare the number as a value of the enum of that name
abbrev pub is_declared : List FileDescriptor → Text → ℤ → Bool
is_declared files name n = is_some (value_name files name n)

-- ---- presence

-- whether the message of that name stands in a file with the syntax proto3
abbrev pub stands_in_proto3 : List FileDescriptor → (message : Text) → Bool
stands_in_proto3 files message = path_in_proto3 files
    (option_map (λ (m : Standing MessageDescriptor). m.file) (message_named files message))

-- Whether the presence of a message's field is implicit (Protocol Buffers, "Application Note: Field
-- Presence"): in proto3, that of a field that is no extension, has no label `optional` and stands in
-- no oneof. The fields of a map's entry are always there.
abbrev pub is_implicit : List FileDescriptor → (message : Text) → FieldDescriptor → Bool
is_implicit files message f =
    not (is_some f.extendee) && not (is_some f.oneof_index) && not f.proto3_optional
    && not (entry_named files message) && stands_in_proto3 files message

-- ---- fields

-- a number that is a position
abbrev pub position_of : ℤ → Option ℕ
position_of (pos n) = Some n
position_of (negsuc n) = None

-- a field's declaration, in that message
abbrev pub declaration : List FileDescriptor → (message : Text) → FieldDescriptor → Declared
declaration files message f =
    let type_name = unwrap_or f.type_name [] in
    record {
      repeated = is_repeated f.label;
      implicit = is_implicit files message f;
      oneof = option_and_then position_of f.oneof_index;
      type_name = type_name;
      closed = is_enum f.type_ && closed_named files type_name;
      is_map = is_map_field files (is_repeated f.label) type_name;
    }

-- The declarations of the fields of the message of that name: of its own fields, and else of its
-- extensions. Numbers of fields are below 2^29.
unfoldable pub declared_in : List FileDescriptor → (message : Text) → FieldsByNumber
declared_in files message n = if nat_lt n (2 ^ 29)
    then option_map (declaration files message) (field_numbered files message (pos n))
    else None
