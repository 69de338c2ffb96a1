-- What stands for the key and for the value that an entry of a map doesn't have. Protocol Buffers
-- Encoding (https://protobuf.dev/programming-guides/encoding/), "Maps"; Language Guide, "Default
-- Field Values".
use Rattle.std.specs.Prelude.{ℕ, ℤ, pos, Bool, false, List, [], ◌∷◌, ◌++◌, Option, Some, None}
use Rattle.std.specs.Prelude.{option_map, unwrap_or, if◌then◌else◌}
use Rattle.std.specs.Int.{w64, cast_unsigned}
use Rattle.protobuf_parse_model.specs.Descriptors.{Text, FileDescriptor, FieldDescriptor}
use Rattle.protobuf_parse_model.specs.Descriptors.{EnumDescriptor, EnumValueDescriptor}
use Rattle.protobuf_parse_model.specs.declared.descriptor.FieldType.{FieldType}
use Rattle.protobuf_parse_model.specs.declared.descriptor.FieldType.TheVariants as types
use Rattle.protobuf_parse_index.specs.Lookups.{enum_named, field_numbered}
use Rattle.protobuf_parse_index.specs.Walk.{Standing}
use Rattle.protobuf_parse_decode.specs.Fields as decoded
use Rattle.protobuf_parse_merged.specs.Merged.{Value, number, float, double, truth, text, bytes}
use Rattle.protobuf_parse_merged.specs.Declarations.{entry_named, stands_in_proto3}
use Rattle.protobuf_parse_merged.specs.Occurrences.{Held, plain, inside, Occurrence}

-- ---- the defaults of types

-- the number of the first of some values of an enum
abbrev pub first_of : List EnumValueDescriptor → ℤ
first_of [] = pos 0
first_of (v ∷ vs) = v.number

-- the values of the enum of that name
abbrev pub values_named : List FileDescriptor → Text → List EnumValueDescriptor
values_named files name = unwrap_or
    (option_map (λ (e : Standing EnumDescriptor). e.what.value) (enum_named files name)) []

-- a number of an enum; on the wire it has 64 bits
abbrev pub enum_number : ℤ → Value
enum_number n = number (cast_unsigned w64 n) n

-- the empty string, a text or bytes
abbrev pub empty_string : (is_text : Bool) → Value
empty_string is_text = if is_text then text [] else bytes []

-- the default of that type in an entry; of an enum it is the first value that is declared
abbrev pub default_of : List FileDescriptor → (entry type_name : Text) → FieldType → Held
default_of files entry type_name types.Int32 = plain (number 0 (pos 0))
default_of files entry type_name types.Int64 = plain (number 0 (pos 0))
default_of files entry type_name types.Uint32 = plain (number 0 (pos 0))
default_of files entry type_name types.Uint64 = plain (number 0 (pos 0))
default_of files entry type_name types.Sint32 = plain (number 0 (pos 0))
default_of files entry type_name types.Sint64 = plain (number 0 (pos 0))
default_of files entry type_name types.Fixed32 = plain (number 0 (pos 0))
default_of files entry type_name types.Fixed64 = plain (number 0 (pos 0))
default_of files entry type_name types.Sfixed32 = plain (number 0 (pos 0))
default_of files entry type_name types.Sfixed64 = plain (number 0 (pos 0))
default_of files entry type_name types.Bool = plain (truth false)
default_of files entry type_name types.Enum =
    plain (enum_number (first_of (values_named files type_name)))
default_of files entry type_name types.Float = plain (float 0)
default_of files entry type_name types.Double = plain (double 0)
default_of files entry type_name types.String = plain (empty_string (stands_in_proto3 files entry))
default_of files entry type_name types.Bytes = plain (bytes [])
default_of files entry type_name types.Message = inside decoded.no_fields
default_of files entry type_name types.Group = inside decoded.no_fields

-- ---- entries

-- the default of an entry's field with that number, if it is declared
abbrev pub default_at : List FileDescriptor → (entry : Text) → ℕ → Option FieldDescriptor
    → List Occurrence
default_at files entry n None = []
default_at files entry n (Some f) = record {
  number = n;
  oneof = None;
  held = default_of files entry (unwrap_or f.type_name []) f.type_;
} ∷ []

-- The defaults of a map's key and of its value stand in front of what an entry holds, so that they
-- are there where it has none. In any other message nothing does.
abbrev pub defaults : List FileDescriptor → (message : Text) → List Occurrence
defaults files message = if entry_named files message
    then default_at files message 1 (field_numbered files message (pos 1))
    ++ default_at files message 2 (field_numbered files message (pos 2))
    else []
