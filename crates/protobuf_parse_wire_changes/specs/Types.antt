-- Which types can take one another's place. Protocol Buffers Encoding
-- (https://protobuf.dev/programming-guides/encoding/), "More Integer Types" and "Condensed
-- Reference Card"; Language Guide, "Updating A Message Type".
use Rattle.std.specs.Prelude.{Bool, true, false}
use Rattle.protobuf_parse_model.specs.declared.descriptor.FieldType.{FieldType}
use Rattle.protobuf_parse_model.specs.declared.descriptor.FieldType.TheVariants as types
use Rattle.protobuf_parse_wire_changes.specs.declared.strength.Strength.{Strength}
use Rattle.protobuf_parse_wire_changes.specs.declared.strength.Strength.TheVariants as strength

-- One type for those whose values stay: an enum's are an `int32`'s, and text and bytes are bytes.
abbrev pub type_of_values : FieldType → FieldType
type_of_values types.Enum = types.Int32
type_of_values types.Bytes = types.String
type_of_values t = t

-- One type for those in which the same bytes mean numbers by the same rules, but for how many of
-- the bits count and whether there is a sign.
abbrev pub type_of_family : FieldType → FieldType
type_of_family types.Int64 = types.Int32
type_of_family types.Uint32 = types.Int32
type_of_family types.Uint64 = types.Int32
type_of_family types.Bool = types.Int32
type_of_family types.Enum = types.Int32
type_of_family types.Sint64 = types.Sint32
type_of_family types.Sfixed32 = types.Fixed32
type_of_family types.Sfixed64 = types.Fixed64
type_of_family types.Bytes = types.String
type_of_family t = t

-- one type for those that can take one another's place
abbrev pub type_for : Strength → FieldType → FieldType
type_for strength.Exact t = type_of_values t
type_for strength.Family t = type_of_family t

-- whether two types are one
abbrev pub same_type : FieldType → FieldType → Bool
same_type types.Int32 types.Int32 = true
same_type types.Int64 types.Int64 = true
same_type types.Uint32 types.Uint32 = true
same_type types.Uint64 types.Uint64 = true
same_type types.Sint32 types.Sint32 = true
same_type types.Sint64 types.Sint64 = true
same_type types.Fixed32 types.Fixed32 = true
same_type types.Sfixed32 types.Sfixed32 = true
same_type types.Fixed64 types.Fixed64 = true
same_type types.Sfixed64 types.Sfixed64 = true
same_type types.Bool types.Bool = true
same_type types.String types.String = true
same_type types.Bytes types.Bytes = true
same_type types.Float types.Float = true
same_type types.Double types.Double = true
same_type types.Message types.Message = true
same_type types.Enum types.Enum = true
same_type types.Group types.Group = true
same_type t u = false

-- whether a type can take another one's place
abbrev pub takes_place : Strength → FieldType → FieldType → Bool
takes_place s old new = same_type (type_for s old) (type_for s new)
