-- How the values of each type stand on the wire, and what they mean. Protocol Buffers Encoding
-- (https://protobuf.dev/programming-guides/encoding/), "More Integer Types", "Non-varint Numbers",
-- "Length-Delimited Records" and "Groups".
use Rattle.std.specs.Prelude.{ℕ, Bool, nat_lt, ◌%◌, ◌^◌}
use Rattle.std.specs.Int.{w32, w64}
use mir.Syntax.{Width}
use Rattle.protobuf_parse_model.specs.declared.descriptor.FieldType.{FieldType}
use Rattle.protobuf_parse_model.specs.declared.descriptor.FieldType.TheVariants as types
use Rattle.protobuf_parse_wire.specs.Kinds.{Word, varint, eight_bytes, four_bytes}
use Rattle.protobuf_parse_wire.specs.Kinds.{Code, unsigned, twos_complement, zigzag}
use Rattle.protobuf_parse_wire.specs.Reading.{decoded}
use Rattle.protobuf_parse_decode.specs.Fields.{Value, number, float, double, truth}

-- what a number on the wire means
abbrev pub Says : Type 0
Says = ℕ → Value

-- Numbers and truth values, in a varint or in a fixed count of bytes; strings, which have to be
-- UTF-8 or not; bytes; messages; groups.
pub data Sort : Type 0 where
  numbers : Word → Says → Sort
  string : (utf8 : Bool) → Sort
  octets : Sort
  message : Sort
  group : Sort

-- an integer of that width and encoding: as many of the low bits count
abbrev pub integer : Width → Code → Says
integer w code u = number u (decoded w code u)

-- each number but 0 is true
abbrev pub truth_value : Says
truth_value u = truth u (nat_lt 0 u)

-- the bits of a float
abbrev pub float_bits : Says
float_bits u = float (u % 2 ^ 32)

-- the bits of a double
abbrev pub double_bits : Says
double_bits u = double u

-- the sort of a type; a string's has to be UTF-8 or not
abbrev pub sort_of : (utf8 : Bool) → FieldType → Sort
sort_of utf8 types.Int32 = numbers varint (integer w32 twos_complement)
sort_of utf8 types.Int64 = numbers varint (integer w64 twos_complement)
sort_of utf8 types.Uint32 = numbers varint (integer w32 unsigned)
sort_of utf8 types.Uint64 = numbers varint (integer w64 unsigned)
sort_of utf8 types.Sint32 = numbers varint (integer w32 zigzag)
sort_of utf8 types.Sint64 = numbers varint (integer w64 zigzag)
sort_of utf8 types.Fixed32 = numbers four_bytes (integer w32 unsigned)
sort_of utf8 types.Sfixed32 = numbers four_bytes (integer w32 twos_complement)
sort_of utf8 types.Fixed64 = numbers eight_bytes (integer w64 unsigned)
sort_of utf8 types.Sfixed64 = numbers eight_bytes (integer w64 twos_complement)
sort_of utf8 types.Bool = numbers varint truth_value
sort_of utf8 types.Enum = numbers varint (integer w32 twos_complement)
sort_of utf8 types.Float = numbers four_bytes float_bits
sort_of utf8 types.Double = numbers eight_bytes double_bits
sort_of utf8 types.String = string utf8
sort_of utf8 types.Bytes = octets
sort_of utf8 types.Message = message
sort_of utf8 types.Group = group
