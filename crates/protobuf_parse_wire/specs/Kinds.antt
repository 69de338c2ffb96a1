-- How each kind of value stands on the wire: the table of Protocol Buffers Encoding, "Message
-- Structure", "More Integer Types" and "Condensed Reference Card"
-- (https://protobuf.dev/programming-guides/encoding/).
use Rattle.std.specs.Prelude.{ℕ, ℤ, pos, negsuc, nat_lt, ◌^◌, Bool, false, Option, Some, None}
use Rattle.std.specs.Prelude.{IsTrue}
use Rattle.std.specs.Int.{w32, w64}
use mir.Syntax.{Width}
use mir.Val.{bits, hbits}
use Rattle.protobuf_parse_model.specs.declared.descriptor.FieldType.{FieldType}
use Rattle.protobuf_parse_model.specs.declared.descriptor.FieldType.TheVariants as types
use Rattle.protobuf_parse_wire.specs.declared.kind.Kind.{Kind}
use Rattle.protobuf_parse_wire.specs.declared.kind.Kind.TheVariants as kinds

-- where a whole number stands: in a varint, or in a fixed count of bytes
pub data Word : Type 0 where
  varint : Word
  eight_bytes : Word
  four_bytes : Word

-- how a whole number is turned into one without a sign
pub data Code : Type 0 where
  unsigned : Code
  twos_complement : Code
  zigzag : Code

-- the values of a kind: whole numbers of 32 or 64 bits, truth values, texts, bytes or messages
pub data KindShape : Type 0 where
  whole : Word → Width → Code → KindShape
  truth : KindShape
  text : KindShape
  octets : KindShape
  message : KindShape

-- how values of a field's type stand on the wire; those of floats and groups aren't read
abbrev pub shape_of_type : FieldType → Option KindShape
shape_of_type types.Int32 = Some (whole varint w32 twos_complement)
shape_of_type types.Int64 = Some (whole varint w64 twos_complement)
shape_of_type types.Uint32 = Some (whole varint w32 unsigned)
shape_of_type types.Uint64 = Some (whole varint w64 unsigned)
shape_of_type types.Sint32 = Some (whole varint w32 zigzag)
shape_of_type types.Sint64 = Some (whole varint w64 zigzag)
shape_of_type types.Fixed32 = Some (whole four_bytes w32 unsigned)
shape_of_type types.Sfixed32 = Some (whole four_bytes w32 twos_complement)
shape_of_type types.Fixed64 = Some (whole eight_bytes w64 unsigned)
shape_of_type types.Sfixed64 = Some (whole eight_bytes w64 twos_complement)
shape_of_type types.Bool = Some truth
shape_of_type types.String = Some text
shape_of_type types.Bytes = Some octets
shape_of_type types.Enum = Some (whole varint w32 twos_complement)
shape_of_type types.Message = Some message
shape_of_type types.Float = None
shape_of_type types.Double = None
shape_of_type types.Group = None

-- the same of what is written, by its kind
abbrev pub shape_of_kind : Kind → KindShape
shape_of_kind kinds.Int32 = whole varint w32 twos_complement
shape_of_kind kinds.Int64 = whole varint w64 twos_complement
shape_of_kind kinds.Uint32 = whole varint w32 unsigned
shape_of_kind kinds.Uint64 = whole varint w64 unsigned
shape_of_kind kinds.Sint32 = whole varint w32 zigzag
shape_of_kind kinds.Sint64 = whole varint w64 zigzag
shape_of_kind kinds.Fixed32 = whole four_bytes w32 unsigned
shape_of_kind kinds.Sfixed32 = whole four_bytes w32 twos_complement
shape_of_kind kinds.Fixed64 = whole eight_bytes w64 unsigned
shape_of_kind kinds.Sfixed64 = whole eight_bytes w64 twos_complement
shape_of_kind kinds.Bool = truth
shape_of_kind kinds.String = text
shape_of_kind kinds.Bytes = octets
shape_of_kind kinds.Enum = whole varint w32 twos_complement
shape_of_kind kinds.Message = message

-- the wire type in the tag: VARINT, I64, LEN or I32
abbrev pub wire_type : KindShape → ℕ
wire_type (whole varint w c) = 0
wire_type (whole eight_bytes w c) = 1
wire_type (whole four_bytes w c) = 5
wire_type truth = 0
wire_type text = 2
wire_type octets = 2
wire_type message = 2

-- the kind of a field's type; floats and groups have none
abbrev pub kind_of_field_type : FieldType → Option Kind
kind_of_field_type types.Int32 = Some kinds.Int32
kind_of_field_type types.Int64 = Some kinds.Int64
kind_of_field_type types.Uint32 = Some kinds.Uint32
kind_of_field_type types.Uint64 = Some kinds.Uint64
kind_of_field_type types.Sint32 = Some kinds.Sint32
kind_of_field_type types.Sint64 = Some kinds.Sint64
kind_of_field_type types.Fixed32 = Some kinds.Fixed32
kind_of_field_type types.Sfixed32 = Some kinds.Sfixed32
kind_of_field_type types.Fixed64 = Some kinds.Fixed64
kind_of_field_type types.Sfixed64 = Some kinds.Sfixed64
kind_of_field_type types.Bool = Some kinds.Bool
kind_of_field_type types.String = Some kinds.String
kind_of_field_type types.Bytes = Some kinds.Bytes
kind_of_field_type types.Enum = Some kinds.Enum
kind_of_field_type types.Message = Some kinds.Message
kind_of_field_type types.Float = None
kind_of_field_type types.Double = None
kind_of_field_type types.Group = None

-- from 0 up to before 2 ^ 32 or 2 ^ 64
abbrev pub fits_unsigned : Width → ℤ → Bool
fits_unsigned w (pos n) = nat_lt n (2 ^ bits w)
fits_unsigned w (negsuc n) = false

-- from -2 ^ 31 up to before 2 ^ 31, or the same of 63; `negsuc n` is -1 - n
abbrev pub fits_signed : Width → ℤ → Bool
fits_signed w (pos n) = nat_lt n (2 ^ hbits w)
fits_signed w (negsuc n) = nat_lt n (2 ^ hbits w)

-- the range of a kind's whole numbers; no other kind has any
abbrev pub fits : KindShape → ℤ → Bool
fits (whole word w unsigned) v = fits_unsigned w v
fits (whole word w twos_complement) v = fits_signed w v
fits (whole word w zigzag) v = fits_signed w v
fits truth v = false
fits text v = false
fits octets v = false
fits message v = false

-- a field of that kind can hold the number
abbrev pub InRange : KindShape → ℤ → Type 0
InRange s v = IsTrue (fits s v)
