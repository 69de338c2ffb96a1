-- No public clause rests on this file.
-- What the code passes on, as the definitions have it.
use Rattle.std.specs.Prelude.{List, map}
use Rattle.std.specs.Option.{option_copied}
use Rattle.protobuf_parse_wire.specs.Kinds.{Word, varint, eight_bytes, four_bytes}
use Rattle.protobuf_parse_decode.specs.declared.declared.Declared as codedecl
use Rattle.protobuf_parse_decode.specs.declared.field.Value as codev
use Rattle.protobuf_parse_decode.specs.declared.field.Value.{fold-Value}
use Rattle.protobuf_parse_decode.specs.declared.field.Meaning as codem
use Rattle.protobuf_parse_decode.specs.declared.field.Meaning.{fold-Meaning}
use Rattle.protobuf_parse_decode.specs.declared.numbers.Word as codew
use Rattle.protobuf_parse_decode.specs.declared.numbers.Word.TheVariants as words
use Rattle.protobuf_parse_decode.specs.Declarations.{Declared}
use Rattle.protobuf_parse_decode.specs.Fields.{Value, Values, Meaning, no_values}
use Rattle.protobuf_parse_decode.specs.Sorts.{sort_of}
use Rattle.protobuf_parse_decode.specs.Views.{FieldItem, field_step, meaning_step, value_step}
use Rattle.protobuf_parse_decode.specs.Views.{values_in_front}

-- what a record means
abbrev pub meaning_view : codem.Meaning → Meaning
meaning_view = fold-Meaning Meaning Value FieldItem meaning_step value_step field_step

-- a value
abbrev pub value_view : codev.Value → Value
value_view = fold-Value Meaning Value FieldItem meaning_step value_step field_step

-- values in order
abbrev pub values_view : List codev.Value → Values
values_view vs = values_in_front (map value_view vs) no_values

-- how a number stands
abbrev pub word_view : codew.Word → Word
word_view words.Varint = varint
word_view words.EightBytes = eight_bytes
word_view words.FourBytes = four_bytes

-- a declaration
abbrev pub declared_view : codedecl.Declared → Declared
declared_view d = record {
  sort = sort_of d.utf8 d.field_type;
  repeated = d.repeated;
  type_name = option_copied d.type_name;
}
