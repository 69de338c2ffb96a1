-- The Rust values as those of the definitions.
use Rattle.std.specs.Prelude.{ℕ, List, map}
use Rattle.protobuf_parse_merged.specs.declared.message.Message as codemsg
use Rattle.protobuf_parse_merged.specs.declared.message.Message.{fold-Message}
use Rattle.protobuf_parse_merged.specs.declared.message.Unknown.{Unknown as codeunknown}
use Rattle.protobuf_parse_merged.specs.declared.message.Unknown.TheVariants as unknowns
use Rattle.protobuf_parse_merged.specs.declared.message.FieldValue.TheOpen.{Message-F, Field-F}
use Rattle.protobuf_parse_merged.specs.declared.message.FieldValue.TheOpen.{FieldValue-F}
use Rattle.protobuf_parse_merged.specs.Merged.{Unknown, record_of, word_of, Value, number, float}
use Rattle.protobuf_parse_merged.specs.Merged.{double, truth, text, bytes, message, Message}
use Rattle.protobuf_parse_merged.specs.Merged.{a_message, FieldItem, fields_of}

-- what is no value of a field
abbrev pub unknown_view : codeunknown → Unknown
unknown_view (unknowns.Record n bs) = record_of n bs.now
unknown_view (unknowns.Word n u) = word_of n u

-- a value, what it holds already seen
abbrev pub value_step : FieldValue-F Value FieldItem Message → Value
value_step (FieldValue-F.Number u v) = number u v
value_step (FieldValue-F.Float u) = float u
value_step (FieldValue-F.Double u) = double u
value_step (FieldValue-F.Bool b) = truth b
value_step (FieldValue-F.Text t) = text t.now
value_step (FieldValue-F.Bytes bs) = bytes bs.now
value_step (FieldValue-F.Message m) = message m

-- a field, what it holds already seen
abbrev pub field_step : Field-F Value FieldItem Message → FieldItem
field_step f = record { number = f.number; values = f.values.items }

-- a message, what it holds already seen
abbrev pub message_step : Message-F Value FieldItem Message → Message
message_step m = a_message (fields_of m.fields.items) (map unknown_view m.unknown.items)

-- a message
abbrev pub message_view : codemsg.Message → Message
message_view = fold-Message Value FieldItem Message value_step field_step message_step
