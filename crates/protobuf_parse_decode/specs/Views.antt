-- The Rust values as those of the definitions.
use Rattle.std.specs.Prelude.{ℕ, List, [], ◌∷◌, map}
use Rattle.protobuf_parse_decode.specs.declared.field.DecodedField as codef
use Rattle.protobuf_parse_decode.specs.declared.field.DecodedField.{fold-DecodedField}
use Rattle.protobuf_parse_decode.specs.declared.field.Meaning.TheOpen.{DecodedField-F, Meaning-F}
use Rattle.protobuf_parse_decode.specs.declared.field.Meaning.TheOpen.{Value-F}
use Rattle.protobuf_parse_decode.specs.Fields.{Value, Values, Meaning, Fields, number, float}
use Rattle.protobuf_parse_decode.specs.Fields.{double, truth, text, bytes, message, no_values}
use Rattle.protobuf_parse_decode.specs.Fields.{value, unknown, known, no_fields, field}

-- one field
pub record FieldItem : Type 0 where
  pub number : ℕ
  pub whole : List ℕ
  pub meaning : Meaning

-- fields in front of others
abbrev pub in_front : List FieldItem → Fields → Fields
in_front [] others = others
in_front (f ∷ fs) others = field f.number f.whole f.meaning (in_front fs others)

-- values in front of others
abbrev pub values_in_front : List Value → Values → Values
values_in_front [] others = others
values_in_front (v ∷ vs) others = value v (values_in_front vs others)

-- a value, what it holds already seen
abbrev pub value_step : Value-F Meaning Value FieldItem → Value
value_step (Value-F.Number u v) = number u v
value_step (Value-F.Float u) = float u
value_step (Value-F.Double u) = double u
value_step (Value-F.Bool u b) = truth u b
value_step (Value-F.Text t) = text t.now
value_step (Value-F.Bytes bs) = bytes bs.now
value_step (Value-F.Message fs) = message (in_front fs.items no_fields)

-- a meaning, what it holds already seen
abbrev pub meaning_step : Meaning-F Meaning Value FieldItem → Meaning
meaning_step Meaning-F.Unknown = unknown
meaning_step (Meaning-F.Known vs) = known (values_in_front vs.items no_values)

-- a field, what it holds already seen
abbrev pub field_step : DecodedField-F Meaning Value FieldItem → FieldItem
field_step f = record { number = f.number; whole = f.bytes.now; meaning = f.meaning }

-- a field
abbrev pub field_view : codef.DecodedField → FieldItem
field_view = fold-DecodedField Meaning Value FieldItem meaning_step value_step field_step

-- fields in order
abbrev pub fields_view : List codef.DecodedField → Fields
fields_view fs = in_front (map field_view fs) no_fields
