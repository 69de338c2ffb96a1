-- Where nothing is unknown, nothing is that new files declare.
use Rattle.std.proofs.Common.{Option, Some, None}
use Rattle.protobuf_parse_decode.specs.Declarations.{Declared, Enter}
use Rattle.protobuf_parse_decode.specs.Fields.{Value, Values, Meaning, number, float}
use Rattle.protobuf_parse_decode.specs.Fields.{double, truth, text, bytes, message, no_values}
use Rattle.protobuf_parse_decode.specs.Fields.{value, unknown, known, no_fields, field}
use Rattle.protobuf_parse_wire_changes.specs.Laws.{KnownFieldsAreSettled, MeaningKnown}
use Rattle.protobuf_parse_wire_changes.specs.Laws.{ValueKnown, ValuesKnown}
use Rattle.protobuf_parse_wire_changes.specs.Seen.{MeaningSettled, ValueSettled}
use Rattle.protobuf_parse_wire_changes.specs.Seen.{ValuesSettled, declared_by}

mutual
  pub known_fields_are_settled : KnownFieldsAreSettled
  known_fields_are_settled new declared no_fields h = tt
  known_fields_are_settled new declared (field n whole m fs) h =
      (meaning_settled new (declared n) m h.0, known_fields_are_settled new declared fs h.1)

  meaning_settled : (new : Enter) (d : Option Declared) (m : Meaning) → MeaningKnown m
      → MeaningSettled new d m
  meaning_settled new None m h = tt
  meaning_settled new (Some f) unknown h = h
  meaning_settled new (Some f) (known vs) h = values_settled new f vs h

  values_settled : (new : Enter) (f : Declared) (vs : Values) → ValuesKnown vs
      → ValuesSettled new f vs
  values_settled new f no_values h = tt
  values_settled new f (value v vs) h = (value_settled new f v h.0, values_settled new f vs h.1)

  value_settled : (new : Enter) (f : Declared) (v : Value) → ValueKnown v → ValueSettled new f v
  value_settled new f (number u v) h = tt
  value_settled new f (truth u b) h = tt
  value_settled new f (float u) h = tt
  value_settled new f (double u) h = tt
  value_settled new f (text bs) h = tt
  value_settled new f (bytes bs) h = tt
  value_settled new f (message fs) h =
      known_fields_are_settled new (declared_by (new f.type_name)) fs h
