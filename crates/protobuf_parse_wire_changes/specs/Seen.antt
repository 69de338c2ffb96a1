-- What a reader with new files sees of fields that one with old files decoded.
use Rattle.std.specs.Prelude.{ℕ, Bool, false, List, Option, Some, None, if◌then◌else◌}
use Rattle.protobuf_parse_decode.specs.Declarations.{Declared, Enter, FieldsByNumber}
use Rattle.protobuf_parse_decode.specs.Fields.{Value, Values, Meaning, Fields, number, float}
use Rattle.protobuf_parse_decode.specs.Fields.{double, truth, text, bytes, message, no_values}
use Rattle.protobuf_parse_decode.specs.Fields.{value, unknown, known, no_fields, field}
use Rattle.protobuf_parse_decode.specs.Sorts.{Sort, numbers, string, octets, group}
use Rattle.protobuf_parse_decode.specs.Sorts as sorts
use Rattle.protobuf_parse_wire_changes.specs.declared.strength.Strength.{Strength}
use Rattle.protobuf_parse_wire_changes.specs.declared.strength.Strength.TheVariants as strength

-- the fields of a message, and none where there is no such message
abbrev pub declared_by : Option FieldsByNumber → FieldsByNumber
declared_by (Some declared) = declared
declared_by None = λ n. None

-- ---- values

-- A number or a truth value, read again in a field of that sort: what was on the wire, by the new
-- field's type. All other values stay.
abbrev pub read_again : Sort → Value → Value
read_again (numbers w says) (number u v) = says u
read_again (numbers w says) (truth u b) = says u
read_again s v = v

-- A number or a truth value in a field of that sort. By `Exact` it is as it was.
abbrev pub number_seen : Strength → Sort → Value → Value
number_seen strength.Exact s v = v
number_seen strength.Family s v = read_again s v

-- whether it is a string's sort that has to be UTF-8
abbrev pub has_to_be_utf8 : Sort → Bool
has_to_be_utf8 (string utf8) = utf8
has_to_be_utf8 (numbers w says) = false
has_to_be_utf8 octets = false
has_to_be_utf8 sorts.message = false
has_to_be_utf8 group = false

-- A text in a field of that sort. It is told as bytes where it needn't be UTF-8.
abbrev pub text_seen : Sort → List ℕ → Value
text_seen s bs = if has_to_be_utf8 s then text bs else bytes bs

-- ---- fields

abbrev mutual
  -- Each field keeps its number, its bytes and its place. What the new message doesn't declare is
  -- unknown.
  pub seen : Strength → Enter → FieldsByNumber → Fields → Fields
  seen st new declared no_fields = no_fields
  seen st new declared (field n whole m fs) =
      field n whole (meaning_seen st new (declared n) m) (seen st new declared fs)

  -- what a record means by the new declaration of its field, if there is one
  pub meaning_seen : Strength → Enter → Option Declared → Meaning → Meaning
  meaning_seen st new None m = unknown
  meaning_seen st new (Some f) unknown = unknown
  meaning_seen st new (Some f) (known vs) = known (values_seen st new f vs)

  -- values one after another
  pub values_seen : Strength → Enter → Declared → Values → Values
  values_seen st new f no_values = no_values
  values_seen st new f (value v vs) = value (value_seen st new f v) (values_seen st new f vs)

  -- one value; a message as the new field's message
  pub value_seen : Strength → Enter → Declared → Value → Value
  value_seen st new f (number u v) = number_seen st f.sort (number u v)
  value_seen st new f (truth u b) = number_seen st f.sort (truth u b)
  value_seen st new f (float u) = float u
  value_seen st new f (double u) = double u
  value_seen st new f (text bs) = text_seen f.sort bs
  value_seen st new f (bytes bs) = bytes bs
  value_seen st new f (message fs) = message (seen st new (declared_by (new f.type_name)) fs)

-- ---- what was unknown

abbrev mutual
  -- No field is unknown whose number the new message declares, in messages inside neither.
  pub Settled : Enter → FieldsByNumber → Fields → Type 0
  Settled new declared no_fields = Unit {0}
  Settled new declared (field n whole m fs) =
      MeaningSettled new (declared n) m × Settled new declared fs

  -- the same of one record, by the new declaration of its field
  pub MeaningSettled : Enter → Option Declared → Meaning → Type 0
  MeaningSettled new None m = Unit {0}
  MeaningSettled new (Some f) unknown = ⊥
  MeaningSettled new (Some f) (known vs) = ValuesSettled new f vs

  -- of values one after another
  pub ValuesSettled : Enter → Declared → Values → Type 0
  ValuesSettled new f no_values = Unit {0}
  ValuesSettled new f (value v vs) = ValueSettled new f v × ValuesSettled new f vs

  -- of one value: a message's fields, as the new field's message
  pub ValueSettled : Enter → Declared → Value → Type 0
  ValueSettled new f (number u v) = Unit {0}
  ValueSettled new f (truth u b) = Unit {0}
  ValueSettled new f (float u) = Unit {0}
  ValueSettled new f (double u) = Unit {0}
  ValueSettled new f (text bs) = Unit {0}
  ValueSettled new f (bytes bs) = Unit {0}
  ValueSettled new f (message fs) = Settled new (declared_by (new f.type_name)) fs
