-- What follows where no change is listed.
use Rattle.std.specs.Prelude.{◌≡◌, ℕ, List, [], Some, Ok, IsTrue}
use Rattle.protobuf_parse_model.specs.Descriptors.{Text, FileDescriptor}
use Rattle.protobuf_parse_decode.specs.Declarations.{Enter, FieldsByNumber, entered}
use Rattle.protobuf_parse_decode.specs.Decoding.{decoded_message}
use Rattle.protobuf_parse_decode.specs.Fields.{Value, Values, Meaning, Fields, number, float}
use Rattle.protobuf_parse_decode.specs.Fields.{double, truth, text, bytes, message, no_values}
use Rattle.protobuf_parse_decode.specs.Fields.{value, unknown, known, no_fields, field}
use Rattle.protobuf_parse_wire_changes.specs.declared.strength.Strength.{Strength}
use Rattle.protobuf_parse_wire_changes.specs.Changes.{wire_changes}
use Rattle.protobuf_parse_wire_changes.specs.Partners.{declares, partner}
use Rattle.protobuf_parse_wire_changes.specs.Seen.{Settled, declared_by, seen}

-- Readers of the new files read what the old files say: of each message of these and the one of the
-- new files that goes with it, and of any bytes. What is decoded by the old files, with no unknown
-- field that the new ones declare, is decoded by the new files too, to the same fields as these
-- declare them.
abbrev pub ReadsOn : Strength → (old new : List FileDescriptor) → Type 0
ReadsOn st old new = (o n : Text) (bs : List ℕ) (fs : Fields) → partner old new o ≡ Some n
    → decoded_message old o bs ≡ Ok fs
    → Settled (entered new) (declared_by (entered new (Some n))) fs
    → decoded_message new n bs
    ≡ Ok (seen st (entered new) (declared_by (entered new (Some n))) fs)

-- With no change, readers of the new files read on.
abbrev pub OldBytesAreRead : Type 0
OldBytesAreRead = (st : Strength) (old new : List FileDescriptor)
    → wire_changes st old new ≡ [] → ReadsOn st old new

-- Messages of one full name that both files declare go together.
abbrev pub SameNamesGoTogether : Type 0
SameNamesGoTogether = (old new : List FileDescriptor) (name : Text)
    → IsTrue (declares old name) → IsTrue (declares new name) → partner old new name ≡ Some name

abbrev mutual
  -- No field is unknown, in messages inside neither.
  pub AllKnown : Fields → Type 0
  AllKnown no_fields = Unit {0}
  AllKnown (field n whole m fs) = MeaningKnown m × AllKnown fs

  -- the same of one record
  pub MeaningKnown : Meaning → Type 0
  MeaningKnown unknown = ⊥
  MeaningKnown (known vs) = ValuesKnown vs

  -- of values one after another
  pub ValuesKnown : Values → Type 0
  ValuesKnown no_values = Unit {0}
  ValuesKnown (value v vs) = ValueKnown v × ValuesKnown vs

  -- of one value: a message's fields
  pub ValueKnown : Value → Type 0
  ValueKnown (number u v) = Unit {0}
  ValueKnown (truth u b) = Unit {0}
  ValueKnown (float u) = Unit {0}
  ValueKnown (double u) = Unit {0}
  ValueKnown (text bs) = Unit {0}
  ValueKnown (bytes bs) = Unit {0}
  ValueKnown (message fs) = AllKnown fs

-- Where nothing is unknown, nothing is that new files declare.
abbrev pub KnownFieldsAreSettled : Type 0
KnownFieldsAreSettled = (new : Enter) (declared : FieldsByNumber) (fs : Fields)
    → AllKnown fs → Settled new declared fs
