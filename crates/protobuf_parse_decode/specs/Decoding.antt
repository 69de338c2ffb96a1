-- What the records of a message mean by descriptors. Protocol Buffers Encoding
-- (https://protobuf.dev/programming-guides/encoding/), "Message Structure", "Packed Repeated
-- Fields", "Submessages" and "Groups". What no declaration explains is unknown, and no fault.
use Rattle.std.specs.Prelude.{ℕ, zero, suc, Bool, true, false, List, [], ◌∷◌, length}
use Rattle.std.specs.Prelude.{Option, Some, None, Ok, if◌then◌else◌}
use Rattle.std.specs.Str.{is_utf8}
use Rattle.protobuf_parse_records.specs.declared.fault.FaultKind.TheVariants as records
use Rattle.protobuf_parse_records.specs.Views.{Extent, Content, WireRecord}
use Rattle.protobuf_parse_records.specs.Views as content
use Rattle.protobuf_parse_records.specs.Wire.{◌>>=◌, varint_at, fixed32_at, fixed64_at}
use Rattle.protobuf_parse_records.specs.Wire as wire
use Rattle.protobuf_parse_records.specs.Splitting.{records_in}
use Rattle.protobuf_parse_model.specs.Descriptors.{Text, FileDescriptor}
use Rattle.protobuf_parse_wire.specs.Kinds.{Word, varint, eight_bytes, four_bytes}
use Rattle.protobuf_parse_decode.specs.declared.fault.DecodeFaultKind.TheVariants as kind
use Rattle.protobuf_parse_decode.specs.Answers.{Answer, fault, found, on_wire}
use Rattle.protobuf_parse_decode.specs.Fields.{Value, Values, Meaning, Fields, text, bytes}
use Rattle.protobuf_parse_decode.specs.Fields.{no_values, value, unknown, known, no_fields, field}
use Rattle.protobuf_parse_decode.specs.Fields.{one_value}
use Rattle.protobuf_parse_decode.specs.Fields as fields
use Rattle.protobuf_parse_decode.specs.Sorts.{Says, Sort, numbers, string, octets, message, group}
use Rattle.protobuf_parse_decode.specs.Declarations.{Declared, Enter, FieldsByNumber, entered}

-- ---- numbers

-- a number that stands so, at the front, and what stands behind it
abbrev pub word_at : Word → Extent → wire.Answer (ℕ × Extent)
word_at varint s = varint_at s
word_at eight_bytes s = fixed64_at s
word_at four_bytes s = fixed32_at s

-- numbers one behind the other up to the end, at most so many
unfoldable pub packed_within : Word → Says → ℕ → (start : ℕ) → List ℕ → Answer Values
packed_within w says most start [] = Ok no_values
packed_within w says zero start (b ∷ bs) = fault start (kind.NoRecords records.Truncated)
packed_within w says (suc most) start (b ∷ bs) = do
  first ← on_wire (word_at w (record { start = start; bytes = b ∷ bs }))
  others ← packed_within w says most first.1.start first.1.bytes
  Ok (value (says first.0) others)

-- packed numbers; each has a byte or more, so there are no more than bytes
abbrev pub packed : Word → Says → Extent → Answer Values
packed w says s = packed_within w says (length s.bytes) s.start s.bytes

-- whether numbers stand alike
abbrev pub same_word : Word → Word → Bool
same_word varint varint = true
same_word varint eight_bytes = false
same_word varint four_bytes = false
same_word eight_bytes varint = false
same_word eight_bytes eight_bytes = true
same_word eight_bytes four_bytes = false
same_word four_bytes varint = false
same_word four_bytes eight_bytes = false
same_word four_bytes four_bytes = true

-- one value, where it stands as it should
abbrev pub if_same : Bool → Value → Answer Meaning
if_same true v = Ok (one_value v)
if_same false v = Ok unknown

-- a number, or where the field is repeated packed ones
abbrev pub numbers_in : Word → Says → (repeated : Bool) → Content → Answer Meaning
numbers_in w says repeated (content.varint n) = if_same (same_word w varint) (says n)
numbers_in w says repeated (content.fixed64 n) = if_same (same_word w eight_bytes) (says n)
numbers_in w says repeated (content.fixed32 n) = if_same (same_word w four_bytes) (says n)
numbers_in w says true (content.delimited s) = do
  vs ← packed w says s
  Ok (known vs)
numbers_in w says false (content.delimited s) = Ok unknown
numbers_in w says repeated (content.group s) = Ok unknown

-- ---- strings and bytes

-- bytes behind their length
abbrev pub bytes_in : Content → Answer Meaning
bytes_in (content.delimited s) = Ok (one_value (bytes s.bytes))
bytes_in (content.varint n) = Ok unknown
bytes_in (content.fixed64 n) = Ok unknown
bytes_in (content.fixed32 n) = Ok unknown
bytes_in (content.group s) = Ok unknown

-- a text
abbrev pub text_in : Content → Answer Meaning
text_in (content.delimited s) =
    if is_utf8 s.bytes then Ok (one_value (text s.bytes)) else fault s.start kind.NotUtf8
text_in (content.varint n) = Ok unknown
text_in (content.fixed64 n) = Ok unknown
text_in (content.fixed32 n) = Ok unknown
text_in (content.group s) = Ok unknown

-- a string, which has to be UTF-8, or else is any bytes
abbrev pub string_in : (utf8 : Bool) → Content → Answer Meaning
string_in true p = text_in p
string_in false p = bytes_in p

-- ---- messages

-- what such bytes mean as the message of that name, which a record at that offset holds
abbrev pub Inner : Type 0
Inner = (at : ℕ) → Option Text → Extent → Answer Fields

-- a message behind its length
abbrev pub message_in : Inner → ℕ → Option Text → Content → Answer Meaning
message_in inner at name (content.delimited s) = do
  fs ← inner at name s
  Ok (one_value (fields.message fs))
message_in inner at name (content.varint n) = Ok unknown
message_in inner at name (content.fixed64 n) = Ok unknown
message_in inner at name (content.fixed32 n) = Ok unknown
message_in inner at name (content.group s) = Ok unknown

-- a group
abbrev pub group_in : Inner → ℕ → Option Text → Content → Answer Meaning
group_in inner at name (content.group s) = do
  fs ← inner at name s
  Ok (one_value (fields.message fs))
group_in inner at name (content.varint n) = Ok unknown
group_in inner at name (content.fixed64 n) = Ok unknown
group_in inner at name (content.fixed32 n) = Ok unknown
group_in inner at name (content.delimited s) = Ok unknown

-- what a payload means, by the sort of its field and by whether that is repeated
unfoldable pub by_sort : Inner → ℕ → Option Text → (repeated : Bool) → Sort → Content
    → Answer Meaning
by_sort inner at name repeated (numbers w says) p = numbers_in w says repeated p
by_sort inner at name repeated (string utf8) p = string_in utf8 p
by_sort inner at name repeated octets p = bytes_in p
by_sort inner at name repeated message p = message_in inner at name p
by_sort inner at name repeated group p = group_in inner at name p

-- what a record means, by the declaration of its field, if there is one
unfoldable pub meaning_of : Inner → Option Declared → WireRecord → Answer Meaning
meaning_of inner None r = Ok unknown
meaning_of inner (Some f) r =
    by_sort inner r.whole.start f.type_name f.repeated f.sort r.content

-- what each record means, in order
unfoldable pub fields_of : Inner → FieldsByNumber → List WireRecord → Answer Fields
fields_of inner declared [] = Ok no_fields
fields_of inner declared (r ∷ rs) = do
  meaning ← meaning_of inner (declared r.number) r
  others ← fields_of inner declared rs
  Ok (field r.number r.whole.bytes meaning others)

-- A message of that name, of at most so many levels of messages and groups, itself one. It has to
-- be declared; its bytes are split into records, and these are taken one after another.
unfoldable pub message_within : Enter → (levels : ℕ) → Inner
message_within enter zero at name s = fault at kind.TooDeep
message_within enter (suc levels) at name s = do
  declared ← found at (enter name)
  rs ← on_wire (records_in s)
  fields_of (message_within enter levels) declared rs

-- what the bytes of a message mean, by the files that declare it
abbrev pub decoded_message : List FileDescriptor → (name : Text) → List ℕ → Answer Fields
decoded_message files name bs =
    message_within (entered files) 100 0 (Some name) (record { start = 0; bytes = bs })
