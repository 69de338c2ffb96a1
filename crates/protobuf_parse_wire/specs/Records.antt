-- What the bytes of a message say, without the reader's own steps: records, one behind the other,
-- up to the last byte, each a tag and the payload of a field. Protocol Buffers Encoding, "Message
-- Structure", "More Integer Types" and "Length-Delimited Records"
-- (https://protobuf.dev/programming-guides/encoding/). The first record that is wrong is the fault.
use Rattle.std.specs.Prelude.{◌≡◌, ◌⊎◌, ◌↔◌, ℕ, zero, suc, ◌+◌, ◌*◌, ◌<◌, ◌≤◌, List, ◌++◌, length}
use Rattle.std.specs.Prelude.{Option, Some, Ok, Err, nat_lt}
use Rattle.std.specs.Int.{w32, w64, from_le_bytes}
use Rattle.std.specs.Str.{IsUtf8}
use Rattle.protobuf_parse_grammar.specs.Relations.{Many}
use Rattle.protobuf_parse_model.specs.Descriptors.{Text, FieldDescriptor}
use Rattle.protobuf_parse_wire.specs.declared.fault.ReadFault.{ReadFault}
use Rattle.protobuf_parse_wire.specs.Kinds.{Word, varint, eight_bytes, four_bytes, KindShape}
use Rattle.protobuf_parse_wire.specs.Kinds.{whole, truth, text, octets, message, shape_of_type}
use Rattle.protobuf_parse_wire.specs.Kinds.{wire_type}
use Rattle.protobuf_parse_wire.specs.Trees as trees
use Rattle.protobuf_parse_wire.specs.Trees.{ValueTree, Field, fields_of_list}
use Rattle.protobuf_parse_wire.specs.Reading.{WireRead, FieldsByNumber, decoded, record_at}
use Rattle.protobuf_parse_wire.specs.Reading.{message_at}
use Rattle.protobuf_parse_wire.specs.Varints.{IsAnyVarint}

-- ---- payloads

-- The bytes are the unsigned number: a varint of it, or eight or four bytes in little-endian order.
abbrev pub IsWord : Word → List ℕ → ℕ → Type 0
IsWord varint bs u = IsAnyVarint bs u
IsWord eight_bytes bs u = (length bs ≡ 8) × (u ≡ from_le_bytes w64 bs)
IsWord four_bytes bs u = (length bs ≡ 4) × (u ≡ from_le_bytes w32 bs)

-- The bytes are a varint with a length, and as many bytes.
pub record IsDelimited (bs inside : List ℕ) : Type 0 where
  pub front : List ℕ
  pub parts : bs ≡ front ++ inside
  pub length_first : IsAnyVarint front (length inside)

-- whether the bytes of the message so named say the fields
abbrev pub MessageSays : Type 1
MessageSays = Option Text → List ℕ → List Field → Type 0

-- The bytes are a payload that says the value: the number in a word, whether a number is above 0, a
-- text in UTF-8, any bytes, or the fields of the message so named.
abbrev pub IsPayload : MessageSays → Option Text → KindShape → List ℕ → ValueTree → Type 0
IsPayload inside_says name (whole word w code) bs v =
    (u : ℕ) × IsWord word bs u × (v ≡ trees.number (decoded w code u))
IsPayload inside_says name truth bs v =
    (u : ℕ) × IsAnyVarint bs u × (v ≡ trees.truth (nat_lt 0 u))
IsPayload inside_says name text bs v =
    (inside : List ℕ) × IsDelimited bs inside × IsUtf8 inside × (v ≡ trees.bytes inside)
IsPayload inside_says name octets bs v =
    (inside : List ℕ) × IsDelimited bs inside × (v ≡ trees.bytes inside)
IsPayload inside_says name message bs v =
    (inside : List ℕ) × (fields : List Field) × IsDelimited bs inside
    × inside_says name inside fields × (v ≡ trees.message (fields_of_list fields))

-- ---- records

-- The bytes are a record with the field: a tag, which is eight times the number and the wire type,
-- and a payload, both as the type asks that the message's field with this number has.
pub record IsRecord (inside_says : MessageSays) (numbers : FieldsByNumber) (bs : List ℕ)
    (f : Field) : Type 0 where
  pub declared : FieldDescriptor
  pub shape : KindShape
  pub tag : List ℕ
  pub payload : List ℕ
  pub parts : bs ≡ tag ++ payload
  pub number : numbers f.number ≡ Some declared
  pub type_is : shape_of_type declared.type_ ≡ Some shape
  pub tag_is : IsAnyVarint tag (f.number * 8 + wire_type shape)
  pub value : IsPayload inside_says declared.type_name shape payload f.value

-- The bytes are records with the fields, one behind the other.
abbrev pub AreRecords : MessageSays → FieldsByNumber → List ℕ → List Field → Type 0
AreRecords inside_says numbers bs fs = Many (IsRecord inside_says numbers) bs fs

-- A message with at most so many levels of messages in it, itself one: it can be entered, and its
-- bytes, all of them, are records with these fields.
unfoldable pub IsMessage : (Option Text → WireRead FieldsByNumber) → ℕ → MessageSays
IsMessage enter zero name bs fs = ⊥
IsMessage enter (suc levels) name bs fs = (numbers : FieldsByNumber) × (enter name ≡ Ok numbers)
    × AreRecords (IsMessage enter levels) numbers bs fs

-- ---- faults

-- The bytes begin with records, none or more, and `record_at` says what is wrong behind these.
pub record BreaksOff (enter : Option Text → WireRead FieldsByNumber) (levels : ℕ)
    (numbers : FieldsByNumber) (bs : List ℕ) (e : ReadFault) : Type 0 where
  pub front : List ℕ
  pub rest : List ℕ
  pub parts : bs ≡ front ++ rest
  pub before : List Field
  pub records : AreRecords (IsMessage enter levels) numbers front before
  pub some : 0 < length rest
  pub fault : record_at (message_at enter levels) numbers rest ≡ Err e

-- ---- the laws: of any way to enter messages, and any number of levels. The function `reader` is
-- the case of 256 levels.

-- Reading gives fields just where the bytes are a message with these fields.
abbrev pub MessagesAreRead : Type 0
MessagesAreRead = (enter : Option Text → WireRead FieldsByNumber) (levels : ℕ)
    (name : Option Text) (bs : List ℕ) (fs : List Field)
    → (message_at enter levels name bs ≡ Ok fs) ↔ IsMessage enter levels name bs fs

-- It gives a fault just where that is the fault in entering the message, or the bytes begin with
-- records and it is what is wrong behind these.
abbrev pub FaultsStandBehindRecords : Type 0
FaultsStandBehindRecords = (enter : Option Text → WireRead FieldsByNumber) (levels : ℕ)
    (name : Option Text) (bs : List ℕ) (e : ReadFault)
    → (message_at enter (suc levels) name bs ≡ Err e)
    ↔ ((enter name ≡ Err e) ⊎ ((numbers : FieldsByNumber) × (enter name ≡ Ok numbers)
    × BreaksOff enter levels numbers bs e))

-- No longer front of the bytes than the one before the fault is records.
abbrev pub FrontIsLongest : Type 0
FrontIsLongest = (enter : Option Text → WireRead FieldsByNumber) (levels : ℕ)
    (numbers : FieldsByNumber) (bs : List ℕ) (e : ReadFault)
    (stop : BreaksOff enter levels numbers bs e) (front rest : List ℕ) (fs : List Field)
    → bs ≡ front ++ rest → AreRecords (IsMessage enter levels) numbers front fs
    → length front ≤ length stop.front
