-- What the records of a message say of its fields, in whatever order they stand. Of several with
-- the number of a field that is not repeated the last counts; a field that is repeated has what all
-- of them say, in order; the records of a message that is given in several parts are those of one.
-- Protocol Buffers Encoding (https://protobuf.dev/programming-guides/encoding/), "Last One Wins",
-- "Repeated Elements", "Packed Repeated Fields" and "Message Structure".
use Rattle.std.specs.Prelude.{ℕ, zero, suc, ℤ, ◌%◌, ◌^◌, Bool, false, List, [], ◌∷◌, ◌++◌, length}
use Rattle.std.specs.Prelude.{filter, Option, Some, None, Ok, nat_lt, ◌==◌, if◌then◌else◌}
use Rattle.std.specs.Int.{w32, cast_signed}
use Rattle.std.specs.Str.{is_utf8}
use Rattle.protobuf_parse_model.specs.Descriptors.{Text}
use Rattle.protobuf_parse_records.specs.Views.{Extent, Content, WireRecord, varint, fixed64}
use Rattle.protobuf_parse_records.specs.Views.{fixed32, delimited, group}
use Rattle.protobuf_parse_records.specs.Wire.{◌>>=◌, varint_at}
use Rattle.protobuf_parse_records.specs.Splitting.{records_in}
use Rattle.protobuf_parse_set_reader.specs.declared.fault.SetFaultKind.{SetFaultKind}
use Rattle.protobuf_parse_set_reader.specs.declared.fault.SetFaultKind.TheVariants as kind
use Rattle.protobuf_parse_set_reader.specs.Answers.{Answer, fault, on_wire}

-- a message, one level deep, and the offset of its first byte
pub record BodyView : Type 0 where
  pub start : ℕ
  pub records : List WireRecord

-- the message that the bytes are
unfoldable pub body_of : Extent → Answer BodyView
body_of s = do
  rs ← on_wire (records_in s)
  Ok (record { start = s.start; records = rs })

-- ---- which records

-- those with the number
abbrev pub numbered : ℕ → List WireRecord → List WireRecord
numbered n rs = filter (λ (r : WireRecord). r.number == n) rs

-- the last of some
abbrev pub last_one : List WireRecord → Option WireRecord
last_one [] = None
last_one (r ∷ []) = Some r
last_one (r ∷ s ∷ rs) = last_one (s ∷ rs)

-- the last with the number
abbrev pub last_of : ℕ → BodyView → Option WireRecord
last_of n b = last_one (numbered n b.records)

-- what each says, in order, up to the first fault
abbrev pub all_of : {A : Type 0} → (WireRecord → Answer (List A)) → List WireRecord
    → Answer (List A)
all_of said [] = Ok []
all_of said (r ∷ rs) = do
  first ← said r
  others ← all_of said rs
  Ok (first ++ others)

-- the same where each says one thing
abbrev pub alone : {A : Type 0} → (WireRecord → Answer A) → WireRecord → Answer (List A)
alone said r = do
  x ← said r
  Ok (x ∷ [])

-- ---- what one record says

-- its field has another wire type
abbrev pub wrong_wire_type : {A : Type 0} → WireRecord → Answer A
wrong_wire_type r = fault r.whole.start kind.WrongWireType

-- bytes
unfoldable pub inside_in : WireRecord → Answer Extent
inside_in r = elim r.content [
  | delimited s ↦ Ok s
  | varint n ↦ wrong_wire_type r
  | fixed64 n ↦ wrong_wire_type r
  | fixed32 n ↦ wrong_wire_type r
  | group s ↦ wrong_wire_type r
]

-- a varint
unfoldable pub number_in : WireRecord → Answer ℕ
number_in r = elim r.content [
  | varint n ↦ Ok n
  | delimited s ↦ wrong_wire_type r
  | fixed64 n ↦ wrong_wire_type r
  | fixed32 n ↦ wrong_wire_type r
  | group s ↦ wrong_wire_type r
]

-- a text
unfoldable pub text_in : WireRecord → Answer Text
text_in r = do
  s ← inside_in r
  if is_utf8 s.bytes then Ok s.bytes else fault s.start kind.NotUtf8

-- an int32: the low 32 bits of a varint
abbrev pub int_of : ℕ → ℤ
int_of n = cast_signed w32 (n % 2 ^ 32)

-- an int32
unfoldable pub int_in : WireRecord → Answer ℤ
int_in r = do
  n ← number_in r
  Ok (int_of n)

-- a truth value: whether a varint is not 0
unfoldable pub flag_in : WireRecord → Answer Bool
flag_in r = do
  n ← number_in r
  Ok (nat_lt 0 n)

-- a value of an enum, `of` its number, or else that kind of fault
unfoldable pub choice_in : {A : Type 0} → SetFaultKind → (ℤ → Option A) → WireRecord → Answer A
choice_in unknown of r = do
  n ← int_in r
  elim (of n) [ Some x ↦ Ok x | None ↦ fault r.whole.start unknown ]

-- a message, one level deep
unfoldable pub body_in : WireRecord → Answer BodyView
body_in r = do
  s ← inside_in r
  body_of s

-- a message
unfoldable pub part_in : {A : Type 0} → (BodyView → Answer A) → WireRecord → Answer A
part_in of r = do
  b ← body_in r
  of b

-- varints one behind the other, each an int32, at most so many
unfoldable pub packed_within : ℕ → ℕ → List ℕ → Answer (List ℤ)
packed_within most start [] = Ok []
packed_within zero start (b ∷ bs) = Ok []
packed_within (suc most) start (b ∷ bs) = do
  first ← on_wire (varint_at (record { start = start; bytes = b ∷ bs }))
  others ← packed_within most first.1.start first.1.bytes
  Ok (int_of first.0 ∷ others)

-- packed int32s; each has a byte or more, so there are no more than bytes
abbrev pub packed : Extent → Answer (List ℤ)
packed s = packed_within (length s.bytes) s.start s.bytes

-- packed ones, or what is said of a record that is not packed
abbrev pub packed_or : Content → Answer (List ℤ) → Answer (List ℤ)
packed_or (delimited s) one = packed s
packed_or (varint n) one = one
packed_or (fixed64 n) one = one
packed_or (fixed32 n) one = one
packed_or (group s) one = one

-- int32s of a repeated field: packed ones, or one
unfoldable pub ints_in : WireRecord → Answer (List ℤ)
ints_in r = packed_or r.content (alone int_in r)

-- ---- what a message says

-- what a record says, if there is one
abbrev pub of_some : {A : Type 0} → (WireRecord → Answer A) → Option WireRecord
    → Answer (Option A)
of_some said None = Ok None
of_some said (Some r) = do
  x ← said r
  Ok (Some x)

-- what the last record with the number says, if there is one
unfoldable pub one : {A : Type 0} → (WireRecord → Answer A) → ℕ → BodyView → Answer (Option A)
one said n b = of_some said (last_of n b)

-- what is said, or else that
abbrev pub or_else : {A : Type 0} → Answer A → Option A → Answer A
or_else other (Some x) = Ok x
or_else other None = other

-- a text, or that kind of fault at the message's first byte if it is missing
unfoldable pub needed_text : SetFaultKind → ℕ → BodyView → Answer Text
needed_text missing n b = do
  t ← one text_in n b
  or_else (fault b.start missing) t

-- an int32, which is 0 where it is missing
unfoldable pub int_or_zero : ℕ → BodyView → Answer ℤ
int_or_zero n b = do
  v ← one int_in n b
  or_else (Ok (int_of 0)) v

-- a truth value, which is false where it is missing
unfoldable pub flag_or_false : ℕ → BodyView → Answer Bool
flag_or_false n b = do
  v ← one flag_in n b
  or_else (Ok false) v

-- texts
abbrev pub texts : ℕ → BodyView → Answer (List Text)
texts n b = all_of (alone text_in) (numbered n b.records)

-- int32s
abbrev pub ints : ℕ → BodyView → Answer (List ℤ)
ints n b = all_of ints_in (numbered n b.records)

-- messages
abbrev pub parts : {A : Type 0} → (BodyView → Answer A) → ℕ → BodyView → Answer (List A)
parts of n b = all_of (alone (part_in of)) (numbered n b.records)

-- the records of a message
abbrev pub records_inside : WireRecord → Answer (List WireRecord)
records_inside r = do
  b ← body_in r
  Ok b.records

-- the message whose records all of these messages have together
abbrev pub together : ℕ → List WireRecord → Answer BodyView
together start rs = do
  all ← all_of records_inside rs
  Ok (record { start = start; records = all })

-- what they say together, if there are any
abbrev pub merged_of : {A : Type 0} → (BodyView → Answer A) → ℕ → List WireRecord
    → Answer (Option A)
merged_of of start [] = Ok None
merged_of of start (r ∷ rs) = do
  b ← together start (r ∷ rs)
  x ← of b
  Ok (Some x)

-- a message that is not repeated: what all records with the number say together
unfoldable pub merged : {A : Type 0} → (BodyView → Answer A) → ℕ → BodyView → Answer (Option A)
merged of n b = merged_of of b.start (numbered n b.records)

-- the bytes that a record holds
abbrev pub bytes_inside : WireRecord → Answer (List ℕ)
bytes_inside r = do
  s ← inside_in r
  Ok s.bytes

-- those that records hold, one behind the other, if there are any records
abbrev pub bytes_merged : List WireRecord → Answer (Option (List ℕ))
bytes_merged [] = Ok None
bytes_merged (r ∷ rs) = do
  bytes ← all_of bytes_inside (r ∷ rs)
  Ok (Some bytes)

-- the bytes of a message that is not repeated: those of all its parts are the bytes of one message
unfoldable pub merged_bytes : ℕ → BodyView → Answer (Option (List ℕ))
merged_bytes n b = bytes_merged (numbered n b.records)
