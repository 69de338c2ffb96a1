-- Reading bytes by descriptors, from left to right, up to the first thing that is wrong.
-- Protocol Buffers Encoding (https://protobuf.dev/programming-guides/encoding/): any varint is
-- taken, the low 32 bits count for kinds of 32 bits, and any number but 0 is true.
use Rattle.std.specs.Prelude.{◌≡◌, ◌≢◌, ℕ, zero, suc, ℤ, pos, negsuc, ◌+◌, ◌*◌, ◌/◌, ◌%◌, ◌^◌, List}
use Rattle.std.specs.Prelude.{[], ◌∷◌, ◌++◌, length, take, drop, Option, Some, None, Result, Ok}
use Rattle.std.specs.Prelude.{Err, nat_lt, ◌==◌, if◌then◌else◌}
use Rattle.std.specs.Int.{w32, w64, from_le_bytes, cast_signed}
use Rattle.std.specs.Str.{is_utf8}
use mir.Syntax.{Width}
use mir.Val.{bits}
use Rattle.protobuf_parse_model.specs.Descriptors.{Text, FileDescriptor, FieldDescriptor}
use Rattle.protobuf_parse_model.specs.Descriptors.{MessageParts}
use Rattle.protobuf_parse_wire.specs.declared.fault.ReadFault.{ReadFault}
use Rattle.protobuf_parse_wire.specs.declared.fault.ReadFault.TheVariants.{UnknownMessage}
use Rattle.protobuf_parse_wire.specs.declared.fault.ReadFault.TheVariants.{UnknownNumber}
use Rattle.protobuf_parse_wire.specs.declared.fault.ReadFault.TheVariants.{AmbiguousNumber}
use Rattle.protobuf_parse_wire.specs.declared.fault.ReadFault.TheVariants.{Truncated, WrongWireType}
use Rattle.protobuf_parse_wire.specs.declared.fault.ReadFault.TheVariants.{BadVarint, BadUtf8}
use Rattle.protobuf_parse_wire.specs.declared.fault.ReadFault.TheVariants.{FloatOrGroup, TooDeep}
use Rattle.protobuf_parse_wire.specs.declared.fault.ReadFault.TheVariants.{Memory}
use Rattle.protobuf_parse_wire.specs.Kinds.{Word, varint, eight_bytes, four_bytes, Code, unsigned}
use Rattle.protobuf_parse_wire.specs.Kinds.{twos_complement, zigzag, KindShape, whole, truth, text}
use Rattle.protobuf_parse_wire.specs.Kinds.{octets, message, shape_of_type, wire_type}
use Rattle.protobuf_parse_wire.specs.Trees as trees
use Rattle.protobuf_parse_wire.specs.Trees.{ValueTree, Field, fields_of_list}
use Rattle.protobuf_parse_wire.specs.Declarations.{messages_with_name, extensions_extending}
use Rattle.protobuf_parse_wire.specs.Declarations.{field_numbered}
use Rattle.protobuf_parse_wire.specs.Declarations.{have_distinct_numbers}

-- what was read, or what is wrong
abbrev pub WireRead : Type 0 → Type 0
WireRead X = Result X ReadFault

infixl 10 ◌>>=◌
-- the next step, where this one gave something
abbrev pub ◌>>=◌ : {A B : Type 0} → WireRead A → (A → WireRead B) → WireRead B
(Ok x) >>= f = f x
(Err e) >>= f = Err e

-- What a function returned, seen by view, is what reading gives, unless memory ran out.
abbrev pub ReaderGives : {X Y : Type 0} → (X → Y) → Result X ReadFault → WireRead Y → Type 0
ReaderGives view (Ok x) read = read ≡ Ok (view x)
ReaderGives view (Err e) read = e ≢ Memory → read ≡ Err e

-- ---- numbers and lengths

-- a number below 2 ^ 64
abbrev pub if_word : ℕ → List ℕ → WireRead (ℕ × List ℕ)
if_word u rest = if nat_lt u (2 ^ 64) then Ok (u, rest) else Err BadVarint

-- such a number in a varint of at most so many bytes, the low group first, and the bytes after it
unfoldable pub varint_at : ℕ → List ℕ → WireRead (ℕ × List ℕ)
varint_at zero bs = Err BadVarint
varint_at (suc n) [] = Err Truncated
varint_at (suc n) (b ∷ bs) = if nat_lt b 128 then Ok (b, bs) else do
  high ← varint_at n bs
  if_word (b % 128 + 128 * high.0) high.1

-- so many bytes, and those after them
unfoldable pub part_at : ℕ → List ℕ → WireRead (List ℕ × List ℕ)
part_at n bs = if nat_lt (length bs) n then Err Truncated else Ok (take n bs, drop n bs)

-- a length and that many bytes
unfoldable pub delimited_at : List ℕ → WireRead (List ℕ × List ℕ)
delimited_at bs = do
  n ← varint_at 10 bs
  part_at n.0 n.1

-- a number in eight bytes, the lowest first, and the bytes after it
unfoldable pub eight_at : List ℕ → WireRead (ℕ × List ℕ)
eight_at bs = do
  part ← part_at 8 bs
  Ok (from_le_bytes w64 part.0, part.1)

-- a number in four bytes, and the bytes after it
unfoldable pub four_at : List ℕ → WireRead (ℕ × List ℕ)
four_at bs = do
  part ← part_at 4 bs
  Ok (from_le_bytes w32 part.0, part.1)

-- a number where it stands for such a kind, and the bytes after it
abbrev pub word_at : Word → List ℕ → WireRead (ℕ × List ℕ)
word_at varint bs = varint_at 10 bs
word_at eight_bytes bs = eight_at bs
word_at four_bytes bs = four_at bs

-- 0, 1, 2, 3 .. are 0, -1, 1, -2 ..
abbrev pub unzigzag : ℕ → ℤ
unzigzag u = if u % 2 == 0 then pos (u / 2) else negsuc (u / 2)

-- what an unsigned number says: of as many of its low bits as count
abbrev pub decoded : Width → Code → ℕ → ℤ
decoded w unsigned u = pos (u % 2 ^ bits w)
decoded w twos_complement u = cast_signed w (u % 2 ^ bits w)
decoded w zigzag u = unzigzag (u % 2 ^ bits w)

-- ---- records

-- which field each number names in a message
abbrev pub FieldsByNumber : Type 0
FieldsByNumber = ℕ → Option FieldDescriptor

-- how the message of a field's type name is read
abbrev pub Inner : Type 0
Inner = Option Text → List ℕ → WireRead (List Field)

-- the payload, and the bytes after it
unfoldable pub payload_at : Inner → Option Text → KindShape → List ℕ → WireRead (ValueTree × List ℕ)
payload_at inner name (whole word w code) bs = do
  u ← word_at word bs
  Ok (trees.number (decoded w code u.0), u.1)
payload_at inner name truth bs = do
  u ← varint_at 10 bs
  Ok (trees.truth (nat_lt 0 u.0), u.1)
payload_at inner name text bs = do
  part ← delimited_at bs
  if is_utf8 part.0 then Ok (trees.bytes part.0, part.1) else Err BadUtf8
payload_at inner name octets bs = do
  part ← delimited_at bs
  Ok (trees.bytes part.0, part.1)
payload_at inner name message bs = do
  part ← delimited_at bs
  fields ← inner name part.0
  Ok (trees.message (fields_of_list fields), part.1)

-- the type, then the wire type, then the payload
unfoldable pub typed_at : Inner → Option Text → Option KindShape → ℕ → List ℕ
    → WireRead (ValueTree × List ℕ)
typed_at inner name None wire bs = Err FloatOrGroup
typed_at inner name (Some s) wire bs =
    if wire == wire_type s then payload_at inner name s bs else Err WrongWireType

-- the field that the number names, then the rest
unfoldable pub value_at : Inner → Option FieldDescriptor → ℕ → List ℕ
    → WireRead (ValueTree × List ℕ)
value_at inner None wire bs = Err UnknownNumber
value_at inner (Some f) wire bs = typed_at inner f.type_name (shape_of_type f.type_) wire bs

-- a tag, which is eight times the number and the wire type, and a value
unfoldable pub record_at : Inner → FieldsByNumber → List ℕ → WireRead (Field × List ℕ)
record_at inner numbers bs = do
  tag ← varint_at 10 bs
  value ← value_at inner (numbers (tag.0 / 8)) (tag.0 % 8) tag.1
  Ok (record { number = tag.0 / 8; value = value.0 }, value.1)

-- the records up to the end, at most so many
unfoldable pub records : Inner → FieldsByNumber → ℕ → List ℕ → WireRead (List Field)
records inner numbers n [] = Ok []
records inner numbers zero (b ∷ bs) = Ok []
records inner numbers (suc n) (b ∷ bs) = do
  first ← record_at inner numbers (b ∷ bs)
  others ← records inner numbers n first.1
  Ok (first.0 ∷ others)

-- ---- messages

-- the fields and the extensions of a message by their numbers
abbrev pub by_number : List FieldDescriptor → WireRead FieldsByNumber
by_number fields = if have_distinct_numbers fields then Ok (field_numbered fields)
    else Err AmbiguousNumber

-- Exactly one message has the name.
abbrev pub only_one : List MessageParts → List FieldDescriptor → WireRead FieldsByNumber
only_one [] extensions = Err UnknownMessage
only_one (m ∷ []) extensions = by_number (m.field ++ extensions)
only_one (m ∷ n ∷ ms) extensions = Err UnknownMessage

-- entering the message of a type name
abbrev pub entered : List FileDescriptor → Option Text → WireRead FieldsByNumber
entered files None = Err UnknownMessage
entered files (Some name) =
    only_one (messages_with_name files name) (extensions_extending files name)

-- A message with at most so many levels of messages in it, itself one. Each record has a byte at
-- least, so there are no more records than bytes.
unfoldable pub message_at : (Option Text → WireRead FieldsByNumber) → ℕ → Inner
message_at enter zero name bs = Err TooDeep
message_at enter (suc levels) name bs = do
  numbers ← enter name
  records (message_at enter levels) numbers (length bs) bs

-- The fields that the bytes of the message so named say. Messages stand inside one another to a
-- depth of 256.
abbrev pub reader : List FileDescriptor → Text → List ℕ → WireRead (List Field)
reader files name bs = message_at (entered files) 256 (Some name) bs
