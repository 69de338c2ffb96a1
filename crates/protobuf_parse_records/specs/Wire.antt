-- Numbers, bytes and tags at the front of a message's bytes. Protocol Buffers Encoding
-- (https://protobuf.dev/programming-guides/encoding/), "Base 128 Varints", "Message Structure",
-- "More Integer Types" and "Length-Delimited Records".
use Rattle.std.specs.Prelude.{◌≡◌, ℕ, zero, suc, ◌+◌, ◌-◌, ◌*◌, ◌/◌, ◌%◌, ◌^◌, List, [], ◌∷◌}
use Rattle.std.specs.Prelude.{length, take, drop, Option, Some, None, Result, Ok, Err}
use Rattle.std.specs.Prelude.{nat_lt, ◌==◌, ◌&&◌, if◌then◌else◌, Bool}
use Rattle.std.specs.Int.{w32, w64, from_le_bytes}
use Rattle.protobuf_parse_records.specs.declared.fault.FaultKind.{FaultKind}
use Rattle.protobuf_parse_records.specs.declared.fault.FaultKind.TheVariants as kind
use Rattle.protobuf_parse_records.specs.declared.fault.Fault.{Fault}
use Rattle.protobuf_parse_records.specs.declared.fault.RecordsError.{RecordsError}
use Rattle.protobuf_parse_records.specs.declared.fault.RecordsError.TheVariants as error
use Rattle.protobuf_parse_records.specs.declared.wire.WireType.{WireType}
use Rattle.protobuf_parse_records.specs.declared.wire.WireType.TheVariants as wire
use Rattle.protobuf_parse_records.specs.Views.{Extent}

-- ---- answers

-- what the bytes give, or the first thing that is wrong with them, with its offset
abbrev pub Answer : Type 0 → Type 0
Answer X = Result X Fault

infixl 10 ◌>>=◌
-- an answer, and what comes of it if it is no fault
abbrev pub ◌>>=◌ : {A B E : Type 0} → Result A E → (A → Result B E) → Result B E
(Ok x) >>= f = f x
(Err e) >>= f = Err e

-- that kind of fault at that offset
abbrev pub fault : {A : Type 0} → ℕ → FaultKind → Answer A
fault at what = Err (record { at = at; kind = what })

-- A function's error is this answer: its fault. Of want of memory nothing is said.
abbrev pub Fails : {B : Type 0} → RecordsError → Answer B → Type 0
Fails error.Memory answer = Unit {0}
Fails (error.Fault f) answer = answer ≡ Err f

-- A function's result, its value seen by `view`, is this answer, unless memory runs out.
abbrev pub Gives : {A B : Type 0} → (A → B) → Result A RecordsError → Answer B → Type 0
Gives view (Ok x) answer = answer ≡ Ok (view x)
Gives view (Err e) answer = Fails e answer

-- an answer whose fault gets this offset
abbrev pub standing_at : {A : Type 0} → ℕ → Result A FaultKind → Answer A
standing_at at (Ok x) = Ok x
standing_at at (Err what) = fault at what

-- ---- parts of bytes

-- The last bytes of an extent, which start where the others end.
abbrev pub behind : Extent → List ℕ → Extent
behind s rest = record { start = s.start + (length s.bytes - length rest); bytes = rest }

-- the bytes of an extent up to where that last part of it starts
abbrev pub up_to : Extent → Extent → Extent
up_to s rest =
    record { start = s.start; bytes = take (length s.bytes - length rest.bytes) s.bytes }

-- ---- numbers

-- a number of 64 bits
abbrev pub if_64_bits : ℕ → List ℕ → Result (ℕ × List ℕ) FaultKind
if_64_bits n rest = if nat_lt n (2 ^ 64) then Ok (n, rest) else Err kind.VarintTooLarge

-- The number of the varint at the front, which has at most so many bytes, and the bytes behind it.
-- Each byte has seven bits of the number, the lowest first; 128 is added to each but the last.
unfoldable pub varint_within : ℕ → List ℕ → Result (ℕ × List ℕ) FaultKind
varint_within zero bs = Err kind.VarintTooLarge
varint_within (suc most) [] = Err kind.Truncated
varint_within (suc most) (b ∷ bs) = if nat_lt b 128 then Ok (b, bs) else do
  high ← varint_within most bs
  if_64_bits (b % 128 + 128 * high.0) high.1

-- the number of a varint, which has at most ten bytes, and what stands behind it
unfoldable pub varint_at : Extent → Answer (ℕ × Extent)
varint_at s = do
  n ← standing_at s.start (varint_within 10 s.bytes)
  Ok (n.0, behind s n.1)

-- so many bytes, and what stands behind them
unfoldable pub bytes_at : ℕ → Extent → Answer (Extent × Extent)
bytes_at count s = if nat_lt (length s.bytes) count then fault s.start kind.Truncated
    else Ok (record { start = s.start; bytes = take count s.bytes }, behind s (drop count s.bytes))

-- the bytes behind a varint that says how many they are, and what stands behind them
unfoldable pub delimited_at : Extent → Answer (Extent × Extent)
delimited_at s = do
  count ← varint_at s
  bytes_at count.0 count.1

-- a number in four bytes, the lowest first, and what stands behind it
unfoldable pub fixed32_at : Extent → Answer (ℕ × Extent)
fixed32_at s = do
  four ← bytes_at 4 s
  Ok (from_le_bytes w32 four.0.bytes, four.1)

-- a number in eight bytes, the lowest first, and what stands behind it
unfoldable pub fixed64_at : Extent → Answer (ℕ × Extent)
fixed64_at s = do
  eight ← bytes_at 8 s
  Ok (from_le_bytes w64 eight.0.bytes, eight.1)

-- ---- tags

-- the wire type that the low three bits of a tag say
unfoldable pub wire_type : ℕ → Option WireType
wire_type bits = if bits == 0 then Some wire.Varint else if bits == 1 then Some wire.Fixed64
    else if bits == 2 then Some wire.Delimited else if bits == 3 then Some wire.GroupStart
    else if bits == 4 then Some wire.GroupEnd else if bits == 5 then Some wire.Fixed32 else None

-- a number that a field can have
abbrev pub is_field_number : ℕ → Bool
is_field_number n = nat_lt 0 n && nat_lt n (2 ^ 29)

-- a tag with that number, at that offset, if there is the wire type
abbrev pub if_known : ℕ → ℕ → Option WireType → Extent → Answer ((ℕ × WireType) × Extent)
if_known at number (Some w) rest = Ok ((number, w), rest)
if_known at number None rest = fault at kind.BadWireType

-- A field's number and a wire type, and what stands behind the tag that says both: a varint of
-- eight times the number and the wire type.
unfoldable pub tag_at : Extent → Answer ((ℕ × WireType) × Extent)
tag_at s = do
  tag ← varint_at s
  if is_field_number (tag.0 / 8) then if_known s.start (tag.0 / 8) (wire_type (tag.0 % 8)) tag.1
      else fault s.start kind.BadFieldNumber
