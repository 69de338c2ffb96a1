-- The records of a message's bytes, from left to right, up to the first thing that is wrong.
-- Protocol Buffers Encoding (https://protobuf.dev/programming-guides/encoding/), "Message
-- Structure" and "Groups".
use Rattle.std.specs.Prelude.{ℕ, zero, suc, ◌-◌, List, [], ◌∷◌, ◌++◌, length, take, get_or}
use Rattle.std.specs.Prelude.{Ok, nat_lt, ◌==◌, if◌then◌else◌}
use Rattle.protobuf_parse_records.specs.declared.fault.FaultKind.TheVariants as kind
use Rattle.protobuf_parse_records.specs.declared.wire.WireType.{WireType}
use Rattle.protobuf_parse_records.specs.declared.wire.WireType.TheVariants as wire
use Rattle.protobuf_parse_records.specs.Views.{Extent, Content, WireRecord, varint, fixed64}
use Rattle.protobuf_parse_records.specs.Views.{fixed32, delimited, group}
use Rattle.protobuf_parse_records.specs.Wire.{Answer, ◌>>=◌, fault, up_to, varint_at, delimited_at}
use Rattle.protobuf_parse_records.specs.Wire.{fixed32_at, fixed64_at, tag_at}

-- ---- groups

-- how many groups may stand inside one another
abbrev pub most_groups : ℕ
most_groups = 100

-- the last number of a list: that of the innermost group
abbrev pub innermost : List ℕ → ℕ
innermost groups = get_or groups (length groups - 1) 0

-- What a tag at that offset with that number and wire type makes of the list of open groups, and
-- what stands behind all that belongs to it: its payload, or nothing where it starts or ends a
-- group.
unfoldable pub passed : ℕ → List ℕ → ℕ → WireType → Extent → Answer (List ℕ × Extent)
passed at groups number wire.Varint s = do
  value ← varint_at s
  Ok (groups, value.1)
passed at groups number wire.Fixed64 s = do
  value ← fixed64_at s
  Ok (groups, value.1)
passed at groups number wire.Delimited s = do
  value ← delimited_at s
  Ok (groups, value.1)
passed at groups number wire.GroupStart s =
    if nat_lt (length groups) most_groups then Ok (groups ++ number ∷ [], s)
    else fault at kind.TooManyGroups
passed at groups number wire.GroupEnd s =
    if innermost groups == number then Ok (take (length groups - 1) groups, s)
    else fault at kind.UnmatchedGroupEnd
passed at groups number wire.Fixed32 s = do
  value ← fixed32_at s
  Ok (groups, value.1)

-- the same of the tag at the front
unfoldable pub step_at : List ℕ → Extent → Answer (List ℕ × Extent)
step_at groups s = do
  tag ← tag_at s
  passed s.start groups tag.0.0 tag.0.1 tag.1

-- Tag after tag, at most so many, until no group is open: what is left from the last tag on, and
-- behind it. `last` is what was left from the tag before on.
unfoldable pub closed_within : ℕ → Extent → List ℕ → Extent → Answer (Extent × Extent)
closed_within most last [] s = Ok (last, s)
closed_within zero last (g ∷ gs) s = fault s.start kind.Truncated
closed_within (suc most) last (g ∷ gs) s =
    step_at (g ∷ gs) s >>= λ (x : List ℕ × Extent). closed_within most s x.0 x.1

-- What is left from the tag on that ends the group of that number, which is open, and behind it.
-- Each tag has a byte or more, so there are no more tags than bytes.
unfoldable pub group_end_at : ℕ → Extent → Answer (Extent × Extent)
group_end_at number s = closed_within (suc (length s.bytes)) s (number ∷ []) s

-- ---- records

-- The payload behind a tag at that offset with that number and wire type, and what stands behind
-- the record. A group's is what stands up to the tag that ends it, which belongs to the record.
unfoldable pub payload_at : ℕ → ℕ → WireType → Extent → Answer (Content × Extent)
payload_at at number wire.Varint s = do
  value ← varint_at s
  Ok (varint value.0, value.1)
payload_at at number wire.Fixed64 s = do
  value ← fixed64_at s
  Ok (fixed64 value.0, value.1)
payload_at at number wire.Delimited s = do
  value ← delimited_at s
  Ok (delimited value.0, value.1)
payload_at at number wire.GroupStart s = do
  end ← group_end_at number s
  Ok (group (up_to s end.0), end.1)
payload_at at number wire.GroupEnd s = fault at kind.UnmatchedGroupEnd
payload_at at number wire.Fixed32 s = do
  value ← fixed32_at s
  Ok (fixed32 value.0, value.1)

-- the record at the front, and what stands behind it
unfoldable pub record_at : Extent → Answer (WireRecord × Extent)
record_at s = do
  tag ← tag_at s
  payload ← payload_at s.start tag.0.0 tag.0.1 tag.1
  Ok (record { number = tag.0.0; whole = up_to s payload.1; content = payload.0 }, payload.1)

-- the records up to the end, at most so many
unfoldable pub records_within : ℕ → ℕ → List ℕ → Answer (List WireRecord)
records_within most start [] = Ok []
records_within zero start (b ∷ bs) = fault start kind.Truncated
records_within (suc most) start (b ∷ bs) = do
  first ← record_at (record { start = start; bytes = b ∷ bs })
  others ← records_within most first.1.start first.1.bytes
  Ok (first.0 ∷ others)

-- The records of a part of a message. Each has a byte or more, so there are no more than bytes.
abbrev pub records_in : Extent → Answer (List WireRecord)
records_in s = records_within (length s.bytes) s.start s.bytes

-- the records of a message
abbrev pub records_of : List ℕ → Answer (List WireRecord)
records_of bs = records_in (record { start = 0; bytes = bs })
