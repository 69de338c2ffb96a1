-- What follows for whole messages.
use Rattle.std.specs.Prelude.{◌≡◌, ℕ, ◌+◌, List, [], ◌∷◌, ◌++◌, length, map, Ok, Err}
use Rattle.std.specs.List.{flat_map, AllByRecursion}
use Rattle.protobuf_parse_records.specs.Views.{Extent, Content, WireRecord, varint, fixed64}
use Rattle.protobuf_parse_records.specs.Views.{fixed32, delimited, group}
use Rattle.protobuf_parse_records.specs.Wire.{Answer, ◌>>=◌}
use Rattle.protobuf_parse_records.specs.Splitting.{records_in, records_of}

-- ---- the records are the bytes

-- all bytes of a record
abbrev pub record_bytes : WireRecord → List ℕ
record_bytes r = r.whole.bytes

-- The first record starts at that offset, and each other one where the one before it ends.
abbrev pub FollowOn : ℕ → List WireRecord → Type 0
FollowOn start [] = Unit {0}
FollowOn start (r ∷ rs) =
    (r.whole.start ≡ start) × FollowOn (start + length r.whole.bytes) rs

-- Where bytes have records, these are all of the bytes, one behind the other.
abbrev pub RecordsAreTheBytes : Type 0
RecordsAreTheBytes = (s : Extent) (rs : List WireRecord) → records_in s ≡ Ok rs
    → (flat_map record_bytes rs ≡ s.bytes) × FollowOn s.start rs

-- ---- offsets

-- the same bytes, starting so much later
abbrev pub later : ℕ → Extent → Extent
later by s = record { start = s.start + by; bytes = s.bytes }

-- the same payload, that much later
abbrev pub content_later : ℕ → Content → Content
content_later by (varint n) = varint n
content_later by (fixed64 n) = fixed64 n
content_later by (fixed32 n) = fixed32 n
content_later by (delimited s) = delimited (later by s)
content_later by (group s) = group (later by s)

-- the same record, that much later
abbrev pub record_later : ℕ → WireRecord → WireRecord
record_later by r = record {
  number = r.number;
  whole = later by r.whole;
  content = content_later by r.content;
}

-- an answer with its fault that much later, or what it gives changed by `change`
abbrev pub answer_later : {A : Type 0} → ℕ → (A → A) → Answer A → Answer A
answer_later by change (Ok x) = Ok (change x)
answer_later by change (Err f) = Err (record { at = f.at + by; kind = f.kind })

-- the same records or the same fault, that much later
abbrev pub records_later : ℕ → Answer (List WireRecord) → Answer (List WireRecord)
records_later by answer = answer_later by (map (record_later by)) answer

-- Bytes that start later have the same records or the same fault, with offsets that count on.
abbrev pub OffsetsCountOn : Type 0
OffsetsCountOn = (by : ℕ) (s : Extent)
    → records_in (later by s) ≡ records_later by (records_in s)

-- ---- joined messages

-- Where the first of two messages has records, the joined bytes have these, and behind them what
-- the second has, which starts where the first ends: its records, or its fault.
abbrev pub RecordsAreJoined : Type 0
RecordsAreJoined = (xs ys : List ℕ) (rs : List WireRecord) → records_of xs ≡ Ok rs
    → records_of (xs ++ ys)
    ≡ (records_later (length xs) (records_of ys) >>= λ others. Ok (rs ++ others))

-- ---- groups

-- What stands in a group is records.
abbrev pub HoldsRecords : Content → Type 0
HoldsRecords (varint n) = Unit {0}
HoldsRecords (fixed64 n) = Unit {0}
HoldsRecords (fixed32 n) = Unit {0}
HoldsRecords (delimited s) = Unit {0}
HoldsRecords (group s) = (rs : List WireRecord) × (records_in s ≡ Ok rs)

-- Of records that were read each group holds records, and no fault.
abbrev pub GroupsHoldRecords : Type 0
GroupsHoldRecords = (s : Extent) (rs : List WireRecord) → records_in s ≡ Ok rs
    → AllByRecursion (λ (r : WireRecord). HoldsRecords r.content) rs
