-- Bytes that start later are read alike.
use Rattle.std.proofs.Common.{◌≡◌, ℕ, zero, suc, ◌+◌, ◌-◌, ◌/◌, ◌%◌, ltb, Bool, true, false}
use Rattle.std.proofs.Common.{List, [], ◌∷◌, ◌++◌, length, take, drop, Option, Some, None}
use Rattle.std.proofs.Common.{Ok, Err, Result, refl, ap, arith}
use Rattle.std.specs.Prelude.{◌==◌, if◌then◌else◌}
use Rattle.std.specs.Int.{w32, w64, from_le_bytes}
use Rattle.protobuf_parse_records.specs.declared.fault.FaultKind.{FaultKind}
use Rattle.protobuf_parse_records.specs.declared.fault.FaultKind.TheVariants as kind
use Rattle.protobuf_parse_records.specs.declared.wire.WireType.{WireType}
use Rattle.protobuf_parse_records.specs.declared.wire.WireType.TheVariants as wire
use Rattle.protobuf_parse_records.specs.Views.{Extent, Content, WireRecord, varint, fixed64}
use Rattle.protobuf_parse_records.specs.Views.{fixed32, delimited, group}
use Rattle.protobuf_parse_records.specs.Wire.{Answer, ◌>>=◌, fault, standing_at, behind, up_to}
use Rattle.protobuf_parse_records.specs.Wire.{varint_within, varint_at, bytes_at, delimited_at}
use Rattle.protobuf_parse_records.specs.Wire.{fixed32_at, fixed64_at, wire_type, is_field_number}
use Rattle.protobuf_parse_records.specs.Wire.{if_known, tag_at}
use Rattle.protobuf_parse_records.specs.Splitting.{innermost, most_groups, passed, step_at}
use Rattle.protobuf_parse_records.specs.Splitting.{closed_within, group_end_at, payload_at}
use Rattle.protobuf_parse_records.specs.Splitting.{record_at, records_within}
use Rattle.protobuf_parse_records.specs.Laws.{later, content_later, record_later, answer_later}
use Rattle.protobuf_parse_records.specs.Laws.{records_later, OffsetsCountOn}
use Rattle.protobuf_parse_records.proofs.Steady.{Reader}

module _ (by : ℕ) where
  -- a value and what stands behind it, later
  abbrev both_later : {A : Type 0} → (A → A) → Answer (A × Extent) → Answer (A × Extent)
  both_later {A} change answer =
      answer_later by (λ (x : A × Extent). (change x.0, later by x.1)) answer

  -- The reader gives the same, later.
  abbrev IsLater : {A : Type 0} → (A → A) → Reader A → Reader A → Type 0
  IsLater {A} change read read' = (s : Extent) → read' (later by s) ≡ both_later change (read s)

  abbrev same : {A : Type 0} → A → A
  same x = x

  then_later : {A B : Type 0} (change : A → A) (change' : B → B) (read : Reader A)
      (next : ℕ → A → Reader B) → IsLater change read read
      → ((start : ℕ) (x : A) → IsLater change' (next start x) (next (start + by) (change x)))
      → IsLater change' (λ s. read s >>= λ (x : A × Extent). next s.start x.0 x.1)
      (λ s. read s >>= λ (x : A × Extent). next s.start x.0 x.1)
  then_later {A} {B} change change' read next first second s =
      rw (first s) (by_answer (read s))
    where
      by_answer : (r : Answer (A × Extent))
          → (both_later change r >>= λ (x : A × Extent). next (s.start + by) x.0 x.1)
          ≡ both_later change' (r >>= λ (x : A × Extent). next s.start x.0 x.1)
      by_answer (Ok x) = second s.start x.0 x.1
      by_answer (Err f) = refl

  map_later : {A B : Type 0} (change : A → A) (change' : B → B) (read : Reader A) (f : A → B)
      → ((x : A) → f (change x) ≡ change' (f x)) → IsLater change read read
      → IsLater change' (λ s. read s >>= λ (x : A × Extent). Ok (f x.0, x.1))
      (λ s. read s >>= λ (x : A × Extent). Ok (f x.0, x.1))
  map_later {A} {B} change change' read f alike first s = rw (first s) (by_answer (read s))
    where
      by_answer : (r : Answer (A × Extent))
          → (both_later change r >>= λ (x : A × Extent). Ok (f x.0, x.1))
          ≡ both_later change' (r >>= λ (x : A × Extent). Ok (f x.0, x.1))
      by_answer (Ok x) = ap (λ (y : B). Ok (y, later by x.1)) (alike x.0)
      by_answer (Err g) = refl

  -- ---- numbers and bytes

  behind_later : (s : Extent) (rest : List ℕ)
      → behind (later by s) rest ≡ later by (behind s rest)
  behind_later s rest = ap (λ (n : ℕ). record { start = n; bytes = rest }) start_is
    where
      start_is : s.start + by + (length s.bytes - length rest)
          ≡ s.start + (length s.bytes - length rest) + by
      start_is = omega arith

  varint_later : IsLater same varint_at varint_at
  unfolding varint_at
  varint_later s = by_answer (varint_within 10 s.bytes)
    where
      by_answer : (r : Result (ℕ × List ℕ) FaultKind)
          → (standing_at (s.start + by) r >>= λ (n : ℕ × List ℕ). Ok (n.0, behind (later by s) n.1))
          ≡ both_later same
          (standing_at s.start r >>= λ (n : ℕ × List ℕ). Ok (n.0, behind s n.1))
      by_answer (Ok n) = ap (λ (z : Extent). Ok (n.0, z)) (behind_later s n.1)
      by_answer (Err what) = refl

  bytes_later : (count : ℕ) → IsLater (later by) (bytes_at count) (bytes_at count)
  unfolding bytes_at
  bytes_later count s = by_length (ltb (length s.bytes) count)
    where
      part : Extent
      part = record { start = s.start; bytes = take count s.bytes }

      by_length : (few : Bool)
          → if◌then◌else◌ {A = Answer (Extent × Extent)} few
          (fault (s.start + by) kind.Truncated)
          (Ok (
            record { start = s.start + by; bytes = take count s.bytes },
            behind (later by s) (drop count s.bytes),
          ))
          ≡ both_later (later by) (if◌then◌else◌ {A = Answer (Extent × Extent)} few
          (fault s.start kind.Truncated)
          (Ok (
            record { start = s.start; bytes = take count s.bytes },
            behind s (drop count s.bytes),
          )))
      by_length true = refl
      by_length false = ap (λ (z : Extent). Ok (
        record {
          start = s.start + by;
          bytes = take count s.bytes;
        },
        z,
      )) (behind_later s (drop count s.bytes))

  delimited_is_later : IsLater (later by) delimited_at delimited_at
  unfolding delimited_at
  delimited_is_later = then_later same (later by) varint_at (λ start count. bytes_at count)
      varint_later (λ start count. bytes_later count)

  fixed32_later : IsLater same fixed32_at fixed32_at
  unfolding fixed32_at
  fixed32_later = map_later (later by) same (bytes_at 4)
      (λ (four : Extent). from_le_bytes w32 four.bytes) (λ four. refl) (bytes_later 4)

  fixed64_later : IsLater same fixed64_at fixed64_at
  unfolding fixed64_at
  fixed64_later = map_later (later by) same (bytes_at 8)
      (λ (eight : Extent). from_le_bytes w64 eight.bytes) (λ eight. refl) (bytes_later 8)

  -- ---- tags

  tag_later : IsLater same tag_at tag_at
  unfolding tag_at
  tag_later = then_later same same varint_at
      (λ start tag rest. if is_field_number (tag / 8)
      then if_known start (tag / 8) (wire_type (tag % 8)) rest else fault start kind.BadFieldNumber)
      varint_later (λ start tag s. by_number start tag s (is_field_number (tag / 8)))
    where
      by_type : (start number : ℕ) (w : Option WireType) (s : Extent)
          → if_known (start + by) number w (later by s)
          ≡ both_later same (if_known start number w s)
      by_type start number None s = refl
      by_type start number (Some w) s = refl

      by_number : (start tag : ℕ) (s : Extent) (good : Bool)
          → if◌then◌else◌ {A = Answer ((ℕ × WireType) × Extent)} good
          (if_known (start + by) (tag / 8) (wire_type (tag % 8)) (later by s))
          (fault (start + by) kind.BadFieldNumber)
          ≡ both_later same (if◌then◌else◌ {A = Answer ((ℕ × WireType) × Extent)} good
          (if_known start (tag / 8) (wire_type (tag % 8)) s) (fault start kind.BadFieldNumber))
      by_number start tag s true = by_type start (tag / 8) (wire_type (tag % 8)) s
      by_number start tag s false = refl

  -- ---- groups

  passed_later : (at : ℕ) (groups : List ℕ) (number : ℕ) (w : WireType)
      → IsLater same (passed at groups number w) (passed (at + by) groups number w)
  unfolding passed
  passed_later at groups number wire.Varint =
      map_later same same varint_at (λ (n : ℕ). groups) (λ n. refl) varint_later
  passed_later at groups number wire.Fixed64 =
      map_later same same fixed64_at (λ (n : ℕ). groups) (λ n. refl) fixed64_later
  passed_later at groups number wire.Delimited =
      map_later (later by) same delimited_at (λ (inside : Extent). groups) (λ inside. refl)
      delimited_is_later
  passed_later at groups number wire.GroupStart =
      λ s. by_count s (ltb (length groups) most_groups)
    where
      by_count : (s : Extent) (few : Bool)
          → if◌then◌else◌ {A = Answer (List ℕ × Extent)} few
          (Ok (groups ++ number ∷ [], later by s)) (fault (at + by) kind.TooManyGroups)
          ≡ both_later same (if◌then◌else◌ {A = Answer (List ℕ × Extent)} few
          (Ok (groups ++ number ∷ [], s)) (fault at kind.TooManyGroups))
      by_count s true = refl
      by_count s false = refl
  passed_later at groups number wire.GroupEnd =
      λ s. by_innermost s (innermost groups == number)
    where
      by_innermost : (s : Extent) (same_number : Bool)
          → if◌then◌else◌ {A = Answer (List ℕ × Extent)} same_number
          (Ok (take (length groups - 1) groups, later by s))
          (fault (at + by) kind.UnmatchedGroupEnd)
          ≡ both_later same (if◌then◌else◌ {A = Answer (List ℕ × Extent)} same_number
          (Ok (take (length groups - 1) groups, s)) (fault at kind.UnmatchedGroupEnd))
      by_innermost s true = refl
      by_innermost s false = refl
  passed_later at groups number wire.Fixed32 =
      map_later same same fixed32_at (λ (n : ℕ). groups) (λ n. refl) fixed32_later

  step_later : (groups : List ℕ) → IsLater same (step_at groups) (step_at groups)
  unfolding step_at
  step_later groups = then_later same same tag_at (λ start tag. passed start groups tag.0 tag.1)
      tag_later (λ start tag. passed_later start groups tag.0 tag.1)

  closed_later : (most : ℕ) (last : Extent) (groups : List ℕ) (s : Extent)
      → closed_within most (later by last) groups (later by s)
      ≡ both_later (later by) (closed_within most last groups s)
  unfolding closed_within
  closed_later zero last [] s = refl
  closed_later (suc most) last [] s = refl
  closed_later zero last (g ∷ gs) s = refl
  closed_later (suc most) last (g ∷ gs) s =
      rw (step_later (g ∷ gs) s)
      (by_answer (step_at (g ∷ gs) s) (λ groups rest. closed_later most s groups rest))
    where
      by_answer : (r : Answer (List ℕ × Extent))
          → ((groups : List ℕ) (rest : Extent)
          → closed_within most (later by s) groups (later by rest)
          ≡ both_later (later by) (closed_within most s groups rest))
          → (both_later same r
          >>= λ (x : List ℕ × Extent). closed_within most (later by s) x.0 x.1)
          ≡ both_later (later by)
          (r >>= λ (x : List ℕ × Extent). closed_within most s x.0 x.1)
      by_answer (Ok x) others = others x.0 x.1
      by_answer (Err f) others = refl

  group_end_later : (number : ℕ) → IsLater (later by) (group_end_at number) (group_end_at number)
  unfolding group_end_at
  group_end_later number s = closed_later (suc (length s.bytes)) s (number ∷ []) s

  -- ---- records

  payload_later : (at number : ℕ) (w : WireType)
      → IsLater (content_later by) (payload_at at number w) (payload_at (at + by) number w)
  unfolding payload_at
  payload_later at number wire.Varint =
      map_later same (content_later by) varint_at varint (λ n. refl) varint_later
  payload_later at number wire.Fixed64 =
      map_later same (content_later by) fixed64_at fixed64 (λ n. refl) fixed64_later
  payload_later at number wire.Delimited =
      map_later (later by) (content_later by) delimited_at delimited (λ s. refl)
      delimited_is_later
  payload_later at number wire.GroupStart =
      λ s. rw (group_end_later number s) (by_answer s (group_end_at number s))
    where
      by_answer : (s : Extent) (r : Answer (Extent × Extent))
          → (both_later (later by) r
          >>= λ (end : Extent × Extent). Ok (group (up_to (later by s) end.0), end.1))
          ≡ both_later (content_later by)
          (r >>= λ (end : Extent × Extent). Ok (group (up_to s end.0), end.1))
      by_answer s (Ok x) = refl
      by_answer s (Err f) = refl
  payload_later at number wire.GroupEnd = λ s. refl
  payload_later at number wire.Fixed32 =
      map_later same (content_later by) fixed32_at fixed32 (λ n. refl) fixed32_later

  record_is_later : IsLater (record_later by) record_at record_at
  unfolding record_at
  record_is_later s = rw (tag_later s) (by_tag (tag_at s))
    where
      by_payload : (number : ℕ) (r : Answer (Content × Extent))
          → (both_later (content_later by) r >>= λ (p : Content × Extent). Ok (
            record {
              number = number;
              whole = up_to (later by s) p.1;
              content = p.0;
            },
            p.1,
          ))
          ≡ both_later (record_later by) (r >>= λ (p : Content × Extent). Ok (
            record {
              number = number;
              whole = up_to s p.1;
              content = p.0;
            },
            p.1,
          ))
      by_payload number (Ok p) = refl
      by_payload number (Err f) = refl

      by_tag : (r : Answer ((ℕ × WireType) × Extent))
          → (both_later same r >>= λ (tag : (ℕ × WireType) × Extent).
          payload_at (s.start + by) tag.0.0 tag.0.1 tag.1 >>= λ (p : Content × Extent).
          Ok (record { number = tag.0.0; whole = up_to (later by s) p.1; content = p.0 }, p.1))
          ≡ both_later (record_later by) (r >>= λ (tag : (ℕ × WireType) × Extent).
          payload_at s.start tag.0.0 tag.0.1 tag.1 >>= λ (p : Content × Extent).
          Ok (record { number = tag.0.0; whole = up_to s p.1; content = p.0 }, p.1))
      by_tag (Ok tag) = rw (payload_later s.start tag.0.0 tag.0.1 tag.1)
          (by_payload tag.0.0 (payload_at s.start tag.0.0 tag.0.1 tag.1))
      by_tag (Err f) = refl

  records_are_later : (most start : ℕ) (bs : List ℕ)
      → records_within most (start + by) bs ≡ records_later by (records_within most start bs)
  unfolding records_within
  records_are_later zero start [] = refl
  records_are_later (suc most) start [] = refl
  records_are_later zero start (b ∷ bs) = refl
  records_are_later (suc most) start (b ∷ bs) =
      rw (record_is_later (record { start = start; bytes = b ∷ bs }))
      (by_first (record_at (record { start = start; bytes = b ∷ bs }))
      (λ from rest. records_are_later most from rest))
    where
      by_others : (first : WireRecord) (r : Answer (List WireRecord))
          → (records_later by r
          >>= λ (others : List WireRecord). Ok (record_later by first ∷ others))
          ≡ records_later by (r >>= λ (others : List WireRecord). Ok (first ∷ others))
      by_others first (Ok others) = refl
      by_others first (Err f) = refl

      by_first : (r : Answer (WireRecord × Extent))
          → ((from : ℕ) (rest : List ℕ) → records_within most (from + by) rest
          ≡ records_later by (records_within most from rest))
          → (both_later (record_later by) r >>= λ (x : WireRecord × Extent).
          records_within most x.1.start x.1.bytes
          >>= λ (others : List WireRecord). Ok (x.0 ∷ others))
          ≡ records_later by (r >>= λ (x : WireRecord × Extent).
          records_within most x.1.start x.1.bytes
          >>= λ (others : List WireRecord). Ok (x.0 ∷ others))
      by_first (Ok x) others = rw (others x.1.start x.1.bytes)
          (by_others x.0 (records_within most x.1.start x.1.bytes))
      by_first (Err f) others = refl

pub offsets_count_on : OffsetsCountOn
offsets_count_on by s = records_are_later by (length s.bytes) s.start s.bytes
