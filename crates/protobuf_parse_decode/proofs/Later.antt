-- What bytes mean does not depend on where they start; only the offsets of faults do.
use Rattle.std.proofs.Common.{◌≡◌, ℕ, zero, suc, ◌+◌, ◌-◌, ltb, Bool, true, false, List, [], ◌∷◌}
use Rattle.std.proofs.Common.{length, take, drop, map, Option, Some, None, Result, Ok, Err, cond}
use Rattle.std.proofs.Common.{refl, ap, ◌∙◌, arith}
use Rattle.std.specs.Prelude.{if◌then◌else◌}
use Rattle.std.specs.Int.{w32, w64, from_le_bytes}
use Rattle.std.specs.Str.{is_utf8}
use Rattle.protobuf_parse_records.specs.declared.fault.FaultKind.{FaultKind}
use Rattle.protobuf_parse_records.specs.declared.fault.FaultKind.TheVariants as faults
use Rattle.protobuf_parse_records.specs.Views.{Extent, Content, WireRecord}
use Rattle.protobuf_parse_records.specs.Views as content
use Rattle.protobuf_parse_records.specs.Wire.{◌>>=◌, behind, bytes_at, fixed32_at, fixed64_at}
use Rattle.protobuf_parse_records.specs.Wire.{standing_at, varint_at, varint_within}
use Rattle.protobuf_parse_records.specs.Wire as wire
use Rattle.protobuf_parse_records.specs.Splitting.{records_in}
use Rattle.protobuf_parse_records.specs.Laws.{answer_later, content_later, later, record_later}
use Rattle.protobuf_parse_records.proofs.Later as records
use Rattle.protobuf_parse_model.specs.Descriptors.{Text}
use Rattle.protobuf_parse_wire.specs.Kinds.{Word, varint, eight_bytes, four_bytes}
use Rattle.protobuf_parse_decode.specs.declared.fault.DecodeFaultKind.TheVariants as kind
use Rattle.protobuf_parse_decode.specs.Answers.{Answer, fault, found, on_wire}
use Rattle.protobuf_parse_decode.specs.Declarations.{Declared, Enter, FieldsByNumber}
use Rattle.protobuf_parse_decode.specs.Decoding.{Inner, by_sort, bytes_in, fields_of, group_in}
use Rattle.protobuf_parse_decode.specs.Decoding.{if_same, meaning_of, message_in, message_within}
use Rattle.protobuf_parse_decode.specs.Decoding.{numbers_in, packed, packed_within, same_word}
use Rattle.protobuf_parse_decode.specs.Decoding.{string_in, text_in, word_at}
use Rattle.protobuf_parse_decode.specs.Fields.{Value, Values, Meaning, Fields, text, value, known}
use Rattle.protobuf_parse_decode.specs.Fields.{message, field, one_value}
use Rattle.protobuf_parse_decode.specs.Sorts as sorts
use Rattle.protobuf_parse_decode.specs.Sorts.{Says, Sort}

-- the same answer, its fault that much later
abbrev pub put_off : {A : Type 0} → ℕ → Answer A → Answer A
put_off by (Ok x) = Ok x
put_off by (Err f) = Err (record { at = f.at + by; kind = f.kind })

module _ (by : ℕ) where
  -- ---- steps

  then_later : {A B : Type 0} (r : Answer A) (f g : A → Answer B)
      → ((x : A) → g x ≡ put_off by (f x)) → (put_off by r >>= g) ≡ put_off by (r >>= f)
  then_later (Ok x) f g alike = alike x
  then_later (Err e) f g alike = refl

  -- an answer of records, what it gives changed
  wire_later : {A B : Type 0} (change : A → A) (r : wire.Answer A) (f g : A → Answer B)
      → ((x : A) → g (change x) ≡ put_off by (f x))
      → (on_wire (answer_later by change r) >>= g) ≡ put_off by (on_wire r >>= f)
  wire_later change (Ok x) f g alike = alike x
  wire_later change (Err e) f g alike = refl

  -- ---- numbers

  abbrev Number : Type 0
  Number = ℕ × Extent

  abbrev number_later : Number → Number
  number_later x = (x.0, later by x.1)

  behind_later : (s : Extent) (rest : List ℕ)
      → behind (later by s) rest ≡ later by (behind s rest)
  behind_later s rest = ap (λ (n : ℕ). record { start = n; bytes = rest }) start_is
    where
      start_is : s.start + by + (length s.bytes - length rest)
          ≡ s.start + (length s.bytes - length rest) + by
      start_is = omega arith

  varint_later : (s : Extent) → varint_at (later by s) ≡ answer_later by number_later (varint_at s)
  unfolding varint_at
  varint_later s = by_answer (varint_within 10 s.bytes)
    where
      by_answer : (r : Result (ℕ × List ℕ) FaultKind)
          → (standing_at (s.start + by) r >>= λ (n : ℕ × List ℕ). Ok (n.0, behind (later by s) n.1))
          ≡ answer_later by number_later
          (standing_at s.start r >>= λ (n : ℕ × List ℕ). Ok (n.0, behind s n.1))
      by_answer (Ok n) = ap (λ (z : Extent). Ok (n.0, z)) (behind_later s n.1)
      by_answer (Err what) = refl

  fixed_later : (count : ℕ) (f : List ℕ → ℕ) (s : Extent)
      → (bytes_at count (later by s) >>= λ (x : Extent × Extent). Ok (f x.0.bytes, x.1))
      ≡ answer_later by number_later
      (bytes_at count s >>= λ (x : Extent × Extent). Ok (f x.0.bytes, x.1))
  unfolding bytes_at
  fixed_later count f s = by_length (ltb (length s.bytes) count)
    where
      by_length : (few : Bool)
          → (if◌then◌else◌ {A = wire.Answer (Extent × Extent)} few
          (wire.fault (s.start + by) faults.Truncated)
          (Ok (
            record { start = s.start + by; bytes = take count s.bytes },
            behind (later by s) (drop count s.bytes),
          )) >>= λ (x : Extent × Extent). Ok (f x.0.bytes, x.1))
          ≡ answer_later by number_later (if◌then◌else◌ {A = wire.Answer (Extent × Extent)} few
          (wire.fault s.start faults.Truncated)
          (Ok (
            record { start = s.start; bytes = take count s.bytes },
            behind s (drop count s.bytes),
          )) >>= λ (x : Extent × Extent). Ok (f x.0.bytes, x.1))
      by_length true = refl
      by_length false = ap (λ (z : Extent). Ok (f (take count s.bytes), z))
          (behind_later s (drop count s.bytes))

  word_later : (w : Word) (s : Extent)
      → word_at w (later by s) ≡ answer_later by number_later (word_at w s)
  unfolding fixed32_at fixed64_at
  word_later varint s = varint_later s
  word_later eight_bytes s = fixed_later 8 (from_le_bytes w64) s
  word_later four_bytes s = fixed_later 4 (from_le_bytes w32) s

  packed_later : (w : Word) (says : Says) (most start : ℕ) (bs : List ℕ)
      → packed_within w says most (start + by) bs ≡ put_off by (packed_within w says most start bs)
  unfolding packed_within
  packed_later w says most start [] = refl
  packed_later w says zero start (b ∷ bs) = refl
  packed_later w says (suc most) start (b ∷ bs) =
      rw (word_later w (record { start = start; bytes = b ∷ bs }))
      (wire_later number_later (word_at w (record { start = start; bytes = b ∷ bs }))
      (λ (first : Number). packed_within w says most first.1.start first.1.bytes
      >>= λ (others : Values). Ok (value (says first.0) others))
      (λ (first : Number). packed_within w says most first.1.start first.1.bytes
      >>= λ (others : Values). Ok (value (says first.0) others))
      (λ (first : Number).
      ap (λ (r : Answer Values). r >>= λ (others : Values). Ok (value (says first.0) others))
      (packed_later w says most first.1.start first.1.bytes)
      ∙ then_later (packed_within w says most first.1.start first.1.bytes)
      (λ (others : Values). Ok (value (says first.0) others))
      (λ (others : Values). Ok (value (says first.0) others)) (λ others. refl)))

  same_later : (b : Bool) (v : Value) → if_same b v ≡ put_off by (if_same b v)
  same_later true v = refl
  same_later false v = refl

  numbers_later : (w : Word) (says : Says) (repeated : Bool) (p : Content)
      → numbers_in w says repeated (content_later by p) ≡ put_off by (numbers_in w says repeated p)
  numbers_later w says repeated (content.varint n) = same_later (same_word w varint) (says n)
  numbers_later w says repeated (content.fixed64 n) = same_later (same_word w eight_bytes) (says n)
  numbers_later w says repeated (content.fixed32 n) = same_later (same_word w four_bytes) (says n)
  numbers_later w says true (content.delimited s) =
      ap (λ (r : Answer Values). r >>= λ (vs : Values). Ok (known vs))
      (packed_later w says (length s.bytes) s.start s.bytes)
      ∙ then_later (packed w says s) (λ (vs : Values). Ok (known vs))
      (λ (vs : Values). Ok (known vs)) (λ vs. refl)
  numbers_later w says false (content.delimited s) = refl
  numbers_later w says repeated (content.group s) = refl

  -- ---- strings and bytes

  bytes_later : (p : Content) → bytes_in (content_later by p) ≡ put_off by (bytes_in p)
  bytes_later (content.delimited s) = refl
  bytes_later (content.varint n) = refl
  bytes_later (content.fixed64 n) = refl
  bytes_later (content.fixed32 n) = refl
  bytes_later (content.group s) = refl

  text_later : (p : Content) → text_in (content_later by p) ≡ put_off by (text_in p)
  text_later (content.delimited s) = by_test (is_utf8 s.bytes)
    where
      by_test : (b : Bool)
          → cond b (Ok (one_value (text s.bytes))) (fault (s.start + by) kind.NotUtf8)
          ≡ put_off by (cond b (Ok (one_value (text s.bytes))) (fault s.start kind.NotUtf8))
      by_test true = refl
      by_test false = refl
  text_later (content.varint n) = refl
  text_later (content.fixed64 n) = refl
  text_later (content.fixed32 n) = refl
  text_later (content.group s) = refl

  string_later : (utf8 : Bool) (p : Content)
      → string_in utf8 (content_later by p) ≡ put_off by (string_in utf8 p)
  string_later true p = text_later p
  string_later false p = bytes_later p

  -- ---- messages

  -- What stands inside means the same, later.
  abbrev IsLater : Inner → Type 0
  IsLater inner = (at : ℕ) (name : Option Text) (s : Extent)
      → inner (at + by) name (later by s) ≡ put_off by (inner at name s)

  one_later : (inner : Inner) → IsLater inner → (at : ℕ) (name : Option Text) (s : Extent)
      → (inner (at + by) name (later by s) >>= λ (fs : Fields). Ok (one_value (message fs)))
      ≡ put_off by (inner at name s >>= λ (fs : Fields). Ok (one_value (message fs)))
  one_later inner alike at name s =
      ap (λ (r : Answer Fields). r >>= λ (fs : Fields). Ok (one_value (message fs)))
      (alike at name s)
      ∙ then_later (inner at name s) (λ (fs : Fields). Ok (one_value (message fs)))
      (λ (fs : Fields). Ok (one_value (message fs))) (λ fs. refl)

  inside_later : (inner : Inner) → IsLater inner → (at : ℕ) (name : Option Text) (p : Content)
      → message_in inner (at + by) name (content_later by p)
      ≡ put_off by (message_in inner at name p)
  inside_later inner alike at name (content.delimited s) = one_later inner alike at name s
  inside_later inner alike at name (content.varint n) = refl
  inside_later inner alike at name (content.fixed64 n) = refl
  inside_later inner alike at name (content.fixed32 n) = refl
  inside_later inner alike at name (content.group s) = refl

  group_later : (inner : Inner) → IsLater inner → (at : ℕ) (name : Option Text) (p : Content)
      → group_in inner (at + by) name (content_later by p) ≡ put_off by (group_in inner at name p)
  group_later inner alike at name (content.group s) = one_later inner alike at name s
  group_later inner alike at name (content.varint n) = refl
  group_later inner alike at name (content.fixed64 n) = refl
  group_later inner alike at name (content.fixed32 n) = refl
  group_later inner alike at name (content.delimited s) = refl

  sort_later : (inner : Inner) → IsLater inner → (at : ℕ) (name : Option Text) (repeated : Bool)
      (sort : Sort) (p : Content)
      → by_sort inner (at + by) name repeated sort (content_later by p)
      ≡ put_off by (by_sort inner at name repeated sort p)
  unfolding by_sort
  sort_later inner alike at name repeated (sorts.numbers w says) p = numbers_later w says repeated p
  sort_later inner alike at name repeated (sorts.string utf8) p = string_later utf8 p
  sort_later inner alike at name repeated sorts.octets p = bytes_later p
  sort_later inner alike at name repeated sorts.message p = inside_later inner alike at name p
  sort_later inner alike at name repeated sorts.group p = group_later inner alike at name p

  meaning_later : (inner : Inner) → IsLater inner → (d : Option Declared) (r : WireRecord)
      → meaning_of inner d (record_later by r) ≡ put_off by (meaning_of inner d r)
  unfolding meaning_of
  meaning_later inner alike None r = refl
  meaning_later inner alike (Some f) r =
      sort_later inner alike r.whole.start f.type_name f.repeated f.sort r.content

  pub fields_later : (inner : Inner) → IsLater inner → (declared : FieldsByNumber)
      (rs : List WireRecord)
      → fields_of inner declared (map (record_later by) rs)
      ≡ put_off by (fields_of inner declared rs)
  unfolding fields_of
  fields_later inner alike declared [] = refl
  fields_later inner alike declared (r ∷ rs) =
      rw (meaning_later inner alike (declared r.number) r)
      (then_later (meaning_of inner (declared r.number) r)
      (λ (m : Meaning). fields_of inner declared rs
      >>= λ (others : Fields). Ok (field r.number r.whole.bytes m others))
      (λ (m : Meaning). fields_of inner declared (map (record_later by) rs)
      >>= λ (others : Fields). Ok (field r.number r.whole.bytes m others))
      (λ (m : Meaning).
      ap (λ (x : Answer Fields).
      x >>= λ (others : Fields). Ok (field r.number r.whole.bytes m others))
      (fields_later inner alike declared rs)
      ∙ then_later (fields_of inner declared rs)
      (λ (others : Fields). Ok (field r.number r.whole.bytes m others))
      (λ (others : Fields). Ok (field r.number r.whole.bytes m others)) (λ others. refl)))

  found_later : {A B : Type 0} (at : ℕ) (o : Option A) (f g : A → Answer B)
      → ((x : A) → g x ≡ put_off by (f x))
      → (found (at + by) o >>= g) ≡ put_off by (found at o >>= f)
  found_later at (Some x) f g alike = alike x
  found_later at None f g alike = refl

  pub message_later : (enter : Enter) (levels : ℕ) → IsLater (message_within enter levels)
  unfolding message_within
  message_later enter zero at name s = refl
  message_later enter (suc levels) at name s =
      found_later at (enter name)
      (λ (declared : FieldsByNumber). on_wire (records_in s)
      >>= λ (rs : List WireRecord). fields_of (message_within enter levels) declared rs)
      (λ (declared : FieldsByNumber). on_wire (records_in (later by s))
      >>= λ (rs : List WireRecord). fields_of (message_within enter levels) declared rs)
      (λ (declared : FieldsByNumber).
      ap (λ (r : wire.Answer (List WireRecord)). on_wire r
      >>= λ (rs : List WireRecord). fields_of (message_within enter levels) declared rs)
      (records.offsets_count_on by s)
      ∙ wire_later (map (record_later by)) (records_in s)
      (λ (rs : List WireRecord). fields_of (message_within enter levels) declared rs)
      (λ (rs : List WireRecord). fields_of (message_within enter levels) declared rs)
      (λ (rs : List WireRecord).
      fields_later (message_within enter levels) (message_later enter levels) declared rs))
