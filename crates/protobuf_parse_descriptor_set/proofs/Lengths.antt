-- Lengths before what they are of.
use Rattle.std.proofs.Common.{◌≡◌, ◌≢◌, ◌∙◌, ℕ, ◌+◌, ◌*◌, ◌-◌, ◌/◌, ◌%◌, ◌<◌, ◌≤◌, List, [], ◌∷◌}
use Rattle.std.proofs.Common.{◌++◌, ap, ap₂, sym, refl, subst, append_assoc, length, take, drop}
use Rattle.std.proofs.Common.{set, arith}
use Rattle.std.proofs.lemmas.List.{append-nil, length-append, length-drop, take_at, drop_at}
use Rattle.std.proofs.lemmas.List.{set-append_left, set_split, take_rest, drop_all}
use borrow.Rule.Slice.PartMut.{mid_of, post_of}
use Rattle.std.specs.Prelude.{suc, Result, Ok, Err, OnOk, is_ok, if◌then◌else◌}
use Rattle.protobuf_parse_wire.specs.Encoded.{varint_of, delimited}
use Rattle.protobuf_parse_wire.proofs.Appending.{last}
use Rattle.protobuf_parse_wire.proofs.Encoded.{varint_unique}
use Rattle.protobuf_parse_wire.proofs.Written.{more}
use Rattle.protobuf_parse_descriptor_set.specs.Items.{Items, bytes_of, part, options}
use Rattle.protobuf_parse_descriptor_set.specs.Writing.{Writes}
use Rattle.protobuf_parse_descriptor_set.proofs.Joining.{none_yet, part_is, writes_whole}

-- ---- one byte

pub short_varint : (u : ℕ) → u < 128 → varint_of u ≡ u ∷ []
short_varint u few = sym (varint_unique (u ∷ []) u (last u few))

-- a tag and a number of a byte each are added
pub number_added : (n v : ℕ) (old mid new : List ℕ) → n < 16 → v < 128 → mid ≡ old ++ (n * 8) ∷ []
    → new ≡ mid ++ v ∷ [] → new ≡ old ++ (varint_of (n * 8) ++ varint_of v)
number_added n v old mid new tag few begun is =
    is ∙ ap (λ z. z ++ v ∷ []) begun ∙ append_assoc old ((n * 8) ∷ []) (v ∷ [])
    ∙ ap₂ (λ a b. old ++ (a ++ b)) (sym (short_varint (n * 8) (omega (arith, tag))))
    (sym (short_varint v few))

-- a tag and a length of a byte each, and then what has that length
pub bytes_added : {X E : Type 0} (r : Result X E) (n : ℕ) (bytes old first mid new : List ℕ)
    → n < 16 → length bytes < 128 → first ≡ old ++ (n * 8 + 2) ∷ []
    → mid ≡ first ++ length bytes ∷ [] → new ≡ (if is_ok r then mid ++ bytes else mid)
    → OnOk r (new ≡ old ++ (varint_of (n * 8 + 2) ++ delimited bytes))
bytes_added (Ok x) n bytes old first mid new tag few begun counted is =
    let head : mid ≡ old ++ ((n * 8 + 2) ∷ length bytes ∷ []) =
    counted ∙ ap (λ z. z ++ length bytes ∷ []) begun
    ∙ append_assoc old ((n * 8 + 2) ∷ []) (length bytes ∷ []) in
    is ∙ ap (λ z. z ++ bytes) head ∙ append_assoc old ((n * 8 + 2) ∷ length bytes ∷ []) bytes
    ∙ ap₂ (λ a b. old ++ (a ++ (b ++ bytes)))
    (sym (short_varint (n * 8 + 2) (omega (arith, tag)))) (sym (short_varint (length bytes) few))
bytes_added (Err e) n bytes old first mid new tag few begun counted is = tt

-- of no bytes
pub begun : (n : ℕ) (old new : List ℕ) → new ≡ old ++ (varint_of (n * 8 + 2) ++ delimited [])
    → new ≡ old ++ (varint_of (n * 8 + 2) ++ 0 ∷ [])
begun n old new is =
    is ∙ ap (λ z. old ++ (varint_of (n * 8 + 2) ++ (z ++ []))) (short_varint 0 (omega arith))

pub has_byte : (n : ℕ) (old new : List ℕ) → new ≡ old ++ (varint_of (n * 8 + 2) ++ 0 ∷ [])
    → 1 ≤ length new
has_byte n old new is =
    let tag = varint_of (n * 8 + 2) in
    omega (arith, ap length is, length-append old (tag ++ 0 ∷ []), length-append tag (0 ∷ []))

-- ---- a message behind its length

-- Bytes are written behind a tag and a byte that their length then takes.
pub ended_bytes : (n : ℕ) (bytes old mid new ended : List ℕ) (start : ℕ)
    → mid ≡ old ++ (varint_of (n * 8 + 2) ++ 0 ∷ []) → start + 1 ≡ length mid → new ≡ mid ++ bytes
    → ended ≡ take start new ++ delimited (drop (start + 1) new)
    → ended ≡ old ++ (varint_of (n * 8 + 2) ++ delimited bytes)
ended_bytes n bytes old mid new ended start begun at written is =
    let tag = varint_of (n * 8 + 2) in
    let front : mid ≡ (old ++ tag) ++ 0 ∷ [] = begun ∙ sym (append_assoc old tag (0 ∷ [])) in
    let count : length mid ≡ length (old ++ tag) + 1 =
    ap length front ∙ length-append (old ++ tag) (0 ∷ []) in
    let whole : new ≡ (old ++ tag) ++ 0 ∷ bytes =
    written ∙ ap (λ z. z ++ bytes) front ∙ append_assoc (old ++ tag) (0 ∷ []) bytes in
    let before : take start new ≡ old ++ tag =
    ap (take start) whole ∙ take_at (old ++ tag) (0 ∷ bytes) start (omega (arith, at, count)) in
    let behind : drop (start + 1) new ≡ bytes =
    ap (drop (start + 1)) written ∙ drop_at mid bytes (start + 1) (sym at) in
    is ∙ ap (λ z. z ++ delimited (drop (start + 1) new)) before
    ∙ ap (λ z. (old ++ tag) ++ delimited z) behind ∙ append_assoc old tag (delimited bytes)

pub ended_part : (n : ℕ) (items : Items) (old mid new ended : List ℕ) (start : ℕ)
    → mid ≡ old ++ (varint_of (n * 8 + 2) ++ 0 ∷ []) → start + 1 ≡ length mid → Writes items mid new
    → ended ≡ take start new ++ delimited (drop (start + 1) new) → Writes (part n items) old ended
unfolding part
ended_part n items old mid new ended start begun at w is = record {
  bytes = ended_bytes n (bytes_of items) old mid new ended start begun at w.bytes is
      ∙ ap (λ z. old ++ z) (sym (part_is n items));
  writable = ((tt, w.writable), tt);
}

-- the byte for the length is among what is written
pub is_within : (bytes mid new : List ℕ) (start : ℕ) → start + 1 ≡ length mid → new ≡ mid ++ bytes
    → start < length new
is_within bytes mid new start at written =
    omega (arith, at, ap length written, length-append mid bytes)

pub within : (items : Items) (mid new : List ℕ) (start : ℕ) → start + 1 ≡ length mid
    → Writes items mid new → start < length new
within items mid new start at w = is_within (bytes_of items) mid new start at w.bytes

-- ---- an options message behind its length

-- one in which something is set
pub ended_options : (n : ℕ) (bytes old mid new ended : List ℕ) (start : ℕ)
    → mid ≡ old ++ (varint_of (n * 8 + 2) ++ 0 ∷ []) → start + 1 ≡ length mid → new ≡ mid ++ bytes
    → length new ≢ start + 1 → ended ≡ take start new ++ delimited (drop (start + 1) new)
    → Writes (options n bytes) old ended
ended_options n [] old mid new ended start begun at written some is =
    absurd (some (ap length (written ∙ append-nil mid) ∙ sym at))
ended_options n (b ∷ bs) old mid new ended start begun at written some is =
    writes_whole n (b ∷ bs) old ended
    (ended_bytes n (b ∷ bs) old mid new ended start begun at written is)

-- one in which nothing is set is taken back
pub no_options : (n : ℕ) (bytes old mid new left : List ℕ) (start before : ℕ)
    → mid ≡ old ++ (varint_of (n * 8 + 2) ++ 0 ∷ []) → start + 1 ≡ length mid → new ≡ mid ++ bytes
    → length new ≡ start + 1 → before ≡ length old → left ≡ take before new
    → Writes (options n bytes) old left
no_options n [] old mid new left start before begun at written none count is =
    let tag = varint_of (n * 8 + 2) in
    let same : left ≡ old =
    is ∙ ap (take before) (written ∙ append-nil mid ∙ begun)
    ∙ take_at old (tag ++ 0 ∷ []) before (sym count) in
    subst (Writes [] old) (sym same) (none_yet old)
no_options n (b ∷ bs) old mid new left start before begun at written none count is =
    absurd (omega (arith, at, none, ap length written, length-append mid (b ∷ bs)))

-- ---- a length before what it counts

-- what stands behind the start has that length
length_behind : (all : List ℕ) (start n : ℕ) → n ≡ length all - start - 1
    → length (drop (start + 1) all) ≡ n
length_behind all start n is = omega (arith, is, length-drop (start + 1) all)

set_start : (all : List ℕ) (start n : ℕ) → start < length all
    → set all start n ≡ take start all ++ n ∷ drop (start + 1) all
set_start all start n lt =
    let next : suc start ≡ start + 1 = omega arith in
    set_split all start n lt ∙ ap (λ k. take start all ++ n ∷ drop k all) next

-- of one byte
pub short_length : (all : List ℕ) (start n : ℕ) → start < length all
    → n ≡ length all - start - 1 → n < 128
    → set all start n ≡ take start all ++ delimited (drop (start + 1) all)
short_length all start n lt is few =
    let inside = drop (start + 1) all in
    let one : n ∷ inside ≡ delimited inside =
    ap (λ z. z ++ inside) (sym (short_varint n few))
    ∙ ap (λ k. varint_of k ++ inside) (sym (length_behind all start n is)) in
    set_start all start n lt ∙ ap (λ z. take start all ++ z) one

-- The groups of a length are written behind it, but for a rest.
pub record Groups (n rest : ℕ) (old out : List ℕ) : Type 0 where
  pub written : List ℕ
  pub so_far : out ≡ old ++ written
  pub completes : written ++ varint_of rest ≡ varint_of n

pub no_groups : (n : ℕ) (old : List ℕ) → Groups n n old old
no_groups n old = record { written = []; so_far = sym (append-nil old); completes = refl }

pub next_group : (n rest byte : ℕ) (old out : List ℕ) → 128 ≤ rest → byte ≡ rest % 128 + 128
    → Groups n rest old out → Groups n (rest / 128) old (out ++ byte ∷ [])
next_group n rest byte old out many is g = record {
  written = g.written ++ byte ∷ [];
  so_far = ap (λ z. z ++ byte ∷ []) g.so_far ∙ append_assoc old g.written (byte ∷ []);
  completes = more n rest byte [] g.written many is g.completes;
}

-- how many bytes there are
pub counted : (n rest : ℕ) (old out : List ℕ) → (g : Groups n rest old out)
    → length out ≡ length old + length g.written
counted n rest old out g = ap length g.so_far ∙ length-append old g.written

-- once the rest is put where a byte is kept for the length, what stands from there on
pub from_start : (n rest : ℕ) (old out : List ℕ) (start : ℕ) (g : Groups n rest old out)
    → start < length old
    → set out start rest ≡ take start old ++ ((rest ∷ drop (start + 1) old) ++ g.written)
from_start n rest old out start g lt =
    ap (λ z. set z start rest) g.so_far ∙ set-append_left old g.written start rest lt
    ∙ ap (λ z. z ++ g.written) (set_start old start rest lt)
    ∙ append_assoc (take start old) (rest ∷ drop (start + 1) old) g.written

-- and once the groups are moved before it
pub moved : (n rest : ℕ) (old out : List ℕ) (start : ℕ) (g : Groups n rest old out)
    → rest < 128 → n ≡ length old - start - 1
    → g.written ++ rest ∷ drop (start + 1) old ≡ delimited (drop (start + 1) old)
moved n rest old out start g few is =
    let inside = drop (start + 1) old in
    sym (append_assoc g.written (rest ∷ []) inside)
    ∙ ap (λ z. (g.written ++ z) ++ inside) (sym (short_varint rest few))
    ∙ ap (λ z. z ++ inside) g.completes
    ∙ ap (λ k. varint_of k ++ inside) (sym (length_behind old start n is))

-- a list whose end is moved to the front of a part
pub turned : (all new front inside end tail : List ℕ) (start count len : ℕ)
    → all ≡ front ++ (inside ++ end) → length front ≡ start → length end ≡ count → length all ≡ len
    → new ≡ drop (length (mid_of start (length all - start) all) - count)
    (mid_of start (length all - start) all)
    ++ take (length (mid_of start (length all - start) all) - count)
    (mid_of start (length all - start) all)
    → take len ((take start all ++ (new ++ post_of start (length all - start) all)) ++ tail)
    ≡ front ++ (end ++ inside)
turned all new front inside end tail start count len parts at many whole is =
    let behind : drop start all ≡ inside ++ end =
    ap (drop start) parts ∙ drop_at front (inside ++ end) start at in
    let mid : mid_of start (length all - start) all ≡ inside ++ end = take_rest all start
    ∙ behind in
    let none : post_of start (length all - start) all ≡ [] =
    drop_all (length all - start) (drop start all) (omega (arith, length-drop start all)) in
    let first : length inside ≡ length (inside ++ end) - count =
    omega (arith, length-append inside end, many) in
    let new_is : new ≡ end ++ inside =
    is ∙ ap (λ z. drop (length z - count) z ++ take (length z - count) z) mid
    ∙ ap₂ (λ a b. a ++ b) (drop_at inside end (length (inside ++ end) - count) first)
    (take_at inside end (length (inside ++ end) - count) first) in
    let before : take start all ≡ front =
    ap (take start) parts ∙ take_at front (inside ++ end) start at in
    let whole_is : take start all ++ (new ++ post_of start (length all - start) all)
    ≡ front ++ (end ++ inside) =
    ap₂ (λ a b. a ++ b) before
    (ap₂ (λ a b. a ++ b) new_is none ∙ append-nil (end ++ inside)) in
    let count_is : length (front ++ (end ++ inside)) ≡ len =
    omega (
      arith,
      whole,
      ap length parts,
      length-append front
          (inside ++ end),
      length-append inside end,
      length-append front
          (end ++ inside),
      length-append end inside,
    ) in
    ap (λ z. take len (z ++ tail)) whole_is ∙ take_at (front ++ (end ++ inside)) tail len count_is
