-- Varints that were written are read again.
use Rattle.std.proofs.Common.{◌≡◌, ℕ, zero, suc, ◌+◌, ◌*◌, ◌/◌, ◌%◌, ◌^◌, ◌<◌, ◌≤◌, ltb, Bool, true}
use Rattle.std.proofs.Common.{false, List, [], ◌∷◌, ◌++◌, length, Ok, refl, ap, ◌∙◌, arith}
use Rattle.std.proofs.lemmas.Bool.{lt-ltb, le-ltb, ltb-true, ltb-false}
use Rattle.protobuf_parse_records.specs.Wire.{varint_at, behind}
use Rattle.protobuf_parse_records.specs.Wire.{varint_within as read_within}
use Rattle.protobuf_parse_wire.specs.Encoded.{varint_of}
use Rattle.protobuf_parse_wire.specs.Encoded.{varint_within as written_within}

-- below what the numbers of so many groups of seven bits are
abbrev limit : ℕ → ℕ
limit zero = 1
limit (suc n) = 128 * limit n

-- ---- how a number is written

last_group : (u : ℕ) → written_within zero u ≡ u ∷ []
unfolding written_within
last_group u = refl

small_one : (more u : ℕ) → u < 128 → written_within (suc more) u ≡ u ∷ []
unfolding written_within
small_one more u lt = rw (lt-ltb u 128 lt, written_within) refl

large_one : (more u : ℕ) → 128 ≤ u
    → written_within (suc more) u ≡ (u % 128 + 128) ∷ written_within more (u / 128)
unfolding written_within
large_one more u le = rw (le-ltb u 128 le, written_within) refl

some_bytes : (more u : ℕ) → 0 < length (written_within more u)
some_bytes zero u = rw (last_group u) (omega arith)
some_bytes (suc more) u = by_size (ltb u 128) refl
  where
    by_size : (small : Bool) → ltb u 128 ≡ small → 0 < length (written_within (suc more) u)
    by_size true e = rw (small_one more u (ltb-true u 128 e)) (omega arith)
    by_size false e = rw (large_one more u (ltb-false u 128 e)) (omega arith)

-- a varint has a byte or more
pub some_varint : (u : ℕ) → 0 < length (varint_of u)
some_varint u = some_bytes u u

-- ---- how it is read

reads_last : (room b : ℕ) (bs : List ℕ) → b < 128 → read_within (suc room) (b ∷ bs) ≡ Ok (b, bs)
unfolding read_within
reads_last room b bs lt = rw (lt-ltb b 128 lt) refl

reads_more : (room b high u : ℕ) (bs rest : List ℕ) → 128 ≤ b
    → read_within room bs ≡ Ok (high, rest) → b % 128 + 128 * high ≡ u → u < 2 ^ 64
    → read_within (suc room) (b ∷ bs) ≡ Ok (u, rest)
unfolding read_within
reads_more room b high u bs rest le e is fits =
    rw (le-ltb b 128 le, e, lt-ltb (b % 128 + 128 * high) (2 ^ 64) (omega arith))
    (ap (λ z. Ok (z, rest)) is)

reads_again : (room more u : ℕ) (rest : List ℕ) → u ≤ more → u < limit room → u < 2 ^ 64
    → 0 < room → read_within room (written_within more u ++ rest) ≡ Ok (u, rest)
reads_again zero more u rest le few fits some = absurd (omega arith)
reads_again (suc room) zero u rest le few fits some =
    ap (λ z. read_within (suc room) (z ++ rest)) (last_group u)
    ∙ reads_last room u rest (omega arith)
reads_again (suc room) (suc more) u rest le few fits some =
    by_size (ltb u 128) refl
    (λ many. reads_again room more (u / 128) rest (omega arith) (omega arith) (omega arith)
    (room_left room few many))
  where
    room_left : (room : ℕ) → u < limit (suc room) → 128 ≤ u → 0 < room
    room_left zero few many = absurd (omega arith)
    room_left (suc n) few many = omega arith

    by_size : (small : Bool) → ltb u 128 ≡ small
        → (128 ≤ u → read_within room (written_within more (u / 128) ++ rest) ≡ Ok (u / 128, rest))
        → read_within (suc room) (written_within (suc more) u ++ rest) ≡ Ok (u, rest)
    by_size true e others =
        let lt : u < 128 = ltb-true u 128 e in
        ap (λ z. read_within (suc room) (z ++ rest)) (small_one more u lt)
        ∙ reads_last room u rest lt
    by_size false e others =
        let le : 128 ≤ u = ltb-false u 128 e in
        ap (λ z. read_within (suc room) (z ++ rest)) (large_one more u le)
        ∙ reads_more room (u % 128 + 128) (u / 128) u (written_within more (u / 128) ++ rest) rest
        (omega arith) (others le) (omega arith) fits

-- the number, and what stands behind it
pub varint_again : (start u : ℕ) (rest : List ℕ) → u < 2 ^ 64
    → varint_at (record { start = start; bytes = varint_of u ++ rest })
    ≡ Ok (u, behind (record { start = start; bytes = varint_of u ++ rest }) rest)
unfolding varint_at
varint_again start u rest fits =
    rw (reads_again 10 u u rest (omega arith) (omega arith) fits (omega arith)) refl
