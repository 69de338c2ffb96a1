-- Seven low bits and the bits above them.
use Rattle.std.proofs.Common.{◌≡◌, ℕ, zero, suc, ◌+◌, ◌-◌, ◌*◌, ◌%◌, ◌^◌, ◌<◌, ◌≤◌, List, [], ◌∷◌}
use Rattle.std.proofs.Common.{length, get_or, take, drop, Ok, Err, bit_and, bit_or, refl, sym, ap}
use Rattle.std.proofs.Common.{◌∙◌, arith}
use Rattle.protobuf_parse_wire.specs.declared.fault.ReadFault.{ReadFault}
use Rattle.std.proofs.lemmas.Bool.{lt-ltb, le-ltb}
use Rattle.std.proofs.lemmas.List.{take_all}
use Rattle.protobuf_parse_wire.specs.Reading.{varint_at}
use Rattle.std.proofs.lemmas.Nat.{and_mask, or_shifted, or_comm}

pub joined : (first high : ℕ) → high < 2 ^ 57
    → bit_or (bit_and first 127) (high * 128 % 18446744073709551616) ≡ first % 128 + 128 * high
joined first high lt =
    let shifted : high * 128 % 18446744073709551616 ≡ high * 2 ^ 7 = omega arith in
    let low : bit_and first 127 ≡ first % 2 ^ 7 = and_mask first 7 in
    rw (shifted, low) (or_comm (first % 2 ^ 7) (high * 2 ^ 7)
    ∙ or_shifted high 7 (first % 2 ^ 7) (omega arith) ∙ omega arith)

-- a byte that has the high bit, and what the bytes after it say
pub varint_more : (room : ℕ) (bs : List ℕ) (high : ℕ) (rest : List ℕ) (low : ℕ) → (room ≡ 0 → ⊥)
    → 1 ≤ length bs → 128 ≤ get_or bs 0 0
    → varint_at (room - 1) (take (length bs - 1) (drop 1 bs)) ≡ Ok (high, rest) → high < 2 ^ 57
    → low ≡ bit_and (get_or bs 0 0) 127
    → varint_at room bs ≡ Ok (bit_or low (high * 128 % 18446744073709551616), rest)
unfolding varint_at
varint_more zero bs high rest low some long continues e small is = absurd (some refl)
varint_more (suc n) [] high rest low some long continues e small is = absurd (omega arith)
varint_more (suc n) (b ∷ bs) high rest low some long continues e small is =
    let k : suc n - 1 ≡ n = omega arith in
    let e' : varint_at n bs ≡ Ok (high, rest) = ap (λ (m : ℕ). varint_at m bs) (sym k)
    ∙ ap (varint_at (suc n - 1)) (sym (take_all (suc (length bs) - 1) bs (omega arith))) ∙ e in
    rw (le-ltb b 128 continues, e', lt-ltb (b % 128 + 128 * high) (2 ^ 64) (omega arith), is)
    (ap (λ (x : ℕ). Ok (x, rest)) (sym (joined b high small)))

-- the same where those bytes hold no varint
pub varint_stops : (room : ℕ) (bs : List ℕ) (e : ReadFault) → (room ≡ 0 → ⊥) → 1 ≤ length bs
    → 128 ≤ get_or bs 0 0 → varint_at (room - 1) (take (length bs - 1) (drop 1 bs)) ≡ Err e
    → varint_at room bs ≡ Err e
unfolding varint_at
varint_stops zero bs e some long continues stops = absurd (some refl)
varint_stops (suc n) [] e some long continues stops = absurd (omega arith)
varint_stops (suc n) (b ∷ bs) e some long continues stops =
    let k : suc n - 1 ≡ n = omega arith in
    let stops' : varint_at n bs ≡ Err e = ap (λ m. varint_at m bs) (sym k)
    ∙ ap (varint_at (suc n - 1)) (sym (take_all (suc (length bs) - 1) bs (omega arith)))
    ∙ stops in
    rw (le-ltb b 128 continues, stops') refl
