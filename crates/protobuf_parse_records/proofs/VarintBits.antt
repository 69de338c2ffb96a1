-- A varint's first byte, and the number in those behind it.
use Rattle.std.proofs.Common.{◌≡◌, ℕ, zero, suc, ◌+◌, ◌-◌, ◌*◌, ◌%◌, ◌^◌, ◌<◌, ◌≤◌, List, [], ◌∷◌}
use Rattle.std.proofs.Common.{length, get_or, take, drop, Ok, Err, bit_and, bit_or, refl, sym, ap}
use Rattle.std.proofs.Common.{◌∙◌, arith}
use Rattle.std.proofs.lemmas.Bool.{lt-ltb, le-ltb}
use Rattle.std.proofs.lemmas.List.{take_all}
use Rattle.std.proofs.lemmas.Nat.{and_mask, or_shifted, or_comm}
use Rattle.protobuf_parse_records.specs.declared.fault.FaultKind.{FaultKind}
use Rattle.protobuf_parse_records.specs.Wire.{varint_within}

-- Seven bits, and a number shifted by seven: no bit is in both.
bits_joined : (low high : ℕ) → high < 2 ^ 57
    → bit_or (bit_and low 127) (high * 128 % 18446744073709551616) ≡ low % 128 + 128 * high
bits_joined low high small =
    let shifted : high * 128 % 18446744073709551616 ≡ high * 2 ^ 7 = omega arith in
    let masked : bit_and low 127 ≡ low % 2 ^ 7 = and_mask low 7 in
    rw (shifted, masked) (or_comm (low % 2 ^ 7) (high * 2 ^ 7)
    ∙ or_shifted high 7 (low % 2 ^ 7) (omega arith) ∙ omega arith)

-- all but the first of some bytes, as slices say it
tail_is : (b : ℕ) (bs : List ℕ) → take (length (b ∷ bs) - 1) (drop 1 (b ∷ bs)) ≡ bs
tail_is b bs = take_all (suc (length bs) - 1) bs (omega arith)

-- The first byte goes on, and the others are a varint.
pub goes_on : (most : ℕ) (bs : List ℕ) (high : ℕ) (rest : List ℕ) (low : ℕ) → (most ≡ 0 → ⊥)
    → 1 ≤ length bs → 128 ≤ get_or bs 0 0
    → varint_within (most - 1) (take (length bs - 1) (drop 1 bs)) ≡ Ok (high, rest)
    → high < 2 ^ 57 → low ≡ bit_and (get_or bs 0 0) 127
    → varint_within most bs ≡ Ok (bit_or low (high * 128 % 18446744073709551616), rest)
unfolding varint_within
goes_on zero bs high rest low some long continues others small is = absurd (some refl)
goes_on (suc n) [] high rest low some long continues others small is = absurd (omega arith)
goes_on (suc n) (b ∷ bs) high rest low some long continues others small is =
    let n_is : suc n - 1 ≡ n = omega arith in
    let others' : varint_within n bs ≡ Ok (high, rest) =
    ap (λ (m : ℕ). varint_within m bs) (sym n_is)
    ∙ ap (varint_within (suc n - 1)) (sym (tail_is b bs)) ∙ others in
    rw (le-ltb b 128 continues, others', lt-ltb (b % 128 + 128 * high) (2 ^ 64) (omega arith), is)
    (ap (λ (x : ℕ). Ok (x, rest)) (sym (bits_joined b high small)))

-- The first byte goes on, and the others are none.
pub breaks : (most : ℕ) (bs : List ℕ) (e : FaultKind) → (most ≡ 0 → ⊥) → 1 ≤ length bs
    → 128 ≤ get_or bs 0 0
    → varint_within (most - 1) (take (length bs - 1) (drop 1 bs)) ≡ Err e
    → varint_within most bs ≡ Err e
unfolding varint_within
breaks zero bs e some long continues others = absurd (some refl)
breaks (suc n) [] e some long continues others = absurd (omega arith)
breaks (suc n) (b ∷ bs) e some long continues others =
    let n_is : suc n - 1 ≡ n = omega arith in
    let others' : varint_within n bs ≡ Err e = ap (λ m. varint_within m bs) (sym n_is)
    ∙ ap (varint_within (suc n - 1)) (sym (tail_is b bs)) ∙ others in
    rw (le-ltb b 128 continues, others') refl
