-- What a varint spells is read.
use Rattle.std.proofs.Common.{◌≡◌, ℕ, zero, suc, ◌+◌, ◌*◌, ◌%◌, ◌^◌, ◌<◌, ◌≤◌, false, ltb, List}
use Rattle.std.proofs.Common.{[], ◌∷◌, ◌++◌, length, Result, Ok, refl, ap, ◌∙◌, append_assoc}
use Rattle.std.proofs.Common.{length-append, arith}
use Rattle.std.specs.Int.{w32, w64, to_le_bytes, from_le_bytes}
use Rattle.std.proofs.lemmas.Bool.{le-ltb}
use Rattle.std.proofs.lemmas.List.{take_at, drop_at}
use Rattle.std.proofs.lemmas.Nat.{from_le_bytes-to_le_bytes_4, from_le_bytes-to_le_bytes_8}
use Rattle.protobuf_parse_wire.specs.Wire.{groups, IsChain, EndsAboveZero, IsShortest, IsVarint}
use Rattle.protobuf_parse_wire.specs.Wire.{SaysDelimited}
use Rattle.protobuf_parse_wire.specs.Reading.{◌>>=◌, varint_at, part_at, delimited_at, four_at}
use Rattle.protobuf_parse_wire.specs.Reading.{eight_at}
use Rattle.protobuf_parse_wire.specs.Varints.{IsAnyVarint}
use Rattle.protobuf_parse_wire.proofs.Varints.{varint_reads}

pub positive : (b : ℕ) (bs : List ℕ) → IsChain (b ∷ bs) → EndsAboveZero (b ∷ bs)
    → 0 < groups (b ∷ bs)
positive b [] chain ends = omega arith
positive b (c ∷ bs) chain ends = let h = positive c bs chain.1 ends in omega arith

pub shortest_inside : (c : ℕ) (cs : List ℕ) → EndsAboveZero (c ∷ cs) → IsShortest (c ∷ cs)
shortest_inside c [] ends = tt
shortest_inside c (d ∷ ds) ends = ends

-- what n groups of seven bits are below
abbrev below : ℕ → ℕ
below zero = 1
below (suc n) = 128 * below n

-- the shortest varint has no more bytes than its number needs
few : (n b : ℕ) (bs : List ℕ) → IsChain (b ∷ bs) → IsShortest (b ∷ bs) → 0 < n
    → groups (b ∷ bs) < below n → length (b ∷ bs) ≤ n
few zero b bs chain ends more fits = absurd (omega arith)
few (suc n) b [] chain ends more fits = omega arith
few (suc n) b (c ∷ cs) chain ends more fits =
    let above : 0 < groups (c ∷ cs) = positive c cs chain.1 ends in
    let some : 0 < n = some_left n (b % 128) (groups (c ∷ cs)) above fits in
    let others = few n c cs chain.1 (shortest_inside c cs ends) some (omega arith) in
    omega arith
  where
    some_left : (n low high : ℕ) → 0 < high → low + 128 * high < below (suc n) → 0 < n
    some_left zero low high above fits = absurd (omega arith)
    some_left (suc n) low high above fits = omega arith

-- what is spelled is a varint
pub spelled_varint : (bs : List ℕ) (u : ℕ) → u < 2 ^ 64 → IsVarint bs u → IsAnyVarint bs u
spelled_varint [] u lt h = absurd h.chain
spelled_varint (b ∷ bs) u lt h =
    let is = h.value in
    record {
      chain = h.chain;
      at_most_ten = few 10 b bs h.chain h.shortest (omega arith) (omega arith);
      value = h.value;
      fits = lt;
    }

pub varint_again : (bs : List ℕ) (u : ℕ) (rest : List ℕ) → u < 2 ^ 64 → IsVarint bs u
    → varint_at 10 (bs ++ rest) ≡ Ok (u, rest)
varint_again bs u rest lt h = varint_reads.gives bs u rest (spelled_varint bs u lt h)

pub part_again : (text rest : List ℕ) (n : ℕ) → length text ≡ n
    → part_at n (text ++ rest) ≡ Ok (text, rest)
unfolding part_at
part_again text rest n e =
    let enough : ltb (length (text ++ rest)) n
    ≡ false = le-ltb _ _ (omega (arith, length-append text rest)) in
    rw (enough, take_at text rest n e, drop_at text rest n e) refl

pub delimited_again : (text bs rest : List ℕ) → length text < 2 ^ 64 → SaysDelimited text bs
    → delimited_at (bs ++ rest) ≡ Ok (text, rest)
unfolding delimited_at
delimited_again text bs rest lt h =
    let e : bs ++ rest ≡ h.front ++ (text ++ rest) = ap (λ (x : List ℕ). x ++ rest) h.parts
    ∙ append_assoc h.front text rest in
    rw (e, varint_again h.front (length text) (text ++ rest) lt h.length_first)
    (part_again text rest (length text) refl)

pub four_again : (u : ℕ) (rest : List ℕ) → u < 2 ^ 32
    → four_at (to_le_bytes w32 u ++ rest) ≡ Ok (u, rest)
unfolding four_at
four_again u rest lt =
    ap (λ (r : Result (List ℕ × List ℕ) _). r >>= λ part. Ok (from_le_bytes w32 part.0, part.1))
    (part_again (to_le_bytes w32 u) rest 4 refl)
    ∙ ap (λ (x : ℕ). Ok (x, rest)) (from_le_bytes-to_le_bytes_4 u lt)

pub eight_again : (u : ℕ) (rest : List ℕ) → u < 2 ^ 64
    → eight_at (to_le_bytes w64 u ++ rest) ≡ Ok (u, rest)
unfolding eight_at
eight_again u rest lt =
    ap (λ (r : Result (List ℕ × List ℕ) _). r >>= λ part. Ok (from_le_bytes w64 part.0, part.1))
    (part_again (to_le_bytes w64 u) rest 8 refl)
    ∙ ap (λ (x : ℕ). Ok (x, rest)) (from_le_bytes-to_le_bytes_8 u lt)
