-- Scans of bytes, a byte at a time.
use Rattle.std.proofs.Common.{◌≡◌, ◌∙◌, ◌⊎◌, ℕ, zero, suc, ◌+◌, ◌<◌, ◌≤◌, ◌==◌, ◌&&◌, true, false}
use Rattle.std.proofs.Common.{List, [], ◌∷◌, ap, arith, drop, inl, inr, length, refl, slice_index, sym}
use Rattle.std.proofs.Common.{take}
use Rattle.std.proofs.lemmas.Bool.Decides.{nat_tests}
use Rattle.protobuf_parse_comments.proofs.Items.{left_end}
use Rattle.protobuf_parse_comments.specs.Gaps.{Bytes, Piece, line, block}
use Rattle.protobuf_parse_comments.specs.Pieces.{line_len, block_len, block_text, pieces_behind, pieces}

pub line_here : (z : Bytes) (i : ℕ) → i < length z → slice_index z i ≡ 10
    → line_len (drop i z) ≡ 1
line_here [] i h e = absurd (omega arith)
line_here (b ∷ z) zero h e = rw e refl
line_here (b ∷ z) (suc i) h e = line_here z i (omega arith) e

not_feed : (b : ℕ) → (b ≡ 10 → ⊥) → (b == 10) ≡ false
not_feed b h = grind (arith, nat_tests)

pub line_more : (z : Bytes) (i : ℕ) → i < length z → (slice_index z i ≡ 10 → ⊥)
    → line_len (drop i z) ≡ suc (line_len (drop (i + 1) z))
line_more [] i h e = absurd (omega arith)
line_more (b ∷ z) zero h e = let f = not_feed b e in rw f refl
line_more (b ∷ z) (suc i) h e =
    let k : suc i + 1 ≡ suc (i + 1) = omega arith in
    line_more z i (omega arith) e ∙ ap (λ (n : ℕ). suc (line_len (drop n (b ∷ z)))) (sym k)

pub line_end : (z : Bytes) (i : ℕ) → length z ≤ i → line_len (drop i z) ≡ 0
line_end [] zero h = refl
line_end [] (suc i) h = refl
line_end (b ∷ z) zero h = absurd (omega arith)
line_end (b ∷ z) (suc i) h = line_end z i (omega arith)

pub block_here : (z : Bytes) (i : ℕ) → i < length z
    → (slice_index z i == 42 && slice_index z (i + 1) == 47) ≡ true → block_len (drop i z) ≡ 0
block_here [] i h e = absurd (omega arith)
block_here (b ∷ z) zero h e = rw e refl
block_here (b ∷ z) (suc i) h e =
    let k : suc i + 1 ≡ suc (i + 1) = omega arith in
    block_here z i (omega arith)
    (ap (λ (n : ℕ). slice_index z i == 42 && slice_index (b ∷ z) n == 47) (sym k) ∙ e)

pub block_more : (z : Bytes) (i : ℕ) → i < length z
    → (slice_index z i == 42 && slice_index z (i + 1) == 47) ≡ false
    → block_len (drop i z) ≡ suc (block_len (drop (i + 1) z))
block_more [] i h e = absurd (omega arith)
block_more (b ∷ z) zero h e = rw e refl
block_more (b ∷ z) (suc i) h e =
    let k : suc i + 1 ≡ suc (i + 1) = omega arith in
    block_more z i (omega arith)
    (ap (λ (n : ℕ). slice_index z i == 42 && slice_index (b ∷ z) n == 47) (sym k) ∙ e)
    ∙ ap (λ (n : ℕ). suc (block_len (drop n (b ∷ z)))) (sym k)

pub block_end : (z : Bytes) (i : ℕ) → length z ≤ i → block_len (drop i z) ≡ 0
block_end [] zero h = refl
block_end [] (suc i) h = refl
block_end (b ∷ z) zero h = absurd (omega arith)
block_end (b ∷ z) (suc i) h = block_end z i (omega arith)

-- ---- a comment at the front

behind_is : (n : ℕ) (z : Bytes) → pieces_behind n z ≡ pieces (drop n z)
behind_is zero [] = refl
behind_is zero (b ∷ z) = refl
behind_is (suc n) [] = refl
behind_is (suc n) (b ∷ z) = behind_is n z

pub line_part : (z : Bytes) (n : ℕ) → slice_index z 0 ≡ 47 → slice_index z 1 ≡ 47
    → n ≡ line_len (drop 2 z) → pieces z ≡ line (take n (drop 2 z)) ∷ pieces (drop (n + 2) z)
line_part [] n f s e = absurd (omega arith)
line_part (b ∷ z) n f s e =
    let k : n + 2 ≡ suc (n + 1) = omega arith in
    let t : slice_index z 0 ≡ 47 = s in
    let go : pieces (b ∷ z) ≡ line (take (line_len (drop 1 z)) (drop 1 z))
    ∷ pieces_behind (line_len (drop 1 z) + 1) z = rw (f, t) refl in
    go ∙ ap (λ (m : ℕ). line (take m (drop 1 z)) ∷ pieces_behind (m + 1) z) (sym e)
    ∙ ap (λ (ps : List Piece). line (take n (drop 1 z)) ∷ ps) (behind_is (n + 1) z)
    ∙ ap (λ (m : ℕ). line (take n (drop 1 z)) ∷ pieces (drop m (b ∷ z))) (sym k)

pub block_part : (z : Bytes) (n end : ℕ) → slice_index z 0 ≡ 47 → slice_index z 1 ≡ 42
    → n ≡ block_len (drop 2 z) → (end ≡ 2) ⊎ ((n + 2 + end ≡ length z) × (end < 2))
    → pieces z ≡ block (block_text (take n (drop 2 z))) ∷ pieces (drop (n + 2 + end) z)
block_part [] n end f s e h = absurd (omega arith)
block_part (b ∷ z) n end f s e h =
    let t : slice_index z 0 ≡ 42 = s in
    let go : pieces (b ∷ z) ≡ block (block_text (take (block_len (drop 1 z)) (drop 1 z)))
    ∷ pieces_behind (block_len (drop 1 z) + 3) z = rw (f, t) refl in
    go ∙ ap (λ (m : ℕ). block (block_text (take m (drop 1 z))) ∷ pieces_behind (m + 3) z) (sym e)
    ∙ ap (λ (ps : List Piece). block (block_text (take n (drop 1 z))) ∷ ps)
    (behind_is (n + 3) z ∙ ap pieces (rest h))
  where
    rest : (end ≡ 2) ⊎ ((n + 2 + end ≡ length (b ∷ z)) × (end < 2))
        → drop (n + 3) z ≡ drop (n + 2 + end) (b ∷ z)
    rest (inl two) =
        let k : n + 2 + end ≡ suc (n + 3) = omega arith in
        ap (λ (m : ℕ). drop m (b ∷ z)) (sym k)
    rest (inr all) =
        left_end z (n + 3) (omega arith)
        ∙ sym (left_end (b ∷ z) (n + 2 + end) (omega arith))
