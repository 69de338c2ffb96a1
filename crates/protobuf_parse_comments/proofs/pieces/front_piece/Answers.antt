use Rattle.std.proofs.Common.{◌≡◌, ◌∙◌, ◌⊎◌, ◌+◌, ◌<◌, ℕ, List, ◌∷◌, ap, arith, drop, inl, inr, length}
use Rattle.std.proofs.Common.{sym, take}
use Rattle.protobuf_parse_comments.specs.Gaps.{block, line}
use Rattle.protobuf_parse_comments.specs.Pieces.{block_len, block_text, line_len, pieces}
use Rattle.protobuf_parse_comments.proofs.Scans.{block_part, line_part}
use Rattle.protobuf_parse_comments.proofs.pieces.front_piece.Goals as goal
use Rattle.protobuf_parse_comments.proofs.pieces.front_piece.Goals.{then-behind-lt2, else-behind-lt2}

pub returns-then-second-eq47-clause-pieces : goal.returns-then-second-eq47-clause-pieces
returns-then-second-eq47-clause-pieces c =
    let z = c.args.gap.now in
    let n = c.line_len-len.result in
    let inner = c.split_at.ensures.back in
    line_part z n c.if-first-eq47.true (sym c.byte_at-second.ensures ∙ c.if-second-eq47.true)
    (c.line_len-len.ensures.value ∙ ap line_len inner)
    ∙ ap (λ (t : List ℕ). line t ∷ pieces (drop (n + 2) z))
    (sym (c.split_at-then-second-eq47.ensures.front ∙ ap (take n) inner))

pub returns-then-second-eq42-clause-pieces : goal.returns-then-second-eq42-clause-pieces
returns-then-second-eq42-clause-pieces c =
    let z = c.args.gap.now in
    let n = c.block_len-len.result in
    let end = c.if-behind-lt2.end in
    let inner = c.split_at-then-second-eq42.ensures.back in
    let ends : (end ≡ 2) ⊎ ((n + 2 + end ≡ length z) × (end < 2)) = elim c.if-behind-lt2.branch [
      | then-behind-lt2 w ↦ inr (
        omega (
          arith,
          w.end-is,
          c.split_at-then-second-eq42.ensures.back_len,
          c.split_at-then-second-eq42-2.ensures.back_len,
        ),
        omega (arith, w.end-is, w.if-behind-lt2.true),
      )
      | else-behind-lt2 w ↦ inl w.end-is
    ] in
    block_part z n end c.if-first-eq47-2.true (sym c.byte_at-second.ensures ∙ c.if-second-eq42.true)
    (c.block_len-len.ensures.value ∙ ap block_len inner) ends
    ∙ ap (λ (t : List ℕ). block (block_text t) ∷ pieces (drop (n + 2 + end) z))
    (sym (c.split_at-then-second-eq42-2.ensures.front ∙ ap (take n) inner))
