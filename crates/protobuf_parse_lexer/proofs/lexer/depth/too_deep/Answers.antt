use Rattle.std.proofs.Common.{◌+◌, ◌≤◌, ◌-◌, arith, inl, inr, refl, sym}
use Rattle.protobuf_parse_lexer.proofs.Depth.{deepens, few_open, kept}
use Rattle.protobuf_parse_lexer.proofs.lexer.depth.too_deep.Goals as goal
use Rattle.protobuf_parse_lexer.proofs.lexer.depth.too_deep.Goals.{then-is_opening+else-saturating_sub-gt-MAX_DEPTH}
use Rattle.protobuf_parse_lexer.proofs.lexer.depth.too_deep.Goals.{else-is_opening+then-is_closing}
use Rattle.protobuf_parse_lexer.proofs.lexer.depth.too_deep.Goals.{else-is_opening+else-is_closing}

pub returns-then-saturating_sub-gt-MAX_DEPTH : goal.returns-then-saturating_sub-gt-MAX_DEPTH
returns-then-saturating_sub-gt-MAX_DEPTH c =
    deepens c.args.list.now c.loop-token.token-index _
    (omega arith) c.loop-token.opened c.loop-token.closed
    (c.loop-token.opened + 1) c.loop-token.closed
    c.loop-token.invariant.opened c.loop-token.invariant.closed
    (inl (sym c.if-is_opening.ensures, refl, refl))
    (omega arith)
    c.loop-token.invariant.shallow

pub loop-token-preserved : goal.loop-token-preserved
loop-token-preserved c =
    let before : c.loop-token.opened - c.loop-token.closed
    ≤ 100 = few_open c.args.list.now c.loop-token.token-index c.loop-token.opened
    c.loop-token.closed c.loop-token.invariant in
    kept c.args.list.now c.loop-token.token-index _ c.loop-token.opened c.loop-token.closed
    c.if-is_opening.opened c.if-is_opening.closed (omega arith)
    c.loop-token.invariant
    (elim c.if-is_opening.branch [
      | then-is_opening+else-saturating_sub-gt-MAX_DEPTH w ↦ inl
          (sym w.if-is_opening.ensures, w.opened-is, w.closed-is)
      | else-is_opening+then-is_closing w ↦ inr
          (inl (sym w.if-is_opening.ensures, sym w.if-is_closing.ensures, w.opened-is, w.closed-is))
      | else-is_opening+else-is_closing w ↦ inr
          (inr (sym w.if-is_opening.ensures, sym w.if-is_closing.ensures, w.opened-is, w.closed-is))
    ])
    (elim c.if-is_opening.branch [
      | then-is_opening+else-saturating_sub-gt-MAX_DEPTH w ↦ omega arith
      | else-is_opening+then-is_closing w ↦ omega (arith, before, w.opened-is, w.closed-is)
      | else-is_opening+else-is_closing w ↦ omega (arith, before, w.opened-is, w.closed-is)
    ])
