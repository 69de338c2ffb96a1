use Rattle.std.proofs.Common.{sym, ◌∙◌, arith, inr}
use Rattle.protobuf_parse_lexer.specs.Front.{long_float}
use Rattle.protobuf_parse_lexer.proofs.lexer.number.float_piece.Goals as goal
use Rattle.protobuf_parse_lexer.proofs.lexer.number.float_piece.Goals.{else-end-text-via-then-end-text+else-is_in}
use Rattle.protobuf_parse_lexer.proofs.lexer.number.float_piece.Goals.{else-end-text-via-else-end-text}

pub returns-then-is_in : goal.returns-then-is_in
returns-then-is_in c = (
  c.args.end,
  inr (inr (inr c.requires.0)),
  long_float c.args.text.now c.args.end c.requires,
  omega arith,
  sym c.if-is_in.ensures,
)

pub returns-else-end-text : goal.returns-else-end-text
returns-else-end-text c = (
  c.requires.0,
  long_float c.args.text.now c.args.end c.requires,
  elim c.else-end-text.branch [
    | else-end-text-via-then-end-text+else-is_in w ↦ λ more. sym w.is_in.ensures
        ∙ w.if-is_in.false
    | else-end-text-via-else-end-text w ↦ λ more. absurd (omega arith)
  ],
)
