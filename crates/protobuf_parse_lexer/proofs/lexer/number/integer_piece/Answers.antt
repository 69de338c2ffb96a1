use Rattle.std.proofs.Common.{arith, refl, sym, ◌∙◌}
use Rattle.protobuf_parse_lexer.specs.Escapes.{in_range}
use Rattle.protobuf_parse_lexer.specs.Front.{number_from_integer}
use Rattle.protobuf_parse_lexer.proofs.lexer.number.integer_piece.Goals as goal
use Rattle.protobuf_parse_lexer.proofs.lexer.number.integer_piece.Goals.{else-end-text-via-then-end-text+else-is_in}
use Rattle.protobuf_parse_lexer.proofs.lexer.number.integer_piece.Goals.{else-end-text-via-else-end-text}

pub returns-then-is_in : goal.returns-then-is_in
returns-then-is_in c = (
  c.args.end,
  number_from_integer _ _ _ (c.requires.spells _ refl),
  c.requires.longest,
  omega arith,
  sym c.if-is_in.ensures,
)

pub digits_value-requires-clause-each : goal.digits_value-requires-clause-each
digits_value-requires-clause-each c =
    in_range c.args.text.now c.args.from c.args.end c.requires.each c.requires.order
    c.requires.within

pub returns-in-Some : goal.returns-in-Some
returns-in-Some c = (
  c.requires.spells c.in-Some.number c.in-Some.ensures.1,
  omega (arith, c.in-Some.ensures.0, c.in-Some.ensures.1),
  c.requires.longest,
  elim c.else-end-text.branch [
    | else-end-text-via-then-end-text+else-is_in w ↦ λ more. sym w.is_in.ensures
        ∙ w.if-is_in.false
    | else-end-text-via-else-end-text w ↦ λ more. absurd (omega arith)
  ],
)

pub returns-in-None : goal.returns-in-None
returns-in-None c = (
  c.args.end,
  _,
  c.requires.spells _ refl,
  c.requires.longest,
  elim c.else-end-text.branch [
    | else-end-text-via-then-end-text+else-is_in w ↦ λ more. sym w.is_in.ensures
        ∙ w.if-is_in.false
    | else-end-text-via-else-end-text w ↦ λ more. absurd (omega arith)
  ],
  omega (arith, c.in-None.ensures),
)
