use Rattle.std.proofs.Common.{arith, inl, inr}
use Rattle.protobuf_parse_lexer.specs.Front.{exponent_float, fraction_float, no_float}
use Rattle.protobuf_parse_lexer.proofs.lexer.number.float_end.Goals as goal
use Rattle.protobuf_parse_lexer.proofs.lexer.number.float_end.Goals.{else-whole-eq0-via-then-whole-eq0+else-point-le1}
use Rattle.protobuf_parse_lexer.proofs.lexer.number.float_end.Goals.{else-whole-eq0-via-else-whole-eq0}

pub returns-in-Some : goal.returns-in-Some
returns-in-Some c =
    exponent_float c.args.text.now c.args.whole c.fraction_end-point.result c.requires.digits
    c.requires.stops c.fraction_end-point.ensures c.in-Some.end
    (elim c.else-whole-eq0.branch [
      | else-whole-eq0-via-then-whole-eq0+else-point-le1 w ↦ inr
          (omega arith)
      | else-whole-eq0-via-else-whole-eq0 w ↦ inl (omega arith)
    ])
    c.in-Some.ensures

pub returns-in-None : goal.returns-in-None
returns-in-None c =
    fraction_float c.args.text.now c.args.whole c.fraction_end-point.result c.requires.digits
    c.requires.stops c.fraction_end-point.ensures
    (elim c.else-whole-eq0.branch [
      | else-whole-eq0-via-then-whole-eq0+else-point-le1 w ↦ inr
          (omega arith)
      | else-whole-eq0-via-else-whole-eq0 w ↦ inl (omega arith)
    ])
    c.in-None.ensures (omega arith)

pub returns-in-None-2 : goal.returns-in-None-2
returns-in-None-2 c =
    no_float c.args.text.now c.args.whole c.fraction_end-point.result c.requires.digits
    c.requires.stops c.fraction_end-point.ensures c.in-None.ensures (omega arith)
