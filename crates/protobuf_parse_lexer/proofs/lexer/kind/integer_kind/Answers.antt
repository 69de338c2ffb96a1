use Rattle.std.proofs.Common.{arith, sym}
use Rattle.protobuf_parse_lexer.proofs.TextKinds.{integer_there}
use Rattle.protobuf_parse_lexer.proofs.lexer.kind.integer_kind.Goals as goal

pub returns-in-Some : goal.returns-in-Some
returns-in-Some c =
    sym (integer_there c.args.class c.args.radix c.in-Some.number c.args.digits.now
    (λ k less. c.run_end.ensures.passes k (omega arith) (omega arith)) c.in-Some.ensures.1
    (omega (arith, c.in-Some.ensures.0, c.in-Some.ensures.1)))
