use Rattle.std.proofs.Common.{ap, ◌∙◌, subst, arith}
use Rattle.std.specs.Char.{IsScalar}
use Rattle.protobuf_parse_lexer.specs.declared.lexer.str_lit.Meaning.TheVariants as meaning
use Rattle.protobuf_parse_lexer.specs.declared.lexer.bytes.ByteClass.TheVariants as class
use Rattle.protobuf_parse_lexer.specs.Escapes.{in_range}
use Rattle.protobuf_parse_lexer.proofs.Escapes.{digits_of_front}
use Rattle.protobuf_parse_lexer.proofs.lexer.str_lit.char_escape.Goals as goal

pub digits_value-requires-clause-each : goal.digits_value-requires-clause-each
digits_value-requires-clause-each c =
    in_range c.args.text.now 2 c.args.end
    (digits_of_front class.Hex c.args.text.now 2 c.args.end c.run_end.result
    (omega arith) c.run_end.ensures.passes) (omega arith) (omega arith)

pub returns : goal.returns
returns c =
    let value = c.in_ok-value.ensures.1 in
    let made = c.in_ok-character.ensures.value in
    record {
      within = omega arith;
      each = digits_of_front class.Hex c.args.text.now 2 c.args.end c.run_end.result
          (omega arith) c.run_end.ensures.passes;
      scalar = subst IsScalar value made.0;
      is = ap (λ x. record { len = c.args.end; meaning = meaning.Char x }) (made.1 ∙ value);
    }
