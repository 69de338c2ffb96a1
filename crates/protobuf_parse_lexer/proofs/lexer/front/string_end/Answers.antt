use Rattle.std.proofs.Common.{rules, arith}
use Rattle.std.proofs.lemmas.Grind.{common_steps}
use Rattle.protobuf_parse_lexer.specs.Front.{string_answer}
use Rattle.protobuf_parse_lexer.proofs.lexer.front.string_end.Goals as goal

pub returns : goal.returns
returns c = string_answer c.args.text.now c.closing.result c.requires.some c.requires.quote
    (first_of (search rules, grind (arith, common_steps)))
