use Rattle.protobuf_parse_lexer.proofs.Refusals.{reads, refuses}
use Rattle.protobuf_parse_lexer.proofs.lexer.tokenize.Goals as goal

pub returns-clause-reads : goal.returns-clause-reads
returns-clause-reads c =
    reads c.args.text.now c.checked.result c.checked.ensures.read c.checked.ensures.refused

pub returns-clause-refuses : goal.returns-clause-refuses
returns-clause-refuses c =
    refuses c.args.text.now c.checked.result c.checked.ensures.read c.checked.ensures.refused
