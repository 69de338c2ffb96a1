use Rattle.protobuf_parse_syntax.specs.Grammar.{scalars}
use Rattle.protobuf_parse_syntax.specs.Code.{left}
use Rattle.protobuf_parse_syntax.proofs.Words.{finds_word, finds_no_word, finds_nothing}
use Rattle.protobuf_parse_syntax.proofs.parser.field.scalar.Goals as goal

pub returns-in-None : goal.returns-in-None
returns-in-None c = finds_nothing scalars (left c.args.tokens.now) c.in-None.ensures

pub returns-in-None-scalar_of : goal.returns-in-None-scalar_of
returns-in-None-scalar_of c =
    finds_no_word scalars (left c.args.tokens.now) c.in-Some.word.now c.in-Some.ensures
    c.in-None-scalar_of.ensures

pub returns-in-Some-scalar_of : goal.returns-in-Some-scalar_of
returns-in-Some-scalar_of c =
    rw c.skip.ensures
    (finds_word scalars (left c.args.tokens.now) c.in-Some.word.now c.in-Some-scalar_of.scalar
    c.in-Some.ensures c.in-Some-scalar_of.ensures)
