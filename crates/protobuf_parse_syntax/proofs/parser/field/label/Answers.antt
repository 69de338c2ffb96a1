use Rattle.protobuf_parse_syntax.specs.Fields.{labels_in}
use Rattle.protobuf_parse_syntax.specs.Code.{left}
use Rattle.protobuf_parse_syntax.proofs.Words.{finds_word, finds_no_word, finds_nothing}
use Rattle.protobuf_parse_syntax.proofs.parser.field.label.Goals as goal

pub returns-in-None : goal.returns-in-None
returns-in-None c = finds_nothing (labels_in c.args.syntax)
    (left c.args.tokens.now) c.in-None.ensures

pub returns-in-None-label_of : goal.returns-in-None-label_of
returns-in-None-label_of c =
    finds_no_word (labels_in c.args.syntax)
    (left c.args.tokens.now) c.in-Some.word.now c.in-Some.ensures c.in-None-label_of.ensures

pub returns-in-Some-label_of : goal.returns-in-Some-label_of
returns-in-Some-label_of c =
    rw c.skip.ensures
    (finds_word (labels_in c.args.syntax)
    (left c.args.tokens.now) c.in-Some.word.now c.in-Some-label_of.label c.in-Some.ensures
    c.in-Some-label_of.ensures)
