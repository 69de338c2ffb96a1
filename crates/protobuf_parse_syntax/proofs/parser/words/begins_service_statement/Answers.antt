use Rattle.std.proofs.Common.{◌∷◌, sym, ◌∙◌}
use Rattle.protobuf_parse_lexer.specs.Classes.{symbol}
use Rattle.protobuf_parse_syntax.specs.Nested as nest
use Rattle.protobuf_parse_syntax.specs.Code.{left}
use Rattle.protobuf_parse_syntax.proofs.Words.{word_starts}
use Rattle.protobuf_parse_syntax.proofs.parser.words.begins_service_statement.Goals as goal

pub returns-in-Some : goal.returns-in-Some
returns-in-Some c = c.word_begins_service_statement.ensures
    ∙ sym (word_starts (symbol 59 ∷ nest.service_firsts c.args.syntax)
    (left c.args.tokens.now) c.in-Some.word.now c.in-Some.ensures)
