use Rattle.std.proofs.Common.{sym, ◌∙◌}
use Rattle.protobuf_parse_lexer.specs.Classes.{words}
use Rattle.protobuf_parse_syntax.specs.Code.{left}
use Rattle.protobuf_parse_syntax.specs.Grammar.{statement_words}
use Rattle.protobuf_parse_syntax.proofs.Words.{word_starts}
use Rattle.protobuf_parse_syntax.proofs.parser.words.sees_statement_word.Goals as goal

pub returns-in-Some : goal.returns-in-Some
returns-in-Some c =
    c.is_statement_word.ensures.taken
    ∙ sym (word_starts (words statement_words) (left c.args.tokens.now) c.in-Some.word.now
    c.in-Some.ensures)
