use Rattle.protobuf_parse_lexer.proofs.Quotes.{strings_quoted}
use Rattle.protobuf_parse_lexer.proofs.lexer.laws.strings_are_quoted.Goals as goal

pub returns : goal.returns
returns c = strings_quoted
