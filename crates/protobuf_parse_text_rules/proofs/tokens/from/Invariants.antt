use Rattle.std.proofs.Common.{◌≡◌, length, map}
use Rattle.protobuf_parse_lexer.specs.Tokens.{lexeme}
use Rattle.protobuf_parse_text_rules.specs.Statements.{from}
use Rattle.protobuf_parse_text_rules.proofs.tokens.from.Given as goal

abbrev pub invariant-left : goal.invariant-left
invariant-left l = from l.place (map lexeme l.left) ≡ from l.place (map lexeme l.tokens)

abbrev pub decreases-left : goal.decreases-left
decreases-left l = length l.left
