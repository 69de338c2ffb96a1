use Rattle.std.proofs.Common.{◌≡◌, length, map}
use Rattle.protobuf_parse_lexer.specs.Tokens.{lexeme}
use Rattle.protobuf_parse_text_rules.specs.Statements.{from_text}
use Rattle.protobuf_parse_text_rules.proofs.tokens.from_text.Given as goal

abbrev pub invariant-left : goal.invariant-left
invariant-left l = from_text l.text (map lexeme l.left) ≡ from_text l.text (map lexeme l.tokens)

abbrev pub decreases-left : goal.decreases-left
decreases-left l = length l.left
