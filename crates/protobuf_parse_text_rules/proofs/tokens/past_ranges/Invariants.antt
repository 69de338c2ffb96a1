use Rattle.std.proofs.Common.{◌≡◌, length, map}
use Rattle.protobuf_parse_lexer.specs.Tokens.{lexeme}
use Rattle.protobuf_parse_text_rules.specs.Statements.{past_ranges}
use Rattle.protobuf_parse_text_rules.proofs.tokens.past_ranges.Given as goal

abbrev pub invariant-left : goal.invariant-left
invariant-left l = past_ranges (map lexeme l.left) ≡ past_ranges (map lexeme l.tokens)

abbrev pub decreases-left : goal.decreases-left
decreases-left l = length l.left
