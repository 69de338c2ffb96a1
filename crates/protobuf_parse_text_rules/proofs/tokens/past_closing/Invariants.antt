use Rattle.std.proofs.Common.{◌≡◌, ◌≤◌, ◌+◌, length, map}
use Rattle.protobuf_parse_lexer.specs.Tokens.{lexeme}
use Rattle.protobuf_parse_text_rules.specs.Statements.{past_closing}
use Rattle.protobuf_parse_text_rules.proofs.tokens.past_closing.Given as goal

abbrev pub invariant-left : goal.invariant-left
invariant-left l = record {
  gives : past_closing l.inner (map lexeme l.left) ≡ past_closing 0 (map lexeme l.tokens);
  within : l.inner + length l.left ≤ length l.tokens;
}

abbrev pub decreases-left : goal.decreases-left
decreases-left l = length l.left
