use Rattle.std.proofs.Common.{◌≡◌, ◌≤◌, ◌+◌, ◌++◌, length, map}
use Rattle.protobuf_parse_lexer.specs.Tokens.{lexeme}
use Rattle.protobuf_parse_text_rules.specs.Statements.{alone_in, begun}
use Rattle.protobuf_parse_text_rules.specs.Views.{told}
use Rattle.protobuf_parse_text_rules.proofs.bodies.tell_alone.Given as goal

abbrev pub invariant-left : goal.invariant-left
invariant-left l = record {
  gives : told l.found ++ alone_in l.name l.body (map lexeme l.left)
      ≡ told l.fn.found ++ alone_in l.name begun (map lexeme l.tokens);
  within : l.body.inner + length l.left ≤ length l.tokens;
}

abbrev pub decreases-left : goal.decreases-left
decreases-left l = length l.left
