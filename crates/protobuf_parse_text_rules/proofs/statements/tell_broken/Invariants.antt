use Rattle.std.proofs.Common.{◌≡◌, ◌++◌, length, map}
use Rattle.protobuf_parse_lexer.specs.Tokens.{lexeme}
use Rattle.protobuf_parse_text_rules.specs.Statements.{broken_among}
use Rattle.protobuf_parse_text_rules.specs.Views.{told, violation_view}
use Rattle.protobuf_parse_text_rules.proofs.statements.tell_broken.Given as goal

abbrev pub invariant-seen : goal.invariant-seen
invariant-seen l =
    told l.found ++ broken_among (map lexeme l.tokens) (map violation_view l.seen)
    ≡ told l.fn.found ++ broken_among (map lexeme l.fn.tokens) (map violation_view l.fn.seen)

abbrev pub decreases-seen : goal.decreases-seen
decreases-seen l = length l.seen
