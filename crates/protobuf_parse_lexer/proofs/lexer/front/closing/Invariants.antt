use Rattle.std.proofs.Common.{◌≡◌, ◌+◌, length, false}
use Rattle.protobuf_parse_lexer.specs.Scan as scan
use Rattle.protobuf_parse_lexer.proofs.lexer.front.closing.Given as goal

abbrev pub invariant-loop-text : goal.invariant-loop-text
invariant-loop-text l =
    (scan.closing l.quote l.is_escaped l.at l.text ≡ scan.closing l.quote false 1 l.initial.text)
    × (l.at + length l.text ≡ 1 + length l.initial.text)

abbrev pub decreases-loop-text : goal.decreases-loop-text
decreases-loop-text l = length l.text
