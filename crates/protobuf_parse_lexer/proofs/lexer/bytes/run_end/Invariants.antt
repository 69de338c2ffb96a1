use Rattle.std.proofs.Common.{length, ◌-◌, ◌≤◌}
use Rattle.protobuf_parse_lexer.specs.Text.{AllIn}
use Rattle.protobuf_parse_lexer.proofs.lexer.bytes.run_end.Given as goal

abbrev pub invariant-loop-end : goal.invariant-loop-end
invariant-loop-end l = (l.at ≤ l.end) × (l.end ≤ length l.bytes) × AllIn l.class l.bytes l.at l.end

abbrev pub decreases-loop-end : goal.decreases-loop-end
decreases-loop-end l = length l.bytes - l.end
