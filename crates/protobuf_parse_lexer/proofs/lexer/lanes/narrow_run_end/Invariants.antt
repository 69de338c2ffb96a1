use Rattle.std.proofs.Common.{◌-◌, ◌≤◌, length}
use Rattle.protobuf_parse_lexer.specs.Scan.{AllPass, is_narrow}
use Rattle.protobuf_parse_lexer.proofs.lexer.lanes.narrow_run_end.Given as goal

abbrev pub invariant-by_block : goal.invariant-by_block
invariant-by_block l = (l.at ≤ l.end) × (l.end ≤ length l.bytes)
    × AllPass is_narrow l.bytes l.at l.end

abbrev pub decreases-by_block : goal.decreases-by_block
decreases-by_block l = length l.bytes - l.end

abbrev pub invariant-loop-end : goal.invariant-loop-end
invariant-loop-end l = (l.at ≤ l.end) × (l.end ≤ length l.bytes)
    × AllPass is_narrow l.bytes l.at l.end

abbrev pub decreases-loop-end : goal.decreases-loop-end
decreases-loop-end l = length l.bytes - l.end
