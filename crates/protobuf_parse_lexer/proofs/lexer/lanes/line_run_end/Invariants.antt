use Rattle.std.proofs.Common.{◌-◌, ◌≤◌, length}
use Rattle.protobuf_parse_lexer.specs.Text.{AllIn}
use Rattle.protobuf_parse_lexer.specs.declared.lexer.bytes.ByteClass.TheVariants as class
use Rattle.protobuf_parse_lexer.proofs.lexer.lanes.line_run_end.Given as goal

abbrev pub invariant-by_block : goal.invariant-by_block
invariant-by_block l = (l.at ≤ l.end) × (l.end ≤ length l.bytes)
    × AllIn class.Line l.bytes l.at l.end

abbrev pub decreases-by_block : goal.decreases-by_block
decreases-by_block l = length l.bytes - l.end
