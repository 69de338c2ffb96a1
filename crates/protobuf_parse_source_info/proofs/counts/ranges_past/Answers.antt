use Rattle.std.proofs.Common.{sym, ◌∙◌}
use Rattle.protobuf_parse_syntax.specs.Trees.{range_syntax}
use Rattle.protobuf_parse_source_info.proofs.Counting.{past_map}
use Rattle.protobuf_parse_source_info.proofs.counts.ranges_past.Goals as goal

pub returns-in-Ranges : goal.returns-in-Ranges
returns-in-Ranges c =
    rw c.in-Ranges.is
    (rw c.deref.ensures.value at c.past_items.ensures
    ∙ sym (past_map range_syntax c.args.index c.in-Ranges.ranges.items))
