use Rattle.std.proofs.Common.{sym, ◌∙◌}
use Rattle.protobuf_parse_source_info.proofs.Counting.{past_step, past_end}
use Rattle.protobuf_parse_source_info.proofs.counts.past_items.Goals as goal

pub items-preserved : goal.items-preserved
items-preserved g c =
    past_step c.args.items.now c.items._item-index c.items.index _ c.items-test.true
    c.next-index.ensures ∙ c.items.invariant

pub returns : goal.returns
returns g c =
    sym (past_end c.args.items.now c.items._item-index c.items.index c.items-test.false)
    ∙ c.items.invariant
