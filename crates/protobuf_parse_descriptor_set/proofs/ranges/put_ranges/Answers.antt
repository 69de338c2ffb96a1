use Rattle.protobuf_parse_descriptor_set.specs.Items.{part}
use Rattle.protobuf_parse_descriptor_set.specs.RangeEnds.{range_in_set}
use Rattle.protobuf_parse_descriptor_set.specs.DescriptorItems.{range_items}
use Rattle.protobuf_parse_descriptor_set.proofs.Joining.{none_yet, one_more, all_changed}
use Rattle.protobuf_parse_descriptor_set.proofs.Lengths.{ended_part, within}
use Rattle.protobuf_parse_descriptor_set.proofs.ranges.put_ranges.Goals as goal

pub loop-range-init : goal.loop-range-init
loop-range-init g c = none_yet _

pub end_message-requires : goal.end_message-requires
end_message-requires g c =
    within _ _ _ _ c.in_ok-start.ensures.start c.in_ok-put_range.ensures

pub loop-range-preserved : goal.loop-range-preserved
loop-range-preserved g c =
    let message_set = c.args.message_set in
    let written = rw (c.start.ensures, c.end_in_set.ensures, c.end.ensures) at
    c.in_ok-put_range.ensures in
    one_more (λ r. part c.args.number (range_items r))
    (λ r. range_in_set message_set (g.R.NumberRange.view r)) _ _ _ _ _ _
    c.loop-range-test.true c.range-item.is c.loop-range.invariant
    (ended_part _ _ _ _ _ _ _ c.in_ok-start.ensures.begun c.in_ok-start.ensures.start written
    c.in_ok-end_message.ensures)

pub returns : goal.returns
returns g c = all_changed (λ r. part c.args.number (range_items r))
    (range_in_set c.args.message_set) g.R.NumberRange.view
    _ _ _ _ c.loop-range-test.false c.loop-range.invariant
