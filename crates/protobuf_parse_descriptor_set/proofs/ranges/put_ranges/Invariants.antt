use Rattle.std.proofs.Common.{map, take, flat_map}
use Rattle.protobuf_parse_descriptor_set.specs.Items.{part}
use Rattle.protobuf_parse_descriptor_set.specs.Writing.{Writes}
use Rattle.protobuf_parse_descriptor_set.specs.RangeEnds.{range_in_set}
use Rattle.protobuf_parse_descriptor_set.specs.DescriptorItems.{range_items}
use Rattle.protobuf_parse_descriptor_set.proofs.ranges.put_ranges.Given as goal

abbrev pub invariant-loop-range : goal.invariant-loop-range
invariant-loop-range g l = Writes (flat_map (λ r. part l.number (range_items r))
    (map (λ r. range_in_set l.message_set (g.R.NumberRange.view r)) (take l.range-index l.ranges)))
    l.fn.out.items l.out.items
