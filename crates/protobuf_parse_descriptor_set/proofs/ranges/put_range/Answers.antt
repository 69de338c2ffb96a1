use Rattle.protobuf_parse_descriptor_set.specs.DescriptorItems.{range_items}
use Rattle.protobuf_parse_descriptor_set.proofs.Joining.{joined, on_ok_then}
use Rattle.protobuf_parse_descriptor_set.proofs.ranges.put_range.Goals as goal

pub returns : goal.returns
unfolding range_items
returns c =
    on_ok_then c.put_int-2.result (λ last. joined c.in_ok-put_int.ensures last) c.put_int-2.ensures
