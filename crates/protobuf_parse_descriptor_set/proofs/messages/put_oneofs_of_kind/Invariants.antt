use Rattle.std.proofs.Common.{map, take, flat_map}
use Rattle.protobuf_parse_model.specs.Descriptors.{oneof_view}
use Rattle.protobuf_parse_descriptor_set.specs.Items.{part}
use Rattle.protobuf_parse_descriptor_set.specs.Writing.{Writes}
use Rattle.protobuf_parse_descriptor_set.specs.Told.{of_kind}
use Rattle.protobuf_parse_descriptor_set.specs.DescriptorItems.{oneof_items}
use Rattle.protobuf_parse_descriptor_set.proofs.messages.put_oneofs_of_kind.Given as goal

abbrev pub invariant-loop-index : goal.invariant-loop-index
invariant-loop-index l = Writes (flat_map (λ o. part 8 (oneof_items o))
    (of_kind l.kind l.synthetic (map oneof_view (take l.index l.oneofs))))
    l.fn.out.items l.out.items
