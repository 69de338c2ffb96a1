use Rattle.std.proofs.Common.{map, take, flat_map}
use Rattle.protobuf_parse_model.specs.Descriptors.{field_view}
use Rattle.protobuf_parse_descriptor_set.specs.Items.{part}
use Rattle.protobuf_parse_descriptor_set.specs.Writing.{Writes}
use Rattle.protobuf_parse_descriptor_set.specs.OneofOrder.{field_in_set}
use Rattle.protobuf_parse_descriptor_set.specs.DescriptorItems.{field_items}
use Rattle.protobuf_parse_descriptor_set.proofs.messages.put_fields.Given as goal

abbrev pub invariant-loop-field : goal.invariant-loop-field
invariant-loop-field l = Writes (flat_map (λ f. part 2 (field_items f))
    (map (λ f. field_in_set l.synthetic (field_view f)) (take l.field-index l.fields)))
    l.fn.out.items l.out.items
