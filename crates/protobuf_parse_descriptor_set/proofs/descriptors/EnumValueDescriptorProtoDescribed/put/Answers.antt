use Rattle.protobuf_parse_descriptor_set.specs.DescriptorItems.{enum_value_items}
use Rattle.protobuf_parse_descriptor_set.proofs.Joining.{joined, on_ok_then}
use Rattle.protobuf_parse_descriptor_set.proofs.descriptors.EnumValueDescriptorProtoDescribed.put.Goals as goal

pub returns : goal.returns
unfolding enum_value_items
returns c =
    let e0 = rw c.as_str.ensures at c.in_ok-put_text.ensures in
    let to1 = joined e0 c.in_ok-put_int.ensures in
    on_ok_then c.put_options.result (λ last. joined to1 last) c.put_options.ensures
