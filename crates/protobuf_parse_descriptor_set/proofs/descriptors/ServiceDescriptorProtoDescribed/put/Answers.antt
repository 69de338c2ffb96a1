use Rattle.protobuf_parse_descriptor_set.specs.DescriptorItems.{service_items}
use Rattle.protobuf_parse_descriptor_set.proofs.Joining.{joined, on_ok_then}
use Rattle.protobuf_parse_descriptor_set.proofs.descriptors.ServiceDescriptorProtoDescribed.put.Goals as goal

pub returns : goal.returns
unfolding service_items
returns c =
    let e0 = rw c.as_str.ensures at c.in_ok-put_text.ensures in
    let e1 = rw c.deref.ensures.value at c.in_ok-put_parts.ensures in
    let to1 = joined e0 e1 in
    on_ok_then c.put_options.result (λ last. joined to1 last) c.put_options.ensures
