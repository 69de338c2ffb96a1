use Rattle.protobuf_parse_descriptor_set.specs.DescriptorItems.{enum_items}
use Rattle.protobuf_parse_descriptor_set.proofs.Joining.{joined, on_ok_then}
use Rattle.protobuf_parse_descriptor_set.proofs.descriptors.EnumDescriptorProtoDescribed.put.Goals as goal

pub returns : goal.returns
unfolding enum_items
returns c =
    let e0 = rw c.as_str.ensures at c.in_ok-put_text.ensures in
    let e1 = rw c.deref.ensures.value at c.in_ok-put_parts.ensures in
    let e3 = rw c.deref-2.ensures.value at c.in_ok-put_parts-2.ensures in
    let e4 = rw c.deref-3.ensures.value at c.put_texts.ensures in
    let to1 = joined e0 e1 in
    let to2 = joined to1 c.in_ok-put_options.ensures in
    let to3 = joined to2 e3 in
    on_ok_then c.put_texts.result (λ last. joined to3 last) e4
