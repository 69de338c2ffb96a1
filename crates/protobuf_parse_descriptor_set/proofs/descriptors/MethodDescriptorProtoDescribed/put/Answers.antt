use Rattle.protobuf_parse_descriptor_set.specs.DescriptorItems.{method_items}
use Rattle.protobuf_parse_descriptor_set.proofs.Joining.{joined, on_ok_then}
use Rattle.protobuf_parse_descriptor_set.proofs.descriptors.MethodDescriptorProtoDescribed.put.Goals as goal

pub returns : goal.returns
unfolding method_items
returns c =
    let e0 = rw c.as_str.ensures at c.in_ok-put_text.ensures in
    let e1 = rw c.deref.ensures at c.in_ok-put_text-2.ensures in
    let e2 = rw c.deref-2.ensures at c.in_ok-put_text-3.ensures in
    let to1 = joined e0 e1 in
    let to2 = joined to1 e2 in
    let to3 = joined to2 c.in_ok-put_options.ensures in
    let to4 = joined to3 c.in_ok-put_flag_if.ensures in
    on_ok_then c.put_flag_if-2.result (λ last. joined to4 last) c.put_flag_if-2.ensures
