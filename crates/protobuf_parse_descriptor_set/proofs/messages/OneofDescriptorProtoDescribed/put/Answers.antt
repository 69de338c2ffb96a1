use Rattle.protobuf_parse_descriptor_set.specs.DescriptorItems.{oneof_items}
use Rattle.protobuf_parse_descriptor_set.proofs.Joining.{joined, on_ok_then}
use Rattle.protobuf_parse_descriptor_set.proofs.messages.OneofDescriptorProtoDescribed.put.Goals as goal

pub returns : goal.returns
unfolding oneof_items
returns c =
    let e0 = rw c.as_str.ensures at c.in_ok-put_text.ensures in
    on_ok_then c.put_options.result (λ last. joined e0 last) c.put_options.ensures
