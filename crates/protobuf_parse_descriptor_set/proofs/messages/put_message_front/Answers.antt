use Rattle.protobuf_parse_descriptor_set.specs.DescriptorItems.{message_front}
use Rattle.protobuf_parse_descriptor_set.proofs.Joining.{joined, on_ok_then}
use Rattle.protobuf_parse_descriptor_set.proofs.messages.put_message_front.Goals as goal

pub returns : goal.returns
unfolding message_front
returns c =
    let name = rw c.as_str.ensures at c.in_ok-put_text.ensures in
    let fields = rw (c.deref.ensures.value, c.requires) at c.put_fields.ensures in
    on_ok_then c.put_fields.result (λ last. joined name last) fields
