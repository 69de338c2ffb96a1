use Rattle.std.proofs.Common.{map, take, flat_map}
use Rattle.protobuf_parse_model.specs.Descriptors.{message_view}
use Rattle.protobuf_parse_descriptor_set.specs.Items.{part}
use Rattle.protobuf_parse_descriptor_set.specs.Writing.{Writes}
use Rattle.protobuf_parse_descriptor_set.specs.DescriptorItems.{message_items}
use Rattle.protobuf_parse_descriptor_set.proofs.messages.+message_items.Given as goal

abbrev pub invariant-put_messages-loop-message : goal.invariant-put_messages-loop-message
invariant-put_messages-loop-message l = Writes (flat_map (λ m. part l.number (message_items m))
    (map message_view (take l.message-index l.messages)))
    l.fn.out.items l.out.items
