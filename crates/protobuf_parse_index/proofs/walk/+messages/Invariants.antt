use Rattle.std.proofs.Common.{map, take}
use Rattle.std.specs.List.{flat_map}
use Rattle.protobuf_parse_model.specs.Descriptors.{message_view}
use Rattle.protobuf_parse_index.specs.Puts.{WalkAddsMessages}
use Rattle.protobuf_parse_index.specs.Walk.{message_within}
use Rattle.protobuf_parse_index.proofs.walk.+messages.Given as goal

abbrev pub invariant-add_messages-messages : goal.invariant-add_messages-messages
invariant-add_messages-messages l = WalkAddsMessages l.fn.walk l.walk
    (flat_map (message_within l.path l.scope) (map message_view (take l.message-index l.messages)))
