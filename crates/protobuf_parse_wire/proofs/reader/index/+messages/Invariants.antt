use Rattle.std.proofs.Common.{map, take}
use Rattle.std.specs.List.{flat_map}
use Rattle.protobuf_parse_model.specs.Descriptors.{message_view}
use Rattle.protobuf_parse_wire.specs.Declarations.{declared_message}
use Rattle.protobuf_parse_wire.specs.Indexed.{AddsMessages}
use Rattle.protobuf_parse_wire.proofs.reader.index.+messages.Given as goal

abbrev pub invariant-add_messages-messages : goal.invariant-add_messages-messages
invariant-add_messages-messages l =
    AddsMessages l.fn.index l.index
    (flat_map (declared_message l.scope) (map message_view (take l.message-index l.messages)))
