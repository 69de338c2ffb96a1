use Rattle.std.proofs.Common.{map, drop}
use Rattle.protobuf_parse_model.specs.Descriptors.{message_view}
use Rattle.protobuf_parse_locations.specs.Declarations.{items, message_at}
use Rattle.protobuf_parse_locations.proofs.Going.{Going}
use Rattle.protobuf_parse_locations.proofs.walk.+messages.Given as goal

abbrev pub invariant-add_messages-messages : goal.invariant-add_messages-messages
invariant-add_messages-messages l = Going l.fn.all.items l.all.items
    (items (message_at l.scope) l.path l.list l.index
    (map message_view (drop l.message-index l.messages)))
    (items (message_at l.scope) l.path l.list 0 (map message_view l.messages))
