use Rattle.std.proofs.Common.{◌≡◌, ◌++◌, flat_map, map, take}
use Rattle.protobuf_parse_model.specs.Descriptors.{message_view}
use Rattle.protobuf_parse_set_rules.specs.Types.{types_around}
use Rattle.protobuf_parse_set_rules.specs.Held.{type_view}
use Rattle.protobuf_parse_set_rules.proofs.types.+messages.Given as goal

abbrev pub invariant-add_messages-messages : goal.invariant-add_messages-messages
invariant-add_messages-messages l = map type_view l.types.items
    ≡ map type_view l.fn.types.items ++ flat_map (types_around l.position l.scope)
    (map message_view (take l.message-index l.messages))
