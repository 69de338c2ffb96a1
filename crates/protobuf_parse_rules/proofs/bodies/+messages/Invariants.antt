use Rattle.std.proofs.Common.{◌≡◌, ◌++◌, map, take}
use Rattle.std.specs.List.{flat_map}
use Rattle.protobuf_parse_model.specs.Descriptors.{message_view}
use Rattle.protobuf_parse_wire.specs.Declarations.{declared_message}
use Rattle.protobuf_parse_rules.specs.Bodies.{message_body}
use Rattle.protobuf_parse_rules.specs.BodyViews.{body_view}
use Rattle.protobuf_parse_rules.proofs.bodies.+messages.Given as goal

abbrev pub invariant-add_messages-messages : goal.invariant-add_messages-messages
invariant-add_messages-messages l = map body_view l.bodies.items
    ≡ map body_view l.fn.bodies.items ++ map (message_body l.path l.proto3)
    (flat_map (declared_message l.scope) (map message_view (take l.message-index l.messages)))
