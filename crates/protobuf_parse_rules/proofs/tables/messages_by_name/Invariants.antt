use Rattle.std.proofs.Common.{flat_map, map, take}
use Rattle.protobuf_parse_rules.specs.Known.{Finds, known_message, message_name}
use Rattle.protobuf_parse_rules.specs.Lookups.{message_at}
use Rattle.protobuf_parse_rules.specs.BodyViews.{body_view}
use Rattle.protobuf_parse_rules.proofs.tables.messages_by_name.Given as goal

abbrev pub invariant-bodies : goal.invariant-bodies
invariant-bodies l = Finds known_message message_name l.messages
    (flat_map message_at (map body_view (take l.body-index l.bodies)))
