use Rattle.std.proofs.Common.{◌≡◌, ◌++◌, flat_map, map, take}
use Rattle.protobuf_parse_model.specs.Descriptors.{message_view}
use Rattle.protobuf_parse_set_rules.specs.Rules.{message_breaches}
use Rattle.protobuf_parse_set_rules.specs.Held.{sight_view}
use Rattle.protobuf_parse_set_rules.specs.Views.{told}
use Rattle.protobuf_parse_set_rules.proofs.messages.+message.Given as goal

abbrev pub invariant-check_messages-messages : goal.invariant-check_messages-messages
invariant-check_messages-messages l = told l.found ≡ told l.fn.found
    ++ flat_map (message_breaches (sight_view l.sight) l.file l.scope)
    (map message_view (take l.message-index l.messages))
