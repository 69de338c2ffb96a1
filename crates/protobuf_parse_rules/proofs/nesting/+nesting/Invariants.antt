use Rattle.std.proofs.Common.{◌≡◌, ◌++◌, flat_map, map, take}
use Rattle.protobuf_parse_model.specs.Descriptors.{message_view}
use Rattle.protobuf_parse_rules.specs.Nesting.{too_deep}
use Rattle.protobuf_parse_rules.specs.Rules.{breaches_told}
use Rattle.protobuf_parse_rules.proofs.nesting.+nesting.Given as goal

abbrev pub invariant-check_messages-messages : goal.invariant-check_messages-messages
invariant-check_messages-messages l = breaches_told l.told ≡ breaches_told l.fn.told
    ++ flat_map (too_deep l.file l.scope l.around)
    (map message_view (take l.message-index l.messages))
