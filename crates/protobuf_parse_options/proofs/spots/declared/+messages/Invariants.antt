use Rattle.std.proofs.Common.{◌≡◌, ◌++◌, drop, map}
use Rattle.protobuf_parse_model.specs.Descriptors.{message_view}
use Rattle.protobuf_parse_options.specs.HoldingParts.{messages_spotted}
use Rattle.protobuf_parse_options.specs.Spots.{spotted_list}
use Rattle.protobuf_parse_options.proofs.spots.declared.+messages.Given as goal

abbrev pub invariant-add_messages-loop-index : goal.invariant-add_messages-loop-index
invariant-add_messages-loop-index l =
    messages_spotted l.fn.list.items ++ spotted_list l.scope l.path 0 (map message_view l.messages)
    ≡ messages_spotted l.list.items ++ spotted_list l.scope l.path l.index
    (map message_view (drop l.index l.messages))
