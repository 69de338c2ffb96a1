use Rattle.std.proofs.Common.{◌≡◌, ◌++◌, flat_map, map, take}
use Rattle.protobuf_parse_model.specs.Descriptors.{file_view}
use Rattle.protobuf_parse_index.specs.Views.{standing_message}
use Rattle.protobuf_parse_changes.specs.Messages.{message_changes}
use Rattle.protobuf_parse_changes.specs.Views.{told}
use Rattle.protobuf_parse_changes.proofs.messages.messages_changes.Given as goal

abbrev pub invariant-messages : goal.invariant-messages
invariant-messages l = told l.changes ≡ told l.fn.changes
    ++ flat_map (message_changes (map file_view l.old_index) (map file_view l.new_index))
    (map standing_message (take l.message-index l.messages))
