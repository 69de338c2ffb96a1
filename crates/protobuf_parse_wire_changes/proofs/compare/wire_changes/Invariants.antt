use Rattle.std.proofs.Common.{map}
use Rattle.std.specs.List.{flat_map}
use Rattle.protobuf_parse_model.specs.Descriptors.{file_view}
use Rattle.protobuf_parse_index.specs.Views.{standing_extension, standing_message}
use Rattle.protobuf_parse_index.specs.Walk.{all_messages}
use Rattle.protobuf_parse_wire_changes.specs.Changes.{all_changes, extension_changes}
use Rattle.protobuf_parse_wire_changes.specs.Changes.{message_changes}
use Rattle.protobuf_parse_wire_changes.specs.Inside.{compared_view}
use Rattle.protobuf_parse_wire_changes.specs.Views.{changes_view}
use Rattle.protobuf_parse_wire_changes.proofs.Listing.{ToList}
use Rattle.protobuf_parse_wire_changes.proofs.compare.wire_changes.Given as goal

abbrev pub invariant-messages : goal.invariant-messages
invariant-messages l =
    ToList standing_message (message_changes (compared_view l.compared))
    (changes_view l.changes.items) l.message-index l.message-items
    (flat_map (message_changes (compared_view l.compared))
    (all_messages (map file_view l.old)))

abbrev pub invariant-extensions : goal.invariant-extensions
invariant-extensions l =
    ToList standing_extension (extension_changes (compared_view l.compared))
    (changes_view l.changes.items) l.extension-index l.extension-items
    (all_changes (compared_view l.compared))
