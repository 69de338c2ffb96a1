use Rattle.std.proofs.Common.{◌≡◌, ◌++◌, flat_map, map, take}
use Rattle.protobuf_parse_model.specs.Descriptors.{message_view, oneof_view}
use Rattle.protobuf_parse_changes.specs.Messages.{oneof_changes}
use Rattle.protobuf_parse_changes.specs.Views.{place_view, told}
use Rattle.protobuf_parse_changes.proofs.messages.oneofs_changes.Given as goal

abbrev pub invariant-oneofs : goal.invariant-oneofs
invariant-oneofs l = told l.changes ≡ told l.fn.changes
    ++ flat_map (oneof_changes (place_view l.at) (message_view l.old) (message_view l.new))
    (map oneof_view (take l.oneof-index l.oneofs))
