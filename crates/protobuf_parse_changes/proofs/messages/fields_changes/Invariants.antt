use Rattle.std.proofs.Common.{◌≡◌, ◌++◌, flat_map, map, take}
use Rattle.protobuf_parse_model.specs.Descriptors.{field_view, file_view, message_view}
use Rattle.protobuf_parse_changes.specs.Fields.{field_changes}
use Rattle.protobuf_parse_changes.specs.Views.{place_view, told}
use Rattle.protobuf_parse_changes.proofs.messages.fields_changes.Given as goal

abbrev pub invariant-fields : goal.invariant-fields
invariant-fields l = told l.changes ≡ told l.fn.changes
    ++ flat_map (field_changes (map file_view l.new_index) (place_view l.at) (message_view l.old)
    (message_view l.new)) (map field_view (take l.field-index l.list))
