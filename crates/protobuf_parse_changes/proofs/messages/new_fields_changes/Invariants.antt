use Rattle.std.proofs.Common.{◌≡◌, ◌++◌, flat_map, map, take}
use Rattle.protobuf_parse_model.specs.Descriptors.{field_view, file_view, message_view}
use Rattle.protobuf_parse_changes.specs.Fields.{new_field_changes}
use Rattle.protobuf_parse_changes.specs.Views.{place_view, told}
use Rattle.protobuf_parse_changes.proofs.messages.new_fields_changes.Given as goal

abbrev pub invariant-fields : goal.invariant-fields
invariant-fields l = told l.changes ≡ told l.fn.changes
    ++ flat_map (new_field_changes (map file_view l.old_index) (place_view l.at) (message_view l.old))
    (map field_view (take l.field-index l.list))
