use Rattle.std.proofs.Common.{◌++◌}
use Rattle.std.specs.Prelude.{string_bytes}
use Rattle.protobuf_parse_model.specs.Descriptors.{FieldDescriptor, field_view}
use Rattle.protobuf_parse_index.specs.Views.{standing_message}
use Rattle.protobuf_parse_wire_changes.specs.Changes.{message_changes, number_changes}
use Rattle.protobuf_parse_wire_changes.specs.Inside.{compared_view}
use Rattle.protobuf_parse_wire_changes.specs.Views.{changes_view}
use Rattle.protobuf_parse_wire_changes.proofs.Listing.{ToList}
use Rattle.protobuf_parse_wire_changes.proofs.compare.add_message.Given as goal

abbrev pub invariant-fields : goal.invariant-fields
invariant-fields l =
    ToList field_view
    (λ (f : FieldDescriptor).
    number_changes (compared_view l.compared) (string_bytes l.message.full_name) f.number)
    (changes_view l.changes.items) l.field-index l.field-items
    (changes_view l.fn.changes.items
    ++ message_changes (compared_view l.compared) (standing_message l.message))
