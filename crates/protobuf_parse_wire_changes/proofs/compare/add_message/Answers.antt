use Rattle.std.proofs.Common.{rules}
use Rattle.std.specs.Prelude.{string_bytes}
use Rattle.protobuf_parse_model.specs.Descriptors.{FieldDescriptor, field_view}
use Rattle.protobuf_parse_wire_changes.specs.Changes.{number_changes}
use Rattle.protobuf_parse_wire_changes.specs.Inside.{compared_view}
use Rattle.protobuf_parse_wire_changes.specs.Views.{changes_view}
use Rattle.protobuf_parse_wire_changes.proofs.Listing.{goes_on}
use Rattle.protobuf_parse_wire_changes.proofs.compare.add_message.Goals as goal

pub fields-preserved : goal.fields-preserved
fields-preserved c =
    let compared = compared_view c.args.compared.now in
    let before = changes_view c.fields.changes.items in
    goes_on field_view
    (λ (f : FieldDescriptor).
    number_changes compared (string_bytes c.args.message.now.full_name) f.number)
    before (changes_view c.add_change.new.changes.items)
    c.fields.field-index c.deref-field-items.result.now c.field-item.result _ c.fields-test.true
    c.field-item.is
    (search rules)
    c.fields.invariant
