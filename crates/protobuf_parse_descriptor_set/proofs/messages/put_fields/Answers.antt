use Rattle.std.proofs.Common.{Bool, List, length, subst, ℕ}
use Rattle.protobuf_parse_model.specs.Descriptors.{FieldDescriptor, field_view}
use Rattle.protobuf_parse_descriptor_set.specs.Items.{part}
use Rattle.protobuf_parse_descriptor_set.specs.Writing.{Writes}
use Rattle.protobuf_parse_descriptor_set.specs.OneofOrder.{field_at, field_in_set, new_index}
use Rattle.protobuf_parse_descriptor_set.specs.Told.{Tells, index_by}
use Rattle.protobuf_parse_descriptor_set.specs.DescriptorItems.{field_items}
use Rattle.protobuf_parse_descriptor_set.proofs.Joining.{none_yet, one_more, all_changed}
use Rattle.protobuf_parse_descriptor_set.proofs.Lengths.{ended_part, within}
use Rattle.protobuf_parse_descriptor_set.proofs.Indices.{told_index}
use Rattle.protobuf_parse_descriptor_set.proofs.messages.put_fields.Goals as goal

by_index : (f : FieldDescriptor) (marks : List Bool) (indices old new : List ℕ)
    → Tells (new_index marks) (length marks) indices
    → Writes (field_items (field_at f (index_by indices f.oneof_index))) old new
    → Writes (field_items (field_in_set marks f)) old new
by_index f marks indices old new t w = subst (λ i. Writes (field_items (field_at f i)) old new)
    (told_index marks indices t f.oneof_index) w

pub loop-field-init : goal.loop-field-init
loop-field-init c = none_yet _

pub end_message-requires : goal.end_message-requires
end_message-requires c =
    within _ _ _ _ c.in_ok-start.ensures.start c.in_ok-put_field_in_set.ensures

pub loop-field-preserved : goal.loop-field-preserved
loop-field-preserved c =
    let f = c.field-item.result in
    let marks = c.args.synthetic.now in
    let written = by_index (field_view f) marks c.in_ok-indices.indices.items _ _
    c.in_ok-indices.ensures (rw c.deref.ensures.value at c.in_ok-put_field_in_set.ensures) in
    one_more (λ f. part 2 (field_items f)) (λ f. field_in_set marks (field_view f)) _ _ _ _ _ _
    c.loop-field-test.true c.field-item.is c.loop-field.invariant
    (ended_part _ _ _ _ _ _ _ c.in_ok-start.ensures.begun c.in_ok-start.ensures.start written
    c.in_ok-end_message.ensures)

pub returns : goal.returns
returns c = all_changed (λ f. part 2 (field_items f)) (field_in_set c.args.synthetic.now) field_view
    _ _ _ _ c.loop-field-test.false c.loop-field.invariant
