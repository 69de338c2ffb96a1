use Rattle.std.proofs.Common.{◌≡◌, ◌∙◌, Bool, List, ap, arith, length, map, subst, sym, ℕ}
use Rattle.std.proofs.lemmas.List.{length-map}
use Rattle.std.specs.Prelude.{vec_len}
use Rattle.std.specs.List.{range_with_len}
use Rattle.protobuf_parse_model.specs.Descriptors.{field_view, message_view}
use Rattle.protobuf_parse_model.specs.MessageParts.{message_parts}
use Rattle.protobuf_parse_model.specs.Descriptors.{oneof_view}
use Rattle.protobuf_parse_model.specs.declared.descriptor.DescriptorProto.{DescriptorProto}
use Rattle.protobuf_parse_model.specs.declared.descriptor.DescriptorProto.{out-DescriptorProto}
use Rattle.protobuf_parse_model.specs.declared.descriptor.FieldDescriptorProto.{FieldDescriptorProto}
use Rattle.protobuf_parse_descriptor_set.specs.Items.{part}
use Rattle.protobuf_parse_descriptor_set.specs.Writing.{Writes}
use Rattle.protobuf_parse_descriptor_set.specs.OneofOrder.{is_synthetic, synthetic}
use Rattle.protobuf_parse_descriptor_set.specs.Told.{Tells}
use Rattle.protobuf_parse_descriptor_set.specs.DescriptorItems.{message_items}
use Rattle.protobuf_parse_descriptor_set.proofs.Inside.{message_items_is}
use Rattle.protobuf_parse_descriptor_set.proofs.Joining.{joined, none_yet, on_ok_then}
use Rattle.protobuf_parse_descriptor_set.proofs.Joining.{one_more, all_of}
use Rattle.protobuf_parse_descriptor_set.proofs.Lengths.{ended_part, within}
use Rattle.protobuf_parse_descriptor_set.proofs.Indices.{told_marks}
use Rattle.protobuf_parse_descriptor_set.proofs.messages.+message_items.Goals as goal

-- what was found is which oneofs of the message are synthetic
marks_of : (m : DescriptorProto) (fields : List FieldDescriptorProto) (n : ℕ) (marks : List Bool)
    → Tells (is_synthetic (map field_view fields)) n marks
    → fields ≡ (out-DescriptorProto m).field.items
    → n ≡ vec_len (out-DescriptorProto m).oneof_decl
    → marks ≡ synthetic (message_parts m)
marks_of m fields n marks t is count =
    let oneofs = (out-DescriptorProto m).oneof_decl in
    let as_many : n ≡ length oneofs.items = omega (arith, count, oneofs.ok.0) in
    told_marks (is_synthetic (map field_view fields)) n marks t
    ∙ ap (λ fs. map (is_synthetic (map field_view fs)) (range_with_len 0 n)) is
    ∙ ap (λ k. map (is_synthetic (message_parts m).field) (range_with_len 0 k))
    (as_many ∙ sym (length-map oneofs.items oneof_view))

pub put_inside-put_message_front-requires : goal.put_inside-put_message_front-requires
put_inside-put_message_front-requires t c =
    c.deref-2.ensures.value
    ∙ marks_of c.args.message.now _ _ _ c.in_ok-synthetic.ensures c.deref.ensures.value
    c.len.ensures

pub put_inside-put_message_back-requires : goal.put_inside-put_message_back-requires
put_inside-put_message_back-requires t c =
    c.deref-4.ensures.value
    ∙ marks_of c.args.message.now _ _ _ c.in_ok-synthetic.ensures c.deref.ensures.value
    c.len.ensures

pub put_inside-returns : goal.put_inside-returns
put_inside-returns t c =
    let nested = rw c.deref-3.ensures.value at c.in_ok-put_messages.ensures in
    on_ok_then c.put_message_back.result
    (λ last. subst (λ z. Writes z c.args.out.now.items c.put_message_back.new.out.items)
    (sym (message_items_is c.args.message.now))
    (joined (joined c.in_ok-put_message_front.ensures nested) last))
    c.put_message_back.ensures

pub put_messages-loop-message-init : goal.put_messages-loop-message-init
put_messages-loop-message-init t c = none_yet _

pub put_messages-end_message-requires : goal.put_messages-end_message-requires
put_messages-end_message-requires t c =
    within _ _ _ _ c.in_ok-start.ensures.start c.in_ok-put_inside.ensures

pub put_messages-loop-message-preserved : goal.put_messages-loop-message-preserved
put_messages-loop-message-preserved t c =
    one_more (λ m. part c.args.number (message_items m)) message_view _ _ _ _ _ _
    c.loop-message-test.true c.message-item.is c.loop-message.invariant
    (ended_part _ _ _ _ _ _ _ c.in_ok-start.ensures.begun c.in_ok-start.ensures.start
    c.in_ok-put_inside.ensures c.in_ok-end_message.ensures)

pub put_messages-returns : goal.put_messages-returns
put_messages-returns t c = all_of (λ m. part c.args.number (message_items m)) message_view _ _ _ _
    c.loop-message-test.false c.loop-message.invariant
