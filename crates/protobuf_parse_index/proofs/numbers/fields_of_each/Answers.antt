use Rattle.std.proofs.Math.Path.{fun_ext}
use Rattle.std.proofs.Common.{◌≡◌, ◌∙◌, ◌++◌, ◌∷◌, [], ℤ, List, Option, map, take, ap, sym}
use Rattle.std.proofs.lemmas.List.{map-append}
use Rattle.protobuf_parse_model.specs.Descriptors.{FieldDescriptor, MessageParts, field_view}
use Rattle.protobuf_parse_model.specs.declared.descriptor.FieldDescriptorProto.{FieldDescriptorProto}
use Rattle.protobuf_parse_index.specs.Kept.{field_at, own_fields}
use Rattle.protobuf_parse_index.specs.Lookups.{field_with}
use Rattle.protobuf_parse_index.specs.Views.{standing_message}
use Rattle.protobuf_parse_index.proofs.Positions.{mapped_twice_more}
use Rattle.protobuf_parse_index.proofs.Walked.{parts_are}
use Rattle.protobuf_parse_index.proofs.numbers.fields_of_each.Goals as goal

pub messages-preserved : goal.messages-preserved
messages-preserved c =
    let item = c.message-item.result in
    let old = c.messages.fields.items in
    let m = c.in_ok-fields_by_number.field-0 in
    let same : field_at m ≡ own_fields (standing_message item) =
    fun_ext (λ (n : ℤ). c.in_ok-fields_by_number.ensures n
    ∙ ap (λ (fs : List FieldDescriptorProto). field_with n (map field_view fs))
    c.deref.ensures.value
    ∙ ap (λ (p : MessageParts). field_with n p.field) (sym (parts_are item.descriptor.now))) in
    ap (map field_at) c.in_ok-push.ensures.items
    ∙ map-append field_at old (m ∷ [])
    ∙ ap (λ fs. fs ++ field_at m ∷ []) c.messages.invariant
    ∙ ap (λ (f : ℤ → Option FieldDescriptor).
    map own_fields (map standing_message (take c.messages.message-index c.args.messages.now))
    ++ f ∷ []) same
    ∙ sym (mapped_twice_more own_fields standing_message c.args.messages.now
    c.messages.message-index item c.messages-test.true c.message-item.is)
