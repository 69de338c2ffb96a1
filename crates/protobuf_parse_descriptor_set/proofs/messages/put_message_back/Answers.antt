use Rattle.std.proofs.Common.{◌∙◌, ap, length, sym}
use Rattle.std.proofs.lemmas.List.{length-map}
use Rattle.std.proofs.lemmas.List.FromFn.{length-map-range_with_len}
use Rattle.protobuf_parse_model.specs.Descriptors.{oneof_view}
use Rattle.protobuf_parse_model.specs.MessageParts.{message_parts}
use Rattle.protobuf_parse_descriptor_set.specs.OneofOrder.{is_synthetic}
use Rattle.protobuf_parse_descriptor_set.specs.DescriptorItems.{message_back}
use Rattle.protobuf_parse_descriptor_set.proofs.Joining.{joined, on_ok_then}
use Rattle.protobuf_parse_descriptor_set.proofs.messages.put_message_back.Goals as goal

pub put_oneofs-requires : goal.put_oneofs-requires
put_oneofs-requires c =
    let m = message_parts c.args.message.now in
    ap length c.requires ∙ length-map-range_with_len (is_synthetic m.field) 0 (length m.oneof_decl)
    ∙ length-map _ oneof_view ∙ sym (ap length c.deref-4.ensures.value)

pub returns : goal.returns
unfolding message_back
returns c =
    let enums = rw c.deref.ensures.value at c.in_ok-put_parts.ensures in
    let ranges = rw (c.deref-2.ensures.value, c.is_message_set-message_set.ensures) at c.in_ok-put_ranges.ensures in
    let extensions = rw c.deref-3.ensures.value at c.in_ok-put_parts-2.ensures in
    let oneofs = rw (c.deref-4.ensures.value, c.requires) at c.in_ok-put_oneofs.ensures in
    let reserved =
    rw (c.deref-5.ensures.value, c.is_message_set-message_set.ensures) at c.in_ok-put_ranges-2.ensures in
    let names = rw c.deref-6.ensures.value at c.put_texts.ensures in
    let to1 = joined enums ranges in
    let to2 = joined to1 extensions in
    let to3 = joined to2 c.in_ok-put_options.ensures in
    let to4 = joined to3 oneofs in
    let to5 = joined to4 reserved in
    on_ok_then c.put_texts.result (λ last. joined to5 last) names
