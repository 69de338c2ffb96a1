use Rattle.std.proofs.Common.{◌≡◌, List, cond, ◌++◌, ◌∷◌, [], ◌≤◌, length, sym, subst, arith}
use Rattle.std.proofs.Common.{string_bytes, map, refl, ap}
use Rattle.std.specs.List.{flat_map}
use Rattle.std.specs.Str.{bytes_eq}
use Rattle.protobuf_parse_base.specs.Multimaps.{values_under}
use Rattle.protobuf_parse_wire.specs.declared.reader.index.Index.{Index}
use Rattle.std.proofs.lemmas.Result.{on_ok_weaker}
use Rattle.protobuf_parse_model.specs.declared.descriptor.DescriptorProto.{DescriptorProto}
use Rattle.protobuf_parse_model.specs.declared.descriptor.DescriptorProto.{out-DescriptorProto}
use Rattle.protobuf_parse_model.specs.declared.descriptor.FieldDescriptorProto.{FieldDescriptorProto}
use Rattle.protobuf_parse_model.specs.Descriptors.{Text, field_view, message_view}
use Rattle.protobuf_parse_wire.specs.Declarations.{Declaration, declared_message}
use Rattle.protobuf_parse_wire.specs.Indexed.{IndexAdds, AddsMessages}
use Rattle.protobuf_parse_wire.proofs.Adding.{adds_none, adds_messages_more, joined_one_more}
use Rattle.protobuf_parse_wire.proofs.Adding.{mapped_all, message_added}
use Rattle.protobuf_parse_wire.proofs.reader.index.+messages.Goals as goal

pub add_message-returns : goal.add_message-returns
add_message-returns t c =
    let a : Index = record c.args.index.now { messages = c.put.new.map } in
    let b : Index = c.add_extensions.new.index in
    let new : Index = c.add_messages.new.index in
    let name : Text = string_bytes c.in_ok-name.name in
    let cloned : string_bytes c.in_ok-clone.field-0 ≡ name = c.in_ok-clone.ensures.cases in
    let put : (q : Text) → values_under a.messages q
    ≡ cond (bytes_eq q name) (values_under c.args.index.now.messages q ++ c.args.message ∷ [])
    (values_under c.args.index.now.messages q) = λ q. rw (← cloned) (c.in_ok-put.ensures.ok q) in
    let own : IndexAdds a b []
    (map field_view (out-DescriptorProto c.args.message.now).extension.items) =
    subst (λ (es : List FieldDescriptorProto). IndexAdds a b [] (map field_view es))
    c.deref.ensures.value c.in_ok-add_extensions.ensures in
    on_ok_weaker c.add_messages.result
    (λ nested.
    message_added c.args.scope.now name c.args.message c.args.index.now a b new
    c.in_ok-name.ensures.ok refl put own
    (subst (λ (s : Text). AddsMessages b new
    (flat_map (declared_message s)
    (map message_view (out-DescriptorProto c.args.message.now).nested_type.items)))
    c.deref-2.ensures
    (subst (λ (ms : List DescriptorProto). AddsMessages b new
    (flat_map (declared_message c.deref-2.result.now) (map message_view ms)))
    c.deref-3.ensures.value nested)))
    c.add_messages.ensures

pub add_messages-messages-init : goal.add_messages-messages-init
add_messages-messages-init t c = adds_none c.args.index.now

pub add_messages-messages-preserved : goal.add_messages-messages-preserved
add_messages-messages-preserved t c =
    subst (λ (ds : List Declaration). AddsMessages c.args.index.now c.add_message.new.index ds)
    (sym (joined_one_more (declared_message c.args.scope.now) message_view c.args.messages.now
    c.messages.message-index c.message-item.result c.messages-test.true c.message-item.is))
    (adds_messages_more c.args.index.now c.messages.index c.add_message.new.index _ _
    c.messages.invariant c.in_ok-add_message.ensures)

pub add_messages-returns : goal.add_messages-returns
add_messages-returns t c =
    let past : length c.args.messages.now ≤ c.messages.message-index = omega arith in
    subst (λ (ds : List Declaration). AddsMessages c.args.index.now c.messages.index ds)
    (ap (flat_map (declared_message c.args.scope.now))
    (mapped_all message_view c.args.messages.now c.messages.message-index past))
    c.messages.invariant
