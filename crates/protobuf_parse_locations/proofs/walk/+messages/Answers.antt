use Rattle.std.proofs.Common.{◌≡◌, ◌∙◌, List, ap, map, refl, string_bytes}
use Rattle.std.proofs.lemmas.List.Elements.{same_from_all_zip}
use Rattle.std.proofs.lemmas.Result.{on_ok_weaker}
use Rattle.protobuf_parse_model.specs.Descriptors.{Text, field_view, message_view}
use Rattle.protobuf_parse_model.specs.MessageParts.{message_parts}
use Rattle.protobuf_parse_model.specs.declared.descriptor.DescriptorProto.{DescriptorProto}
use Rattle.protobuf_parse_model.specs.declared.descriptor.FieldDescriptorProto.{FieldDescriptorProto}
use Rattle.protobuf_parse_source_info.specs.Walks.{Path}
use Rattle.protobuf_parse_wire.specs.Declarations.{name_within}
use Rattle.protobuf_parse_locations.specs.Declarations.{behind_messages, field_at, items}
use Rattle.protobuf_parse_locations.specs.Declarations.{message_at}
use Rattle.protobuf_parse_locations.specs.declared.declaration.DeclarationKind.TheVariants as kind
use Rattle.protobuf_parse_locations.proofs.Going.{adds_alike, adds_named, item_added, items_added}
use Rattle.protobuf_parse_locations.proofs.Messages.{message_added}
use Rattle.protobuf_parse_locations.proofs.walk.+messages.Goals as goal

pub add_messages-messages-init : goal.add_messages-messages-init
add_messages-messages-init t c = record { same = refl }

pub add_messages-messages-preserved : goal.add_messages-messages-preserved
add_messages-messages-preserved t c =
    item_added message_view (message_at c.args.scope.now) c.args.path.now c.args.list
    c.args.all.now.items c.messages.all.items c.add_message.new.all.items c.messages.index
    c.next-index.result c.messages.message-index c.args.messages.now c.message-item.result _
    c.messages-test.true c.message-item.is c.messages.invariant
    (adds_alike _ _ _ _ c.in_ok-add_message.ensures
    (ap (λ (p : Path). message_at c.args.scope.now p (message_view c.message-item.result))
    c.in_ok-here.ensures))
    c.next-index.ensures

pub add_messages-returns : goal.add_messages-returns
add_messages-returns t c =
    items_added message_view (message_at c.args.scope.now) c.args.path.now c.args.list
    c.args.all.now.items c.messages.all.items c.messages.index c.messages.message-index
    c.args.messages.now _ c.messages-test.false c.messages.invariant

pub add_message-returns : goal.add_message-returns
add_message-returns t c =
    let scope = c.args.scope.now in
    let path = c.args.path.items in
    let m = c.args.message.now in
    let inside : Text = string_bytes c.in_ok-inside.inside in
    let here : c.in_ok-here.here.items ≡ path =
    same_from_all_zip _ _ _ c.in_ok-here.ensures.cases.0 (λ x y same. same) in
    on_ok_weaker c.add_behind.result
    (λ more. message_added scope inside path m _ _ _ _ _
    (c.in_ok-inside.ensures ∙ ap (name_within scope) c.deref-2.ensures)
    (adds_named _ _ kind.Message scope _ _ _ path c.in_ok-add.ensures c.deref.ensures here)
    (adds_alike _ _ _ _ c.in_ok-add_fields.ensures
    (ap (λ (s : Text). items (field_at kind.Field s) c.deref-4.result.now 2 0
    (map field_view c.deref-5.result.now)) c.deref-3.ensures
    ∙ ap (λ (p : Path). items (field_at kind.Field inside) p 2 0
    (map field_view c.deref-5.result.now)) c.deref-4.ensures.value
    ∙ ap (λ (fs : List FieldDescriptorProto).
    items (field_at kind.Field inside) path 2 0 (map field_view fs)) c.deref-5.ensures.value))
    (adds_alike _ _ _ _ c.in_ok-add_messages.ensures
    (ap (λ (s : Text). items (message_at s) c.deref-7.result.now 3 0
    (map message_view c.deref-8.result.now)) c.deref-6.ensures
    ∙ ap (λ (p : Path). items (message_at inside) p 3 0
    (map message_view c.deref-8.result.now)) c.deref-7.ensures.value
    ∙ ap (λ (ms : List DescriptorProto).
    items (message_at inside) path 3 0 (map message_view ms)) c.deref-8.ensures.value))
    (adds_alike _ _ _ _ more
    (ap (λ (s : Text). behind_messages s c.deref-10.result.now (message_parts m)) c.deref-9.ensures
    ∙ ap (λ (p : Path). behind_messages inside p (message_parts m)) c.deref-10.ensures.value)))
    c.add_behind.ensures
