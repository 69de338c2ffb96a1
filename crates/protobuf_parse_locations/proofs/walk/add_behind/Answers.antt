use Rattle.std.proofs.Common.{◌∙◌, List, ap, map}
use Rattle.std.proofs.lemmas.Result.{on_ok_weaker}
use Rattle.protobuf_parse_model.specs.Descriptors.{enum_view, field_view, oneof_view}
use Rattle.protobuf_parse_model.specs.MessageParts.{message_parts}
use Rattle.protobuf_parse_model.specs.declared.descriptor.EnumDescriptorProto.{EnumDescriptorProto}
use Rattle.protobuf_parse_model.specs.declared.descriptor.FieldDescriptorProto.{FieldDescriptorProto}
use Rattle.protobuf_parse_model.specs.declared.descriptor.OneofDescriptorProto.{OneofDescriptorProto}
use Rattle.protobuf_parse_locations.specs.Declarations.{enum_at, field_at, items, oneof_at, written}
use Rattle.protobuf_parse_locations.specs.declared.declaration.DeclarationKind.TheVariants as kind
use Rattle.protobuf_parse_locations.proofs.Going.{adds_alike, adds_more}
use Rattle.protobuf_parse_locations.proofs.walk.add_behind.Goals as goal

pub returns : goal.returns
returns c =
    let scope = c.args.scope.now in
    let path = c.args.path.now in
    on_ok_weaker c.add_oneofs.result
    (λ more. adds_more _ _ _ _ _
    (adds_more _ _ _ _ _
    (adds_alike _ _ _ _ c.in_ok-add_enums.ensures
    (ap (λ (es : List EnumDescriptorProto). items (enum_at scope) path 4 0 (map enum_view es))
    c.deref.ensures.value))
    (adds_alike _ _ _ _ c.in_ok-add_fields.ensures
    (ap (λ (fs : List FieldDescriptorProto).
    items (field_at kind.Extension scope) path 6 0 (map field_view fs)) c.deref-2.ensures.value)))
    (adds_alike _ _ _ _ more
    (ap (λ (fs : List FieldDescriptorProto). items (oneof_at scope) path 8 0
    (written (map field_view fs) 0 (map oneof_view c.deref-4.result.now))) c.deref-3.ensures.value
    ∙ ap (λ (os : List OneofDescriptorProto). items (oneof_at scope) path 8 0
    (written (message_parts c.args.message.now).field 0 (map oneof_view os))) c.deref-4.ensures.value)))
    c.add_oneofs.ensures
