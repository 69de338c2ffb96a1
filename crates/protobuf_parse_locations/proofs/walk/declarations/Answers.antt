use Rattle.std.proofs.Common.{◌∙◌, [], ◌++◌, List, ap, map}
use Rattle.protobuf_parse_model.specs.Descriptors.{Text, enum_view, field_view, file_view}
use Rattle.protobuf_parse_model.specs.Descriptors.{message_view, service_view}
use Rattle.protobuf_parse_model.specs.declared.descriptor.DescriptorProto.{DescriptorProto}
use Rattle.protobuf_parse_model.specs.declared.descriptor.EnumDescriptorProto.{EnumDescriptorProto}
use Rattle.protobuf_parse_model.specs.declared.descriptor.FieldDescriptorProto.{FieldDescriptorProto}
use Rattle.protobuf_parse_model.specs.declared.descriptor.ServiceDescriptorProto.{ServiceDescriptorProto}
use Rattle.protobuf_parse_wire.specs.Declarations.{package_scope}
use Rattle.protobuf_parse_locations.specs.Adds.{Adds}
use Rattle.protobuf_parse_locations.specs.Declarations.{enum_at, field_at, in_package, items}
use Rattle.protobuf_parse_locations.specs.Declarations.{message_at, service_at}
use Rattle.protobuf_parse_locations.specs.Views.{declaration_view}
use Rattle.protobuf_parse_locations.specs.declared.declaration.Declaration.{Declaration}
use Rattle.protobuf_parse_locations.specs.declared.declaration.DeclarationKind.TheVariants as kind
use Rattle.protobuf_parse_locations.proofs.Going.{adds_alike, adds_more}
use Rattle.protobuf_parse_locations.proofs.walk.declarations.Goals as goal

pub returns : goal.returns
returns c =
    let f = file_view c.args.file.now in
    let scope : Text = package_scope f.«package» in
    let named = c.in_ok-scope.ensures in
    let whole : Adds c.new-all.result.items c.add_fields.new.all.items (in_package scope f) =
    adds_more _ _ _ _ _
    (adds_more _ _ _ _ _
    (adds_more _ _ _ _ _
    (adds_alike _ _ _ _ c.in_ok-add_messages.ensures
    (ap (λ (s : Text). items (message_at s) [] 4 0 (map message_view c.deref-2.result.now))
    (c.deref.ensures ∙ named)
    ∙ ap (λ (ms : List DescriptorProto). items (message_at scope) [] 4 0 (map message_view ms))
    c.deref-2.ensures.value))
    (adds_alike _ _ _ _ c.in_ok-add_enums.ensures
    (ap (λ (s : Text). items (enum_at s) [] 5 0 (map enum_view c.deref-4.result.now))
    (c.deref-3.ensures ∙ named)
    ∙ ap (λ (es : List EnumDescriptorProto). items (enum_at scope) [] 5 0 (map enum_view es))
    c.deref-4.ensures.value)))
    (adds_alike _ _ _ _ c.in_ok-add_services.ensures
    (ap (λ (s : Text). items (service_at s) [] 6 0 (map service_view c.deref-6.result.now))
    (c.deref-5.ensures ∙ named)
    ∙ ap (λ (ss : List ServiceDescriptorProto).
    items (service_at scope) [] 6 0 (map service_view ss)) c.deref-6.ensures.value)))
    (adds_alike _ _ _ _ c.in_ok-add_fields.ensures
    (ap (λ (s : Text). items (field_at kind.Extension s) [] 7 0
    (map field_view c.deref-8.result.now)) (c.deref-7.ensures ∙ named)
    ∙ ap (λ (fs : List FieldDescriptorProto).
    items (field_at kind.Extension scope) [] 7 0 (map field_view fs)) c.deref-8.ensures.value)) in
    whole.all
    ∙ ap (λ (ds : List Declaration). map declaration_view ds ++ in_package scope f)
    c.new-all.ensures.items
