use Rattle.std.proofs.Common.{◌≡◌, ◌∙◌, [], ◌∷◌, List, ap, map}
use Rattle.std.proofs.lemmas.List.Elements.{same_from_all_zip}
use Rattle.std.proofs.lemmas.Result.{on_ok_weaker}
use Rattle.protobuf_parse_model.specs.Descriptors.{enum_value_view, enum_view}
use Rattle.protobuf_parse_model.specs.declared.descriptor.EnumValueDescriptorProto.{EnumValueDescriptorProto}
use Rattle.protobuf_parse_source_info.specs.Walks.{Path}
use Rattle.protobuf_parse_locations.specs.Declarations.{items, named, value_at}
use Rattle.protobuf_parse_locations.specs.declared.declaration.DeclarationKind.TheVariants as kind
use Rattle.protobuf_parse_locations.proofs.Going.{adds_alike, adds_more, adds_named}
use Rattle.protobuf_parse_locations.proofs.walk.add_enum.Goals as goal

pub returns : goal.returns
returns c =
    let scope = c.args.scope.now in
    let path = c.args.path.items in
    let e = enum_view c.args.enumeration.now in
    let here : c.in_ok-here.here.items ≡ path =
    same_from_all_zip _ _ _ c.in_ok-here.ensures.cases.0 (λ x y same. same) in
    on_ok_weaker c.add_values.result
    (λ more. adds_more _ _ _ (named kind.Enum scope e.name path ∷ [])
    (items (value_at scope) path 2 0 e.value)
    (adds_named _ _ kind.Enum scope _ e.name _ path c.in_ok-add.ensures c.deref.ensures here)
    (adds_alike _ _ _ _ more
    (ap (λ (p : Path). items (value_at scope) p 2 0 (map enum_value_view c.deref-3.result.now))
    c.deref-2.ensures.value
    ∙ ap (λ (vs : List EnumValueDescriptorProto).
    items (value_at scope) path 2 0 (map enum_value_view vs)) c.deref-3.ensures.value)))
    c.add_values.ensures
