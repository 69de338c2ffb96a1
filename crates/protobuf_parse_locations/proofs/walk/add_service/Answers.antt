use Rattle.std.proofs.Common.{◌≡◌, ◌∙◌, [], ◌∷◌, List, ap, map}
use Rattle.std.proofs.lemmas.List.Elements.{same_from_all_zip}
use Rattle.std.proofs.lemmas.Result.{on_ok_weaker}
use Rattle.protobuf_parse_model.specs.Descriptors.{Text, method_view, service_view}
use Rattle.protobuf_parse_model.specs.declared.descriptor.MethodDescriptorProto.{MethodDescriptorProto}
use Rattle.protobuf_parse_source_info.specs.Walks.{Path}
use Rattle.protobuf_parse_wire.specs.Declarations.{name_within}
use Rattle.protobuf_parse_locations.specs.Declarations.{items, method_at, named}
use Rattle.protobuf_parse_locations.specs.declared.declaration.DeclarationKind.TheVariants as kind
use Rattle.protobuf_parse_locations.proofs.Going.{adds_alike, adds_more, adds_named}
use Rattle.protobuf_parse_locations.proofs.walk.add_service.Goals as goal

pub returns : goal.returns
returns c =
    let scope = c.args.scope.now in
    let path = c.args.path.items in
    let s = service_view c.args.service.now in
    let inside : Text = name_within scope s.name in
    let here : c.in_ok-here.here.items ≡ path =
    same_from_all_zip _ _ _ c.in_ok-here.ensures.cases.0 (λ x y same. same) in
    on_ok_weaker c.add_methods.result
    (λ more. adds_more _ _ _ (named kind.Service scope s.name path ∷ [])
    (items (method_at inside) path 2 0 s.method)
    (adds_named _ _ kind.Service scope _ s.name _ path c.in_ok-add.ensures c.deref.ensures here)
    (adds_alike _ _ _ _ more
    (ap (λ (t : Text). items (method_at t) c.deref-4.result.now 2 0
    (map method_view c.deref-5.result.now))
    (c.deref-3.ensures ∙ c.in_ok-inside.ensures ∙ ap (name_within scope) c.deref-2.ensures)
    ∙ ap (λ (p : Path). items (method_at inside) p 2 0 (map method_view c.deref-5.result.now))
    c.deref-4.ensures.value
    ∙ ap (λ (ms : List MethodDescriptorProto).
    items (method_at inside) path 2 0 (map method_view ms)) c.deref-5.ensures.value)))
    c.add_methods.ensures
