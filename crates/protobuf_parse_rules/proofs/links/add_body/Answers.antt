use Rattle.std.proofs.Common.{◌∙◌, ◌++◌, List, ap, flat_map, map, subst}
use Rattle.std.proofs.lemmas.Result.{on_ok_weaker}
use Rattle.protobuf_parse_model.specs.Descriptors.{FieldDescriptor, ServiceDescriptor, Text}
use Rattle.protobuf_parse_model.specs.Descriptors.{field_view, service_view}
use Rattle.protobuf_parse_rules.specs.Imports.{field_types, service_types}
use Rattle.protobuf_parse_rules.specs.KnownUses.{AddsNames}
use Rattle.protobuf_parse_rules.specs.Bodies.{extensions_of, fields_of}
use Rattle.protobuf_parse_rules.specs.BodyViews.{body_view}
use Rattle.protobuf_parse_rules.proofs.Linking.{names_more}
use Rattle.protobuf_parse_rules.proofs.links.add_body.Goals as goal

pub returns : goal.returns
returns c =
    let content = (body_view c.args.body.now).content in
    let extensions = flat_map field_types (map field_view c.extensions.result.now) in
    let services = flat_map service_types (map service_view c.services.result.now) in
    on_ok_weaker c.add_services.result
    (λ third all knows. subst (λ (ns : List Text). AddsNames all c.args.links.now
    c.add_services.new.links c.args.body.now.file.now ns)
    (ap (λ (fs : List FieldDescriptor). flat_map field_types fs ++ (extensions ++ services))
    c.fields.ensures
    ∙ ap (λ (es : List FieldDescriptor). flat_map field_types (fields_of content)
    ++ (flat_map field_types es ++ services)) c.extensions.ensures
    ∙ ap (λ (ss : List ServiceDescriptor). flat_map field_types (fields_of content)
    ++ (flat_map field_types (extensions_of content) ++ flat_map service_types ss))
    c.services.ensures)
    (names_more all _ _ _ _ _ _ (c.in_ok-add_fields.ensures all knows)
    (names_more all _ _ _ _ _ _ (c.in_ok-add_fields-2.ensures all knows) (third all knows))))
    c.add_services.ensures
