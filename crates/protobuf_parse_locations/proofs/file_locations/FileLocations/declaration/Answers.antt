use Rattle.std.proofs.Common.{◌∙◌, List, map, ap, sym, string_bytes}
use Rattle.std.specs.Prelude.{bytes_eq}
use Rattle.protobuf_parse_locations.specs.Declarations.{DeclarationAt}
use Rattle.protobuf_parse_locations.specs.Kept.{first_at}
use Rattle.protobuf_parse_locations.specs.Lookups.{declaration_named}
use Rattle.protobuf_parse_locations.specs.Views.{FileSeen, declaration_view}
use Rattle.protobuf_parse_locations.specs.declared.declaration.Declaration.{Declaration}
use Rattle.protobuf_parse_locations.proofs.FirstFound.{found_there}
use Rattle.protobuf_parse_locations.proofs.file_locations.FileLocations.declaration.Goals as goal

pub returns : goal.returns
returns c =
    let name = c.args.full_name.now in
    found_there declaration_view (λ (d : DeclarationAt). bytes_eq name d.name) c.deref.result.now
    c.at_position.result c.copied.result c.at_position.ensures
    (c.copied.ensures ∙ c.get.ensures.value ∙ c.self.invariant.names name
    ∙ ap (first_at (λ (d : Declaration). bytes_eq name (string_bytes d.full_name)))
    (sym c.deref.ensures.value))
    ∙ ap (λ (ds : List DeclarationAt). declaration_named ds name)
    (ap (map declaration_view) c.deref.ensures.value
    ∙ ap (λ (f : FileSeen). f.declarations) c.self.view_is)
