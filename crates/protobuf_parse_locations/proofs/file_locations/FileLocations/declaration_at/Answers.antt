use Rattle.std.proofs.Common.{◌∙◌, List, map, ap, sym}
use Rattle.std.specs.Prelude.{bytes_eq}
use Rattle.protobuf_parse_locations.specs.Declarations.{DeclarationAt}
use Rattle.protobuf_parse_locations.specs.Kept.{first_at}
use Rattle.protobuf_parse_locations.specs.Lookups.{declaration_at}
use Rattle.protobuf_parse_locations.specs.Views.{FileSeen, declaration_view}
use Rattle.protobuf_parse_locations.specs.declared.declaration.Declaration.{Declaration}
use Rattle.protobuf_parse_locations.proofs.FirstFound.{found_there}
use Rattle.protobuf_parse_locations.proofs.file_locations.FileLocations.declaration_at.Goals as goal

pub returns : goal.returns
returns c =
    let path = c.args.path.now in
    found_there declaration_view (λ (d : DeclarationAt). bytes_eq path d.path) c.deref.result.now
    c.at_position.result c.copied.result c.at_position.ensures
    (c.copied.ensures ∙ c.get.ensures.value ∙ c.self.invariant.paths path
    ∙ ap (first_at (λ (d : Declaration). bytes_eq path d.path.items))
    (sym c.deref.ensures.value))
    ∙ ap (λ (ds : List DeclarationAt). declaration_at ds path)
    (ap (map declaration_view) c.deref.ensures.value
    ∙ ap (λ (f : FileSeen). f.declarations) c.self.view_is)
