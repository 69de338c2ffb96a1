use Rattle.std.proofs.Common.{◌≡◌, ◌∙◌, [], ap, sym}
use Rattle.std.specs.Prelude.{bytes_eq}
use Rattle.std.proofs.lemmas.List.{nil_from_length}
use Rattle.protobuf_parse_source_info.specs.Info.{LocationSyntax}
use Rattle.protobuf_parse_source_info.specs.Views.{location_view}
use Rattle.protobuf_parse_locations.specs.Lookups.{location_at}
use Rattle.protobuf_parse_locations.specs.Views.{FileSeen}
use Rattle.protobuf_parse_locations.proofs.FirstFound.{found_view}
use Rattle.protobuf_parse_locations.proofs.file_locations.FileLocations.at.Goals as goal

pub returns-in-Some : goal.returns-in-Some
returns-in-Some c =
    c.part_at.ensures ∙ ap (location_at c.args.self.now.locations) (sym c.in-Some.ensures.cases.0)

pub returns-in-None : goal.returns-in-None
returns-in-None c =
    let none : c.args.path.now ≡ [] = nil_from_length c.args.path.now c.in-None.ensures.cases in
    found_view location_view (λ (l : LocationSyntax). bytes_eq [] l.path)
    c.self.inside.locations.now c.self.inside.whole c.self.invariant.whole
    ∙ ap (λ (f : FileSeen). location_at f.locations []) c.self.view_is
    ∙ ap (location_at c.args.self.now.locations) (sym none)
