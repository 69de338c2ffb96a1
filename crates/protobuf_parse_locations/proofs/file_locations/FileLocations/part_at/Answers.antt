use Rattle.std.proofs.Common.{◌∙◌, ap}
use Rattle.std.specs.Prelude.{bytes_eq}
use Rattle.protobuf_parse_source_info.specs.Info.{LocationSyntax}
use Rattle.protobuf_parse_source_info.specs.Parts.{at}
use Rattle.protobuf_parse_source_info.specs.Views.{location_view}
use Rattle.protobuf_parse_locations.specs.Lookups.{location_at}
use Rattle.protobuf_parse_locations.specs.Views.{FileSeen}
use Rattle.protobuf_parse_locations.proofs.FirstFound.{found_there}
use Rattle.protobuf_parse_locations.proofs.file_locations.FileLocations.part_at.Goals as goal

pub returns : goal.returns
returns c =
    let path = c.args.path.now in
    let n = c.args.number in
    found_there location_view (λ (l : LocationSyntax). bytes_eq (at path n) l.path)
    c.self.inside.locations.now c.at_position.result c.position_of_part.result
    c.at_position.ensures (c.position_of_part.ensures ∙ c.self.invariant.parts path n)
    ∙ ap (λ (f : FileSeen). location_at f.locations (at path n)) c.self.view_is
