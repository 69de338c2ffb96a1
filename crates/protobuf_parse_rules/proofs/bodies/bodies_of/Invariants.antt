use Rattle.std.proofs.Common.{◌≡◌, map, take}
use Rattle.std.specs.List.{flat_map}
use Rattle.protobuf_parse_model.specs.Descriptors.{file_view}
use Rattle.protobuf_parse_rules.specs.Bodies.{bodies_in}
use Rattle.protobuf_parse_rules.specs.BodyViews.{body_view}
use Rattle.protobuf_parse_rules.proofs.bodies.bodies_of.Given as goal

abbrev pub invariant-files : goal.invariant-files
invariant-files l =
    map body_view l.bodies.items ≡ flat_map bodies_in (map file_view (take l.file-index l.files))
