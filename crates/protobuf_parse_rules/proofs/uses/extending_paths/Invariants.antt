use Rattle.std.proofs.Common.{◌≡◌, flat_map, map, take}
use Rattle.protobuf_parse_rules.specs.Imports.{extending_path}
use Rattle.protobuf_parse_rules.specs.BodyViews.{body_view}
use Rattle.protobuf_parse_rules.specs.Sets.{texts_of}
use Rattle.protobuf_parse_rules.proofs.uses.extending_paths.Given as goal

abbrev pub invariant-bodies : goal.invariant-bodies
invariant-bodies l = texts_of l.paths.items
    ≡ flat_map extending_path (map body_view (take l.body-index l.bodies))
