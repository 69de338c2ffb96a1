use Rattle.std.proofs.Common.{◌≡◌, flat_map, map, take}
use Rattle.protobuf_parse_rules.specs.Keys.{packages_at}
use Rattle.protobuf_parse_rules.specs.KnownNames.{named_view}
use Rattle.protobuf_parse_rules.specs.BodyViews.{body_view}
use Rattle.protobuf_parse_rules.proofs.names.packages_of.Given as goal

abbrev pub invariant-bodies : goal.invariant-bodies
invariant-bodies l = map named_view l.names.items
    ≡ flat_map packages_at (map body_view (take l.body-index l.bodies))
