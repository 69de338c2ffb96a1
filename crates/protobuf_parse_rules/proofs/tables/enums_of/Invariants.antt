use Rattle.std.proofs.Common.{◌≡◌, flat_map, map, take}
use Rattle.protobuf_parse_rules.specs.Known.{owned_enum}
use Rattle.protobuf_parse_rules.specs.Lookups.{enums_at}
use Rattle.protobuf_parse_rules.specs.BodyViews.{body_view}
use Rattle.protobuf_parse_rules.proofs.tables.enums_of.Given as goal

abbrev pub invariant-bodies : goal.invariant-bodies
invariant-bodies l = map owned_enum l.enums.items
    ≡ flat_map enums_at (map body_view (take l.body-index l.bodies))
