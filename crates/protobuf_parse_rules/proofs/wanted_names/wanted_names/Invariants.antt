use Rattle.std.proofs.Common.{◌≡◌, flat_map, map, take}
use Rattle.protobuf_parse_rules.specs.BodyViews.{body_view}
use Rattle.protobuf_parse_rules.specs.KnownNames.{named_view}
use Rattle.protobuf_parse_rules.specs.Wanted.{names_wanted}
use Rattle.protobuf_parse_rules.proofs.wanted_names.wanted_names.Given as goal

abbrev pub invariant-bodies : goal.invariant-bodies
invariant-bodies l = map named_view l.names.items
    ≡ flat_map (names_wanted l.wanted.sorted.items) (map body_view (take l.body-index l.bodies))
