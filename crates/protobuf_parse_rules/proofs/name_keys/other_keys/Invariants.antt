-- The keys so far are those of the bodies so far.
use Rattle.std.proofs.Common.{◌≡◌, flat_map, map, take}
use Rattle.protobuf_parse_rules.specs.Keys.{other_keys}
use Rattle.protobuf_parse_rules.specs.BodyViews.{body_view}
use Rattle.protobuf_parse_rules.proofs.name_keys.other_keys.Given as goal

abbrev pub invariant-bodies : goal.invariant-bodies
invariant-bodies l = l.keys.items
    ≡ flat_map other_keys (map body_view (take l.body-index l.bodies))
