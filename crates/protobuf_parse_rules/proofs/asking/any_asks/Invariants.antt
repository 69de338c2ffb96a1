use Rattle.std.proofs.Common.{◌≡◌, false, map, take}
use Rattle.std.specs.List.{list_any}
use Rattle.protobuf_parse_rules.specs.Asking.{asks}
use Rattle.protobuf_parse_rules.specs.BodyViews.{body_view}
use Rattle.protobuf_parse_rules.proofs.asking.any_asks.Given as goal

abbrev pub invariant-bodies : goal.invariant-bodies
invariant-bodies l = list_any asks (map body_view (take l.body-index l.bodies)) ≡ false
