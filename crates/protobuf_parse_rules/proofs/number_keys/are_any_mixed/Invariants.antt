use Rattle.std.proofs.Common.{◌≡◌, false, map, take}
use Rattle.std.specs.List.{list_any}
use Rattle.protobuf_parse_rules.specs.Ascending.{is_mixed}
use Rattle.protobuf_parse_rules.specs.BodyViews.{body_view}
use Rattle.protobuf_parse_rules.proofs.number_keys.are_any_mixed.Given as goal

abbrev pub invariant-bodies : goal.invariant-bodies
invariant-bodies l = list_any is_mixed (map body_view (take l.body-index l.bodies)) ≡ false
