use Rattle.std.proofs.Common.{◌≡◌, ◌++◌, flat_map, map, take}
use Rattle.protobuf_parse_model.specs.Descriptors.{reserved_range_view}
use Rattle.protobuf_parse_rules.specs.BodyViews.{body_view, content_view}
use Rattle.protobuf_parse_rules.specs.Ranges.{ranges_of, reserved_range}
use Rattle.protobuf_parse_rules.specs.Rules.{breaches_told}
use Rattle.protobuf_parse_rules.specs.Violations.{site_of_body}
use Rattle.protobuf_parse_rules.proofs.ranges.check_reserved_ranges.Given as goal

abbrev pub invariant-reserved : goal.invariant-reserved
invariant-reserved l = breaches_told l.told ≡ breaches_told l.fn.told
    ++ flat_map (reserved_range (site_of_body (body_view l.bars.body.now))
    (ranges_of (content_view l.bars.body.now.holds)))
    (map reserved_range_view (take l.range-index l.ranges))
