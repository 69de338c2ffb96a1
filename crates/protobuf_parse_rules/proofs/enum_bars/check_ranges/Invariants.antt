use Rattle.std.proofs.Common.{◌≡◌, ◌++◌, flat_map, map, take}
use Rattle.protobuf_parse_model.specs.Descriptors.{enum_range_view, enum_view}
use Rattle.protobuf_parse_rules.specs.Enums.{closed_range}
use Rattle.protobuf_parse_rules.specs.Findings.{site_of}
use Rattle.protobuf_parse_rules.specs.Rules.{breaches_told}
use Rattle.protobuf_parse_rules.proofs.enum_bars.check_ranges.Given as goal

abbrev pub invariant-reserved : goal.invariant-reserved
invariant-reserved l = breaches_told l.told ≡ breaches_told l.fn.told
    ++ flat_map (closed_range (site_of l.at) (enum_view l.bars.each.now).reserved_range)
    (map enum_range_view (take l.range-index l.ranges))
