use Rattle.std.proofs.Common.{map, take}
use Rattle.protobuf_parse_model.specs.Descriptors.{enum_range_view}
use Rattle.protobuf_parse_rules.specs.Covers.{AreEnds}
use Rattle.protobuf_parse_rules.specs.Enums.{in_closed_range}
use Rattle.protobuf_parse_rules.proofs.enum_bars.closed_cover.Given as goal

abbrev pub invariant-reserved : goal.invariant-reserved
invariant-reserved l = AreEnds in_closed_range
    (map enum_range_view (take l.range-index l.ranges)) l.ends.firsts.items
    l.ends.lasts.items
