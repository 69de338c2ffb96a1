use Rattle.std.proofs.Common.{◌≡◌, false, map, take}
use Rattle.std.specs.List.{list_any}
use Rattle.protobuf_parse_model.specs.Descriptors.{enum_range_view}
use Rattle.protobuf_parse_rules.specs.Enums.{closed_overlaps_first}
use Rattle.protobuf_parse_rules.proofs.enum_bars.any_overlaps.Given as goal

abbrev pub invariant-reserved : goal.invariant-reserved
invariant-reserved l = list_any (closed_overlaps_first (record { start = l.start; end = l.end }))
    (map enum_range_view (take l.range-index l.ranges)) ≡ false
