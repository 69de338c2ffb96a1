use Rattle.std.proofs.Common.{◌≡◌, false, map, take}
use Rattle.std.specs.List.{list_any}
use Rattle.protobuf_parse_model.specs.Descriptors.{extension_range_view}
use Rattle.protobuf_parse_rules.specs.Ranges.{overlaps_first}
use Rattle.protobuf_parse_rules.proofs.ranges.any_kept_overlaps.Given as goal

abbrev pub invariant-kept : goal.invariant-kept
invariant-kept l = list_any (overlaps_first (record { start = l.start; end = l.end }))
    (map extension_range_view (take l.range-index l.ranges)) ≡ false
