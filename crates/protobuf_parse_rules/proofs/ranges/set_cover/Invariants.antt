use Rattle.std.proofs.Common.{map, take}
use Rattle.protobuf_parse_model.specs.Descriptors.{extension_range_view}
use Rattle.protobuf_parse_rules.specs.Covers.{AreEnds}
use Rattle.protobuf_parse_rules.specs.Ranges.{in_range, range_of_set}
use Rattle.protobuf_parse_rules.proofs.ranges.set_cover.Given as goal

abbrev pub invariant-kept : goal.invariant-kept
invariant-kept l = AreEnds in_range
    (map range_of_set (map extension_range_view (take l.range-index l.ranges)))
    l.ends.firsts.items l.ends.lasts.items
