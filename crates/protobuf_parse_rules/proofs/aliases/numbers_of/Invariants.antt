use Rattle.std.proofs.Common.{map, take}
use Rattle.protobuf_parse_model.specs.Descriptors.{enum_value_view}
use Rattle.protobuf_parse_rules.specs.Covers.{AreEnds, point_of}
use Rattle.protobuf_parse_rules.specs.Enums.{in_closed_range}
use Rattle.protobuf_parse_rules.proofs.aliases.numbers_of.Given as goal

abbrev pub invariant-values : goal.invariant-values
invariant-values l = AreEnds in_closed_range
    (map point_of (map enum_value_view (take l.value-index l.values))) l.ends.firsts.items
    l.ends.lasts.items
