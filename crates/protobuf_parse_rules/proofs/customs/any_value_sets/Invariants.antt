use Rattle.std.proofs.Common.{◌≡◌, false, map, take}
use Rattle.std.specs.List.{list_any}
use Rattle.protobuf_parse_model.specs.Descriptors.{enum_value_view}
use Rattle.protobuf_parse_rules.specs.Customs.{value_sets}
use Rattle.protobuf_parse_rules.proofs.customs.any_value_sets.Given as goal

abbrev pub invariant-values : goal.invariant-values
invariant-values l = list_any value_sets (map enum_value_view (take l.value-index l.values)) ≡ false
