use Rattle.std.proofs.Common.{◌≡◌, false, map, take}
use Rattle.std.specs.List.{list_any}
use Rattle.protobuf_parse_model.specs.Descriptors.{enum_view}
use Rattle.protobuf_parse_rules.specs.Customs.{enum_sets}
use Rattle.protobuf_parse_rules.proofs.customs.any_enum_sets.Given as goal

abbrev pub invariant-enums : goal.invariant-enums
invariant-enums l = list_any enum_sets (map enum_view (take l.each-index l.enums)) ≡ false
