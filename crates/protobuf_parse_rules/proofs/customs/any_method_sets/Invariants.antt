use Rattle.std.proofs.Common.{◌≡◌, false, map, take}
use Rattle.std.specs.List.{list_any}
use Rattle.protobuf_parse_model.specs.Descriptors.{method_view}
use Rattle.protobuf_parse_rules.specs.Customs.{method_sets}
use Rattle.protobuf_parse_rules.proofs.customs.any_method_sets.Given as goal

abbrev pub invariant-methods : goal.invariant-methods
invariant-methods l = list_any method_sets (map method_view (take l.method-index l.methods)) ≡ false
