use Rattle.std.proofs.Common.{◌≡◌, false, map, take}
use Rattle.std.specs.List.{list_any}
use Rattle.protobuf_parse_model.specs.Descriptors.{oneof_view}
use Rattle.protobuf_parse_rules.specs.Customs.{oneof_sets}
use Rattle.protobuf_parse_rules.proofs.customs.any_oneof_sets.Given as goal

abbrev pub invariant-oneofs : goal.invariant-oneofs
invariant-oneofs l = list_any oneof_sets (map oneof_view (take l.oneof-index l.oneofs)) ≡ false
