use Rattle.std.proofs.Common.{◌≡◌, false, map, take}
use Rattle.std.specs.List.{list_any}
use Rattle.protobuf_parse_model.specs.Descriptors.{service_view}
use Rattle.protobuf_parse_rules.specs.Customs.{service_sets}
use Rattle.protobuf_parse_rules.proofs.customs.any_service_sets.Given as goal

abbrev pub invariant-services : goal.invariant-services
invariant-services l =
    list_any service_sets (map service_view (take l.service-index l.services)) ≡ false
