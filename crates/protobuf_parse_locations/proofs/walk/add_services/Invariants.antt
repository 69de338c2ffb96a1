use Rattle.std.proofs.Common.{map, [], drop}
use Rattle.protobuf_parse_model.specs.Descriptors.{service_view}
use Rattle.protobuf_parse_locations.specs.Declarations.{items, service_at}
use Rattle.protobuf_parse_locations.proofs.Going.{Going}
use Rattle.protobuf_parse_locations.proofs.walk.add_services.Given as goal

abbrev pub invariant-services : goal.invariant-services
invariant-services l = Going l.fn.all.items l.all.items
    (items (service_at l.scope) [] 6 l.index (map service_view (drop l.service-index l.services)))
    (items (service_at l.scope) [] 6 0 (map service_view l.services))
