-- The keys so far are those of the names so far.
use Rattle.std.proofs.Common.{◌≡◌, ◌++◌, flat_map, map, take}
use Rattle.protobuf_parse_model.specs.Descriptors.{service_view}
use Rattle.protobuf_parse_rules.specs.Keys.{service_keys}
use Rattle.protobuf_parse_rules.proofs.name_keys.add_services.Given as goal

abbrev pub invariant-services : goal.invariant-services
invariant-services l = l.keys.items
    ≡ l.fn.keys.items
    ++ flat_map (service_keys l.inside) (map service_view (take l.service-index l.services))
