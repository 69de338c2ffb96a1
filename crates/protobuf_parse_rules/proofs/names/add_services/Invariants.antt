use Rattle.std.proofs.Common.{◌≡◌, ◌++◌, flat_map, map, take}
use Rattle.protobuf_parse_model.specs.Descriptors.{service_view}
use Rattle.protobuf_parse_rules.specs.KnownNames.{named_view}
use Rattle.protobuf_parse_rules.specs.Names.{service_named}
use Rattle.protobuf_parse_rules.proofs.names.add_services.Given as goal

abbrev pub invariant-services : goal.invariant-services
invariant-services l = map named_view l.names.items ≡ map named_view l.fn.names.items
    ++ flat_map (service_named l.file l.scope) (map service_view (take l.service-index l.services))
