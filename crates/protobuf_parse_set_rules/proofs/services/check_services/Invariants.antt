use Rattle.std.proofs.Common.{◌≡◌, ◌++◌, flat_map, map, take}
use Rattle.protobuf_parse_model.specs.Descriptors.{service_view}
use Rattle.protobuf_parse_set_rules.specs.Rules.{service_breaches}
use Rattle.protobuf_parse_set_rules.specs.Held.{sight_view}
use Rattle.protobuf_parse_set_rules.specs.Views.{told}
use Rattle.protobuf_parse_set_rules.proofs.services.check_services.Given as goal

abbrev pub invariant-services : goal.invariant-services
invariant-services l = told l.found ≡ told l.fn.found
    ++ flat_map (service_breaches (sight_view l.sight) l.file l.scope)
    (map service_view (take l.service-index l.services))
