use Rattle.std.proofs.Common.{◌≡◌, ◌++◌, flat_map, map, take, string_bytes}
use Rattle.protobuf_parse_model.specs.Descriptors.{service_view}
use Rattle.protobuf_parse_rules.specs.Rules.{breaches_told}
use Rattle.protobuf_parse_rules.specs.Runtimes.{lite_service}
use Rattle.protobuf_parse_rules.proofs.runtimes.check_each_service.Given as goal

abbrev pub invariant-services : goal.invariant-services
invariant-services l = breaches_told l.told ≡ breaches_told l.fn.told
    ++ flat_map (lite_service l.body.file.now (string_bytes l.body.scope))
    (map service_view (take l.service-index l.services))
