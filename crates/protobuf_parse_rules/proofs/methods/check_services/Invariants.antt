use Rattle.std.proofs.Common.{◌≡◌, ◌++◌, List, flat_map, map, take}
use Rattle.protobuf_parse_model.specs.Descriptors.{service_view}
use Rattle.protobuf_parse_rules.specs.Bodies.{BodyParts}
use Rattle.protobuf_parse_rules.specs.BodyViews.{body_view}
use Rattle.protobuf_parse_rules.specs.KnownTables.{Knows}
use Rattle.protobuf_parse_rules.specs.Methods.{service_breaches}
use Rattle.protobuf_parse_rules.specs.Rules.{breaches_told}
use Rattle.protobuf_parse_rules.proofs.methods.check_services.Given as goal

abbrev pub invariant-services : goal.invariant-services
invariant-services l = (all : List BodyParts) → Knows l.tables all →
    breaches_told l.told ≡ breaches_told l.fn.told
    ++ flat_map (service_breaches all (body_view l.body).file (body_view l.body).scope)
    (map service_view (take l.service-index l.services))
