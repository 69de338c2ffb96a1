use Rattle.std.proofs.Common.{List, flat_map, map, take}
use Rattle.protobuf_parse_model.specs.Descriptors.{service_view}
use Rattle.protobuf_parse_rules.specs.Imports.{service_types}
use Rattle.protobuf_parse_rules.specs.Known.{KnowsTypes}
use Rattle.protobuf_parse_rules.specs.KnownUses.{AddsNames}
use Rattle.protobuf_parse_rules.specs.Bodies.{BodyParts}
use Rattle.protobuf_parse_rules.proofs.links.add_services.Given as goal

abbrev pub invariant-services : goal.invariant-services
invariant-services l = (all : List BodyParts) → KnowsTypes l.types all →
    AddsNames all l.fn.links l.links l.from
    (flat_map service_types (map service_view (take l.service-index l.services)))
