use Rattle.std.proofs.Common.{List, flat_map, map, take}
use Rattle.protobuf_parse_model.specs.Descriptors.{method_view}
use Rattle.protobuf_parse_rules.specs.Imports.{method_types}
use Rattle.protobuf_parse_rules.specs.Known.{KnowsTypes}
use Rattle.protobuf_parse_rules.specs.KnownUses.{AddsNames}
use Rattle.protobuf_parse_rules.specs.Bodies.{BodyParts}
use Rattle.protobuf_parse_rules.proofs.links.add_methods.Given as goal

abbrev pub invariant-methods : goal.invariant-methods
invariant-methods l = (all : List BodyParts) → KnowsTypes l.types all →
    AddsNames all l.fn.links l.links l.from
    (flat_map method_types (map method_view (take l.method-index l.methods)))
