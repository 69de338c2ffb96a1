use Rattle.std.proofs.Common.{List, flat_map, map, take}
use Rattle.protobuf_parse_model.specs.Descriptors.{field_view}
use Rattle.protobuf_parse_rules.specs.Imports.{field_types}
use Rattle.protobuf_parse_rules.specs.Known.{KnowsTypes}
use Rattle.protobuf_parse_rules.specs.KnownUses.{AddsNames}
use Rattle.protobuf_parse_rules.specs.Bodies.{BodyParts}
use Rattle.protobuf_parse_rules.proofs.links.add_fields.Given as goal

abbrev pub invariant-fields : goal.invariant-fields
invariant-fields l = (all : List BodyParts) → KnowsTypes l.types all →
    AddsNames all l.fn.links l.links l.from
    (flat_map field_types (map field_view (take l.field-index l.fields)))
