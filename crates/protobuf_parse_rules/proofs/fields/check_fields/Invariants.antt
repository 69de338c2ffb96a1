use Rattle.std.proofs.Common.{◌≡◌, ◌++◌, List, flat_map, map, take}
use Rattle.protobuf_parse_model.specs.Descriptors.{field_view}
use Rattle.protobuf_parse_rules.specs.KnownTables.{Knows}
use Rattle.protobuf_parse_rules.specs.Bodies.{BodyParts}
use Rattle.protobuf_parse_rules.specs.BodyViews.{body_view}
use Rattle.protobuf_parse_rules.specs.Rules.{breaches_told}
use Rattle.protobuf_parse_rules.specs.Violations.{field_breaches}
use Rattle.protobuf_parse_rules.proofs.fields.check_fields.Given as goal

abbrev pub invariant-fields : goal.invariant-fields
invariant-fields l = (all : List BodyParts) → Knows l.tables all →
    breaches_told l.told ≡ breaches_told l.fn.told
    ++ flat_map (field_breaches all (body_view l.bars.body.now))
    (map field_view (take l.field-index l.fields))
