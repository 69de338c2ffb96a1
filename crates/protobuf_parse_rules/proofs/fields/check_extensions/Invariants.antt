use Rattle.std.proofs.Common.{◌≡◌, ◌++◌, List, flat_map, map, take}
use Rattle.protobuf_parse_model.specs.Descriptors.{field_view}
use Rattle.protobuf_parse_rules.specs.KnownTables.{Knows}
use Rattle.protobuf_parse_rules.specs.Bodies.{BodyParts}
use Rattle.protobuf_parse_rules.specs.BodyViews.{body_view}
use Rattle.protobuf_parse_rules.specs.Rules.{breaches_told}
use Rattle.protobuf_parse_rules.specs.Violations.{extension_breaches}
use Rattle.protobuf_parse_rules.proofs.fields.check_extensions.Given as goal

abbrev pub invariant-extensions : goal.invariant-extensions
invariant-extensions l = (all : List BodyParts) → Knows l.tables all →
    breaches_told l.told ≡ breaches_told l.fn.told
    ++ flat_map (extension_breaches all (body_view l.body))
    (map field_view (take l.extension-index l.extensions))
