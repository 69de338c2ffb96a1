use Rattle.std.proofs.Common.{◌≡◌, ◌++◌, List, flat_map, map, take}
use Rattle.protobuf_parse_model.specs.Descriptors.{method_view}
use Rattle.protobuf_parse_rules.specs.Bodies.{BodyParts}
use Rattle.protobuf_parse_rules.specs.KnownTables.{Knows}
use Rattle.protobuf_parse_rules.specs.Methods.{method_breaches}
use Rattle.protobuf_parse_rules.specs.Rules.{breaches_told}
use Rattle.protobuf_parse_rules.proofs.methods.check_each.Given as goal

abbrev pub invariant-methods : goal.invariant-methods
invariant-methods l = (all : List BodyParts) → Knows l.tables all →
    breaches_told l.told ≡ breaches_told l.fn.told
    ++ flat_map (method_breaches all l.file l.scope)
    (map method_view (take l.method-index l.methods))
