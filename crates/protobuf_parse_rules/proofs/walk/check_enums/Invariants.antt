use Rattle.std.proofs.Common.{◌≡◌, ◌++◌, flat_map, map, take}
use Rattle.protobuf_parse_model.specs.Descriptors.{enum_view}
use Rattle.protobuf_parse_rules.specs.BodyViews.{body_view}
use Rattle.protobuf_parse_rules.specs.Rules.{breaches_told}
use Rattle.protobuf_parse_rules.specs.Enums.{enum_breaches}
use Rattle.protobuf_parse_rules.proofs.walk.check_enums.Given as goal

abbrev pub invariant-enums : goal.invariant-enums
invariant-enums l = breaches_told l.told ≡ breaches_told l.fn.told
    ++ flat_map (enum_breaches (body_view l.body)) (map enum_view (take l.each-index l.enums))
