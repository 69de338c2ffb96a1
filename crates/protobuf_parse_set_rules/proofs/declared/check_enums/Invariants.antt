use Rattle.std.proofs.Common.{◌≡◌, ◌++◌, flat_map, map, take}
use Rattle.protobuf_parse_model.specs.Descriptors.{enum_view}
use Rattle.protobuf_parse_set_rules.specs.Rules.{enum_breaches}
use Rattle.protobuf_parse_set_rules.specs.Views.{told}
use Rattle.protobuf_parse_set_rules.proofs.declared.check_enums.Given as goal

abbrev pub invariant-enums : goal.invariant-enums
invariant-enums l = told l.found ≡ told l.fn.found
    ++ flat_map (enum_breaches l.file l.scope)
    (map enum_view (take l.each-index l.enums))
