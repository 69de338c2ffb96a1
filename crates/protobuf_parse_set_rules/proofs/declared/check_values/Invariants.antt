use Rattle.std.proofs.Common.{◌≡◌, ◌++◌, flat_map, map, take}
use Rattle.protobuf_parse_model.specs.Descriptors.{enum_value_view}
use Rattle.protobuf_parse_set_rules.specs.Rules.{value_breaches}
use Rattle.protobuf_parse_set_rules.specs.Views.{told}
use Rattle.protobuf_parse_set_rules.proofs.declared.check_values.Given as goal

abbrev pub invariant-values : goal.invariant-values
invariant-values l = told l.found ≡ told l.fn.found
    ++ flat_map (value_breaches l.file l.scope)
    (map enum_value_view (take l.value-index l.values))
