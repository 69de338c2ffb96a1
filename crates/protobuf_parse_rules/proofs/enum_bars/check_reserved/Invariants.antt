use Rattle.std.proofs.Common.{◌≡◌, ◌++◌, flat_map, map, take, string_bytes}
use Rattle.protobuf_parse_model.specs.Descriptors.{enum_value_view, enum_view}
use Rattle.protobuf_parse_rules.specs.Enums.{value_breaches}
use Rattle.protobuf_parse_rules.specs.Rules.{breaches_told}
use Rattle.protobuf_parse_rules.proofs.enum_bars.check_reserved.Given as goal

abbrev pub invariant-values : goal.invariant-values
invariant-values l = breaches_told l.told ≡ breaches_told l.fn.told
    ++ flat_map (value_breaches l.body.file.now (string_bytes l.body.scope)
    (enum_view l.bars.each.now))
    (map enum_value_view (take l.value-index l.values))
