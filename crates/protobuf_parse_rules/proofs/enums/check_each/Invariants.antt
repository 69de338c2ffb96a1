use Rattle.std.proofs.Common.{map, take, string_bytes}
use Rattle.protobuf_parse_model.specs.Descriptors.{enum_value_view}
use Rattle.protobuf_parse_rules.specs.ClaimsKept.{Claims}
use Rattle.protobuf_parse_rules.specs.Enums.{value_claim, value_rule}
use Rattle.protobuf_parse_rules.proofs.enums.check_each.Given as goal

abbrev pub invariant-values : goal.invariant-values
invariant-values l = Claims value_rule l.initial.numbers l.numbers l.fn.told l.told
    (map (value_claim l.body.file.now (string_bytes l.body.scope))
    (map enum_value_view (take l.value-index l.values)))
