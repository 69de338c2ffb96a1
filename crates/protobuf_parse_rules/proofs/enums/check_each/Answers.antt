use Rattle.std.proofs.Common.{map, string_bytes, ap}
use Rattle.protobuf_parse_model.specs.Descriptors.{enum_value_view}
use Rattle.protobuf_parse_rules.specs.Enums.{value_claim, value_rule}
use Rattle.protobuf_parse_rules.proofs.Claiming.{claims_all, claims_step}
use Rattle.protobuf_parse_rules.proofs.Lists.{mapped_all, mapped_twice_more}
use Rattle.protobuf_parse_rules.proofs.enums.check_each.Goals as goal

pub values-preserved : goal.values-preserved
values-preserved c =
    let claim = value_claim c.args.body.now.file.now (string_bytes c.args.body.now.scope) in
    let values = c.args.values.now in
    let i = c.values.value-index in
    claims_step value_rule _ _ _ _ _ _ _ _ _ c.values.invariant c.in_ok-check_value.ensures
    (mapped_twice_more claim enum_value_view values i c.value-item.result c.values-test.true
    c.value-item.is)

pub returns : goal.returns
returns c =
    let claim = value_claim c.args.body.now.file.now (string_bytes c.args.body.now.scope) in
    claims_all value_rule c.new-numbers.result c.values.numbers c.args.told.now c.values.told
    _ _ c.values.invariant c.new-numbers.ensures.empty
    (ap (map claim) (mapped_all enum_value_view c.args.values.now c.values.value-index
    c.values-test.false))
