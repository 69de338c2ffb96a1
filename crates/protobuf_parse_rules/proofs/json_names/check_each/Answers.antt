use Rattle.std.proofs.Common.{map, string_bytes, ap}
use Rattle.protobuf_parse_model.specs.Descriptors.{field_view}
use Rattle.protobuf_parse_rules.specs.JsonNames.{json_claim, json_rule}
use Rattle.protobuf_parse_rules.proofs.Claiming.{claims_all, claims_step}
use Rattle.protobuf_parse_rules.proofs.Lists.{mapped_all, mapped_twice_more}
use Rattle.protobuf_parse_rules.proofs.json_names.check_each.Goals as goal

pub fields-preserved : goal.fields-preserved
fields-preserved c =
    let claim = json_claim c.args.body.now.file.now (string_bytes c.args.body.now.scope) in
    let fields = c.args.fields.now in
    let i = c.fields.field-index in
    claims_step (json_rule c.args.body.now.proto3) _ _ _ _ _ _ _ _ _ c.fields.invariant
    c.in_ok-check_json_name.ensures
    (mapped_twice_more claim field_view fields i c.field-item.result c.fields-test.true
    c.field-item.is)

pub returns : goal.returns
returns c =
    let claim = json_claim c.args.body.now.file.now (string_bytes c.args.body.now.scope) in
    claims_all (json_rule c.args.body.now.proto3) c.new-names.result c.fields.names c.args.told.now
    c.fields.told _ _ c.fields.invariant c.new-names.ensures.empty
    (ap (map claim) (mapped_all field_view c.args.fields.now c.fields.field-index
    c.fields-test.false))
