use Rattle.std.proofs.Common.{ap, string_bytes}
use Rattle.protobuf_parse_model.specs.Descriptors.{Text, field_view}
use Rattle.protobuf_parse_rules.specs.Numbers.{claim_of, number_rule}
use Rattle.protobuf_parse_rules.proofs.Claiming.{claims_alike, claims_step}
use Rattle.protobuf_parse_rules.proofs.Lists.{mapped_twice_more}
use Rattle.protobuf_parse_rules.proofs.numbers.check_fields.Goals as goal

pub fields-preserved : goal.fields-preserved
fields-preserved c =
    let file : Text = c.args.body.now.file.now in
    let scope : Text = string_bytes c.args.body.now.scope in
    let field = field_view c.field-item.result in
    claims_step number_rule _ _ _ _ _ _ _ _ _ c.fields.invariant
    (claims_alike number_rule _ _ _ _ (claim_of file scope c.as_str.result.now field)
    (claim_of file scope scope field) c.in_ok-check_number.ensures
    (ap (λ (m : Text). claim_of file scope m field) c.as_str.ensures.value))
    (mapped_twice_more (claim_of file scope scope) field_view c.args.fields.now
    c.fields.field-index c.field-item.result c.fields-test.true c.field-item.is)
