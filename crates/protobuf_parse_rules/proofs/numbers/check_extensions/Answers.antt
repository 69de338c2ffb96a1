use Rattle.std.proofs.Common.{List, map, sym, subst, string_bytes, take}
use Rattle.protobuf_parse_model.specs.Descriptors.{Text, field_view}
use Rattle.protobuf_parse_rules.specs.Claims.{Claim}
use Rattle.protobuf_parse_rules.specs.ClaimsKept.{Claims}
use Rattle.protobuf_parse_rules.specs.Numbers.{extension_claim, extension_claims, number_rule}
use Rattle.protobuf_parse_rules.proofs.Claiming.{claims_more}
use Rattle.protobuf_parse_rules.proofs.Lists.{joined_one_more}
use Rattle.protobuf_parse_rules.proofs.numbers.check_extensions.Goals as goal

pub extensions-preserved : goal.extensions-preserved
extensions-preserved c =
    let scope : Text = string_bytes c.args.body.now.scope in
    let file : Text = c.args.body.now.file.now in
    let extensions = c.args.extensions.now in
    let i = c.extensions.extension-index in
    subst (λ (cs : List Claim). Claims number_rule c.args.numbers.now c.check_extension.new.numbers
    c.args.told.now c.check_extension.new.told cs)
    (sym (joined_one_more (extension_claim file scope) field_view extensions i
    c.extension-item.result c.extensions-test.true c.extension-item.is))
    (claims_more number_rule _ _ _ _ _ _
    (extension_claims file scope (map field_view (take i extensions))) _ c.extensions.invariant
    c.in_ok-check_extension.ensures)
