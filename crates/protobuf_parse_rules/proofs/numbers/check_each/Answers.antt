use Rattle.std.proofs.Common.{List, ◌++◌, ap, subst, ◌∙◌, map, string_bytes}
use Rattle.std.proofs.lemmas.Result.{on_ok_weaker}
use Rattle.protobuf_parse_model.specs.Descriptors.{Text, FieldDescriptor, field_view}
use Rattle.protobuf_parse_rules.specs.Claims.{Claim}
use Rattle.protobuf_parse_rules.specs.ClaimsKept.{Claims}
use Rattle.protobuf_parse_rules.specs.Numbers.{extension_claims, field_claims, number_rule}
use Rattle.protobuf_parse_rules.specs.Bodies.{fields_of}
use Rattle.protobuf_parse_rules.specs.BodyViews.{body_view}
use Rattle.protobuf_parse_rules.proofs.Claiming.{claims_more}
use Rattle.protobuf_parse_rules.proofs.numbers.check_each.Goals as goal

pub returns : goal.returns
returns c =
    let file : Text = c.args.body.now.file.now in
    let scope : Text = string_bytes c.args.body.now.scope in
    let content = (body_view c.args.body.now).content in
    let extensions = map field_view c.extensions.result.now in
    on_ok_weaker c.check_extensions.result
    (λ second. subst (λ (cs : List Claim). Claims number_rule c.args.numbers.now
    c.check_extensions.new.numbers c.args.told.now c.check_extensions.new.told cs)
    (ap (λ (fs : List FieldDescriptor). field_claims file scope fs
    ++ extension_claims file scope extensions) c.fields.ensures
    ∙ ap (λ (es : List FieldDescriptor). field_claims file scope (fields_of content)
    ++ extension_claims file scope es) c.extensions.ensures)
    (claims_more number_rule _ _ _ _ _ _ _ _ c.in_ok-check_fields.ensures second))
    c.check_extensions.ensures
