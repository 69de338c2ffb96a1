use Rattle.std.proofs.Common.{◌++◌, sym, ap, ◌∙◌, append-nil}
use Rattle.protobuf_parse_model.specs.Descriptors.{field_view}
use Rattle.protobuf_parse_rules.specs.BodyViews.{body_view}
use Rattle.protobuf_parse_rules.specs.Rules.{breaches_told}
use Rattle.protobuf_parse_rules.specs.Violations.{site_in}
use Rattle.protobuf_parse_rules.proofs.Allowing.{common_told}
use Rattle.protobuf_parse_rules.proofs.fields.check_less_ordinary.Goals as goal

pub returns-then-is_common : goal.returns-then-is_common
returns-then-is_common c = λ all knows.
    let told = breaches_told c.args.told.now in
    let f = field_view c.args.field.now in
    sym (append-nil told)
    ∙ ap (λ bs. told ++ bs)
    (sym (common_told all f c.args.body.now.proto3 (site_in (body_view c.args.body.now) f.name)
    (sym c.is_common.ensures ∙ c.if-is_common.true)))
