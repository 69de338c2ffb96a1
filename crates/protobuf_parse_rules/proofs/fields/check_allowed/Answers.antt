use Rattle.std.proofs.Common.{◌++◌, sym, ap, ◌∙◌, append-nil}
use Rattle.protobuf_parse_model.specs.Descriptors.{field_view}
use Rattle.protobuf_parse_rules.specs.BodyViews.{body_view, content_view}
use Rattle.protobuf_parse_rules.specs.Rules.{breaches_told}
use Rattle.protobuf_parse_rules.specs.Violations.{site_in}
use Rattle.protobuf_parse_rules.proofs.Allowing.{allowed_told}
use Rattle.protobuf_parse_rules.proofs.fields.check_allowed.Goals as goal

pub returns-then-has_allowed_number : goal.returns-then-has_allowed_number
returns-then-has_allowed_number c = λ all knows.
    let told = breaches_told c.args.told.now in
    let f = field_view c.args.field.now in
    sym (append-nil told)
    ∙ ap (λ bs. told ++ bs)
    (sym (allowed_told all (content_view c.args.bars.now.body.now.holds) f
    (site_in (body_view c.args.bars.now.body.now) f.name)
    (sym c.allows.ensures ∙ c.if-allows.true)
    (sym c.has_allowed_number.ensures ∙ c.if-has_allowed_number.true)))
