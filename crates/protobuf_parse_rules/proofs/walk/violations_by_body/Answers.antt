use Rattle.std.proofs.Common.{[], map, sym, ◌∙◌}
use Rattle.std.proofs.lemmas.Result.{IfOk-weaker}
use Rattle.protobuf_parse_rules.specs.BodyViews.{body_view}
use Rattle.protobuf_parse_rules.proofs.Alone.{told_alone}
use Rattle.protobuf_parse_rules.proofs.walk.violations_by_body.Goals as goal

pub returns-then-not-any_asks : goal.returns-then-not-any_asks
returns-then-not-any_asks c =
    let all = map body_view c.args.bodies.now in
    IfOk-weaker c.violations_alone.result _ _
    (λ v told. told
    ∙ told_alone all [] all (sym c.any_asks.ensures ∙ c.if-not-any_asks.true))
    c.violations_alone.ensures
