use Rattle.std.proofs.lemmas.Result.{on_ok_weaker}
use Rattle.protobuf_parse_rules.specs.BodyViews.{body_view}
use Rattle.protobuf_parse_rules.proofs.Walking.{checks_one}
use Rattle.protobuf_parse_rules.proofs.walk.check_body.Goals as goal

pub returns : goal.returns
returns c = on_ok_weaker c.check_inside.result
    (λ inside all knows. checks_one c.args.wanted.now.sorted.items all _ _ _ _ _ (body_view c.args.body.now)
    c.in_ok-check_numbers.ensures (inside all knows))
    c.check_inside.ensures
