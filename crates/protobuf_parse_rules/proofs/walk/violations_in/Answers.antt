use Rattle.std.proofs.Common.{[], ◌++◌, List, ℕ, map, take, sym, ap, ◌∙◌, subst}
use Rattle.protobuf_parse_rules.specs.Bodies.{BodyParts}
use Rattle.protobuf_parse_rules.specs.BodyViews.{body_view}
use Rattle.protobuf_parse_rules.specs.ClaimsKept.{Checks, breaches_wanted}
use Rattle.protobuf_parse_rules.specs.Rules.{violation_view}
use Rattle.protobuf_parse_rules.proofs.Claiming.{nothing_known}
use Rattle.protobuf_parse_rules.proofs.Lists.{mapped_all, mapped_one_more}
use Rattle.protobuf_parse_rules.proofs.Walking.{checks_more, checks_none}
use Rattle.protobuf_parse_rules.proofs.walk.violations_in.Goals as goal

pub bodies-init : goal.bodies-init
bodies-init c = λ all knows.
    checks_none c.args.wanted.now.sorted.items all c.new-numbers.result c.new-told.result

pub bodies-preserved : goal.bodies-preserved
bodies-preserved c = λ all knows.
    let keys : List ℕ = c.args.wanted.now.sorted.items in
    subst (λ (ps : List BodyParts). Checks keys all c.new-numbers.result c.check_body.new.numbers
    c.new-told.result c.check_body.new.told ps)
    (sym (mapped_one_more body_view c.args.bodies.now c.bodies.body-index c.body-item.result
    c.bodies-test.true c.body-item.is))
    (checks_more keys all _ _ _ _ _ _ _ _ (c.bodies.invariant all knows)
    (c.in_ok-check_body.ensures all knows))

pub returns : goal.returns
returns c = λ all knows.
    let keys : List ℕ = c.args.wanted.now.sorted.items in
    let whole = (c.bodies.invariant all knows).at []
    (nothing_known c.new-numbers.result c.new-numbers.ensures.empty) in
    whole.1
    ∙ ap (λ vs. map violation_view vs ++ breaches_wanted keys all []
    (map body_view (take c.bodies.body-index c.args.bodies.now))) c.new-told.ensures.items
    ∙ ap (breaches_wanted keys all []) (mapped_all body_view c.args.bodies.now
    c.bodies.body-index c.bodies-test.false)
