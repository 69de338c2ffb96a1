use Rattle.std.proofs.Common.{◌∙◌, ap, subst, sym}
use Rattle.std.proofs.lemmas.Bool.{ltb-true}
use Rattle.protobuf_parse_set_rules.specs.Sights.{publics_at}
use Rattle.protobuf_parse_set_rules.specs.Steps.{IsBelow}
use Rattle.protobuf_parse_set_rules.specs.Held.{lists_view}
use Rattle.protobuf_parse_set_rules.proofs.Ways.{listed, unlisted}
use Rattle.protobuf_parse_set_rules.proofs.sight.publics_at.Goals as goal

pub returns-in-Some-clause-below : goal.returns-in-Some-clause-below
returns-in-Some-clause-below c =
    let found = c.in-Some.ensures.lookup in
    subst (IsBelow c.args.position)
    (sym (c.deref-in-Some.ensures.value
    ∙ listed c.deref.result.now c.args.position c.in-Some.publics.now
    (ltb-true c.args.position _ (sym found.0)) found.1
    ∙ ap (λ ls. publics_at (lists_view ls) c.args.position) c.deref.ensures.value))
    (c.args.known.now.back c.args.position)

pub returns-in-None-clause-is : goal.returns-in-None-clause-is
returns-in-None-clause-is c =
    unlisted c.deref.result.now c.args.position c.in-None.ensures.lookup.3
    ∙ ap (λ ls. publics_at (lists_view ls) c.args.position) c.deref.ensures.value
