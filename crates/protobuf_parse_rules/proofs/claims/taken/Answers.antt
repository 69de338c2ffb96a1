use Rattle.std.proofs.Common.{sym, ap, ◌∙◌}
use Rattle.protobuf_parse_rules.specs.Claims.{Claim}
use Rattle.protobuf_parse_rules.specs.ClaimsKept.{holder_view, thing_view}
use Rattle.protobuf_parse_rules.specs.Held.{rules_of}
use Rattle.protobuf_parse_rules.specs.declared.claims.Held.{Held}
use Rattle.protobuf_parse_rules.proofs.claims.taken.Goals as goal

pub returns-in-Name : goal.returns-in-Name
returns-in-Name c =
    let claim : Claim = record { thing = thing_view c.args.thing; who = holder_view c.args.by } in
    c.name_taken.ensures claim.thing
    ∙ ap (λ (h : Held). rules_of h claim (holder_view c.args.first)) (sym c.in-Name.is)

pub returns-in-ValueAlike : goal.returns-in-ValueAlike
returns-in-ValueAlike c =
    let claim : Claim = record { thing = thing_view c.args.thing; who = holder_view c.args.by } in
    c.value_alike.ensures claim.thing
    ∙ ap (λ (h : Held). rules_of h claim (holder_view c.args.first)) (sym c.in-ValueAlike.is)
