use Rattle.std.proofs.Common.{◌++◌, append-nil, sym, ap, ◌∙◌, Some, None}
use Rattle.std.specs.Prelude.{option_map}
use Rattle.std.proofs.lemmas.Result.{on_ok_weaker}
use Rattle.protobuf_parse_rules.specs.Claims.{Claim}
use Rattle.protobuf_parse_rules.specs.ClaimsKept.{holder_view, thing_view}
use Rattle.protobuf_parse_rules.specs.Findings.{site_of}
use Rattle.protobuf_parse_rules.specs.Held.{rules_of}
use Rattle.protobuf_parse_rules.specs.Rules.{breaches_told}
use Rattle.protobuf_parse_rules.proofs.Claiming.{claims_one, found_there, site_of_claim}
use Rattle.protobuf_parse_rules.proofs.claims.check_claim.Goals as goal

pub returns-in-Some : goal.returns-in-Some
returns-in-Some c =
    let claim : Claim = record { thing = thing_view c.args.thing; who = holder_view c.args.by } in
    on_ok_weaker c.tell.result
    (λ told. claims_one (rules_of c.args.held) c.args.holders.now c.holder_of.new.holders
    c.args.told.now c.tell.new.told claim (Some (holder_view c.in-Some.other))
    (λ before known. let both = c.in_ok-other.ensures before known in
    (both.0, sym (ap (option_map holder_view) c.in-Some.is) ∙ both.1))
    (told ∙ ap (λ bs. breaches_told c.args.told.now ++ bs)
    (found_there (site_of c.spot_of.result) (site_of_claim claim) _ _ c.spot_of.ensures
    c.taken-found.ensures)))
    c.tell.ensures

pub returns-in-None : goal.returns-in-None
returns-in-None c =
    let claim : Claim = record { thing = thing_view c.args.thing; who = holder_view c.args.by } in
    claims_one (rules_of c.args.held) c.args.holders.now c.holder_of.new.holders
    c.args.told.now c.args.told.now claim None
    (λ before known. let both = c.in_ok-other.ensures before known in
    (both.0, sym (ap (option_map holder_view) c.in-None.is) ∙ both.1))
    (sym (append-nil (breaches_told c.args.told.now)))
