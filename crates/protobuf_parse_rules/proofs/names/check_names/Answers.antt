use Rattle.std.proofs.Common.{List, [], map, subst, ap}
use Rattle.protobuf_parse_rules.specs.Claims.{Claim}
use Rattle.protobuf_parse_rules.specs.ClaimsKept.{Knows}
use Rattle.protobuf_parse_rules.specs.KnownNames.{named_view}
use Rattle.protobuf_parse_rules.specs.Names.{name_claim, name_rule}
use Rattle.protobuf_parse_rules.proofs.Claiming.{claims_all, claims_step, nothing_known}
use Rattle.protobuf_parse_rules.proofs.Lists.{mapped_all, mapped_twice_more}
use Rattle.protobuf_parse_rules.proofs.names.check_names.Goals as goal

pub names-preserved : goal.names-preserved
names-preserved c =
    claims_step name_rule _ _ _ _ _ _ _ _ _ c.names.invariant c.in_ok-check_name.ensures
    (mapped_twice_more name_claim named_view c.args.names.now c.names.named-index
    c.named-item.result c.names-test.true c.named-item.is)

pub returns : goal.returns
returns c =
    let all = ap (map name_claim) (mapped_all named_view c.args.names.now c.names.named-index
    c.names-test.false) in (
      subst (λ (cs : List Claim). Knows c.names.holders cs) all
          (c.names.invariant.at [] (nothing_known c.new-holders.result
          c.new-holders.ensures.empty)).0,
      claims_all name_rule c.new-holders.result c.names.holders c.args.told.now c.names.told _ _
          c.names.invariant c.new-holders.ensures.empty all,
    )
