use Rattle.std.proofs.Common.{map, string_bytes, ap}
use Rattle.protobuf_parse_rules.specs.Alike.{spelled_claim}
use Rattle.protobuf_parse_rules.specs.Held.{rules_of}
use Rattle.protobuf_parse_rules.specs.KnownNames.{spelled_view}
use Rattle.protobuf_parse_rules.proofs.Claiming.{claims_all, claims_step}
use Rattle.protobuf_parse_rules.proofs.Lists.{mapped_all, mapped_twice_more}
use Rattle.protobuf_parse_rules.proofs.alike.check_in_turn.Goals as goal

pub names-preserved : goal.names-preserved
names-preserved c =
    let claim = spelled_claim c.args.body.now.file.now (string_bytes c.args.body.now.scope) in
    claims_step (rules_of c.args.held) _ _ _ _ _ _ _ _ _ c.names.invariant
    c.in_ok-check_spelled.ensures
    (mapped_twice_more claim spelled_view c.args.names.now c.names.spelled-index
    c.spelled-item.result c.names-test.true c.spelled-item.is)

pub returns : goal.returns
returns c =
    let claim = spelled_claim c.args.body.now.file.now (string_bytes c.args.body.now.scope) in
    claims_all (rules_of c.args.held) c.new-holders.result c.names.holders c.args.told.now
    c.names.told _ _ c.names.invariant c.new-holders.ensures.empty
    (ap (map claim) (mapped_all spelled_view c.args.names.now c.names.spelled-index
    c.names-test.false))
