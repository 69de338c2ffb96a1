use Rattle.std.proofs.Common.{map, string_bytes, ap}
use Rattle.protobuf_parse_rules.specs.Findings.{site_of}
use Rattle.protobuf_parse_rules.specs.Repeats.{repeat_claim, repeat_rule}
use Rattle.protobuf_parse_rules.proofs.Claiming.{claims_all, claims_step}
use Rattle.protobuf_parse_rules.proofs.Lists.{mapped_all, mapped_twice_more}
use Rattle.protobuf_parse_rules.proofs.repeats.check_each.Goals as goal

pub texts-preserved : goal.texts-preserved
texts-preserved c =
    claims_step (repeat_rule c.args.rule) _ _ _ _ _ _ _ _ _ c.texts.invariant
    c.in_ok-check_repeat.ensures
    (mapped_twice_more (repeat_claim (site_of c.args.at)) string_bytes c.args.texts.now
    c.texts.text-index c.text-item.result c.texts-test.true c.text-item.is)

pub returns : goal.returns
returns c =
    claims_all (repeat_rule c.args.rule) c.new-seen.result c.texts.seen c.args.told.now
    c.texts.told _ _ c.texts.invariant c.new-seen.ensures.empty
    (ap (map (repeat_claim (site_of c.args.at))) (mapped_all string_bytes c.args.texts.now
    c.texts.text-index c.texts-test.false))
