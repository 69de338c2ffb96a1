use Rattle.protobuf_parse_expected.proofs.Telling.{told_next}
use Rattle.protobuf_parse_expected.proofs.verdict.verdicts.Goals as goal

pub loop-token-preserved : goal.loop-token-preserved
loop-token-preserved c = told_next _ _ c.loop-token.token-index _ _ _ _ c.loop-token-test.true
    c.loop-token.invariant c.in_ok-told_of.ensures c.in_ok-push.ensures.items
