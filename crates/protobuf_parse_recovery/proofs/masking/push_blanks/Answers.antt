use Rattle.protobuf_parse_recovery.proofs.Blanks.{blanks-more}
use Rattle.protobuf_parse_recovery.proofs.masking.push_blanks.Goals as goal

pub loop-byte-preserved : goal.loop-byte-preserved
loop-byte-preserved c =
    blanks-more _ _ _ _ c.loop-byte.byte-index c.loop-byte-test.true c.loop-byte.invariant
    c.in_ok-push_blank.ensures
