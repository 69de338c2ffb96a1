use Rattle.std.proofs.Common.{arith}
use Rattle.protobuf_parse_descriptor_set.proofs.Lengths.{short_length}
use Rattle.protobuf_parse_descriptor_set.proofs.parts.end_message.Goals as goal

pub returns-then-count-lt128 : goal.returns-then-count-lt128
returns-then-count-lt128 c = short_length _ _ _ c.requires
    (omega (arith, c.len.ensures, c.args.out.now.ok.0)) c.if-count-lt128.true
