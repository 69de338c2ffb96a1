use Rattle.std.proofs.Common.{sym, append-nil}
use Rattle.protobuf_parse_base.proofs.JoinedParts.{appended-part, appended-parts}
use Rattle.protobuf_parse_base.proofs.proto_path.parts.put_next_parts.Goals as goal

pub loop-part-init : goal.loop-part-init
loop-part-init c = sym (append-nil _)

pub loop-part-preserved : goal.loop-part-preserved
loop-part-preserved c =
    appended-part _ _ _ _ _ _ c.loop-part-test.true c.loop-part.invariant
    c.in_ok-put_next_part.ensures

pub returns : goal.returns
returns c =
    appended-parts _ _ _ _ c.loop-part-test.false c.loop-part.invariant
