use Rattle.std.proofs.Common.{arith}
use Rattle.protobuf_parse_wire.proofs.Appending.{high_bit}
use Rattle.protobuf_parse_wire.proofs.Written.{ended, more}
use Rattle.protobuf_parse_option_paths.proofs.bytes.put_varint.Goals as goal

pub groups-preserved : goal.groups-preserved
groups-preserved c = rw c.in_ok-push.ensures.items
    (more c.args.number c.groups.rest _ c.args.out.now.items c.groups.out.items (omega arith)
    (high_bit c.groups.rest) c.groups.invariant)

pub returns : goal.returns
returns c = rw c.in_ok-push-2.ensures.items
    (ended c.args.number c.groups.rest _ c.args.out.now.items c.groups.out.items (omega arith)
    (omega arith) c.groups.invariant)
