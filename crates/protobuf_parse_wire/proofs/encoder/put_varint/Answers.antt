use Rattle.std.proofs.Common.{arith, refl}
use Rattle.protobuf_parse_wire.proofs.Appending.{high_bit}
use Rattle.protobuf_parse_wire.proofs.Written.{begins_behind, begins_more, begins_self, ended}
use Rattle.protobuf_parse_wire.proofs.Written.{more}
use Rattle.protobuf_parse_wire.proofs.encoder.put_varint.Goals as goal

pub groups-init : goal.groups-init
groups-init c = record { completes = refl; begins = begins_self c.args.out.now.items }

pub groups-preserved : goal.groups-preserved
groups-preserved c = record {
  completes = rw c.in_ok-push.ensures.items
      (more c.args.number c.groups.rest _ c.args.out.now.items c.groups.out.items (omega arith)
      (high_bit c.groups.rest) c.groups.invariant.completes);
  begins = begins_more c.args.out.now.items c.groups.out.items _ c.groups.invariant.begins
      (begins_behind c.groups.out.items _ _ c.in_ok-push.ensures.items);
}

pub returns-clause-ok : goal.returns-clause-ok
returns-clause-ok c = rw c.in_ok-push-2.ensures.items
    (ended c.args.number c.groups.rest _ c.args.out.now.items c.groups.out.items (omega arith)
    (omega arith) c.groups.invariant.completes)
