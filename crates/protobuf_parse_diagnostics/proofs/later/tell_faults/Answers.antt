use Rattle.protobuf_parse_diagnostics.specs.Later.{fault_line}
use Rattle.protobuf_parse_diagnostics.proofs.Adding.{tells_another}
use Rattle.protobuf_parse_diagnostics.proofs.Laters.{same_there}
use Rattle.protobuf_parse_diagnostics.proofs.later.tell_faults.Goals as goal

pub loop-fault-preserved : goal.loop-fault-preserved
loop-fault-preserved c =
    tells_another (fault_line c.args.origin.now) c.args.faults.now c.loop-fault.fault-index _
    c.args.told.now.items c.loop-fault.told.items c.push.new.self.items
    c.in_ok-diagnostic_of.field-0 c.loop-fault-test.true
    (same_there _ _ _ _ c.loop-fault-test.true) c.loop-fault.invariant
    c.in_ok-diagnostic_of.ensures c.in_ok-push.ensures.items
