use Rattle.std.proofs.Common.{map, take}
use Rattle.protobuf_parse_diagnostics.specs.Later.{fault_line}
use Rattle.protobuf_parse_diagnostics.specs.Telling.{Tells}
use Rattle.protobuf_parse_diagnostics.proofs.later.tell_faults.Given as goal

abbrev pub invariant-loop-fault : goal.invariant-loop-fault
invariant-loop-fault l = Tells (map (fault_line l.origin) (take l.fault-index l.faults))
    l.initial.told.items l.told.items
