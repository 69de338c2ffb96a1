use Rattle.std.proofs.Common.{map, take}
use Rattle.protobuf_parse_diagnostics.specs.Told.{clash_line}
use Rattle.protobuf_parse_diagnostics.specs.Telling.{Tells}
use Rattle.protobuf_parse_diagnostics.proofs.checks.tell_clashes.Given as goal

abbrev pub invariant-loop-clash : goal.invariant-loop-clash
invariant-loop-clash g l = Tells (map clash_line (take l.clash-index l.clashes))
    l.initial.told.items l.told.items
