use Rattle.std.proofs.Common.{◌≡◌, map}
use Rattle.protobuf_parse_model.specs.Faults.{fault_view, found}
use Rattle.protobuf_parse_check.specs.Judging.{shown_by}
use Rattle.protobuf_parse_check.proofs.verdict.shown.Given as goal

abbrev pub invariant-loop-fault : goal.invariant-loop-fault
invariant-loop-fault l = found l.rest
    ≡ shown_by l.misses (map fault_view l.repeats) (map fault_view l.yielded)
