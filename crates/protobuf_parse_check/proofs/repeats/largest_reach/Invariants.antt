use Rattle.protobuf_parse_check.specs.Judging.{IsBelow}
use Rattle.protobuf_parse_check.proofs.repeats.largest_reach.Given as goal

abbrev pub invariant-loop-number : goal.invariant-loop-number
invariant-loop-number l = IsBelow l.loaded.entries l.reach l.largest
