use Rattle.std.proofs.Common.{◌≡◌, drop}
use Rattle.protobuf_parse_check.specs.Judging.{any_of}
use Rattle.protobuf_parse_check.proofs.repeats.are_reached.Given as goal

abbrev pub invariant-loop-file : goal.invariant-loop-file
invariant-loop-file l = any_of (drop l.file-index l.files) l.seen.reach.now
    ≡ any_of l.files l.seen.reach.now
