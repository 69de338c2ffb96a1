-- Those of the files so far that aren't reached.
use Rattle.std.proofs.Common.{◌≡◌, take}
use Rattle.protobuf_parse_run.specs.Loading.{reaches_number}
use Rattle.protobuf_parse_run.specs.Repeats.{out_of_reach}
use Rattle.protobuf_parse_run.proofs.repeats.out_of_reach.Given as goal

abbrev pub invariant-loop-file : goal.invariant-loop-file
invariant-loop-file l =
    l.rest.items ≡ out_of_reach (reaches_number l.loaded.entries) l.path (take l.file-index l.files)
