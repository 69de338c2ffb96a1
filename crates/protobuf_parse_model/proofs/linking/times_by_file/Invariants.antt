use Rattle.std.proofs.Common.{◌≡◌, ◌+◌, drop}
use Rattle.protobuf_parse_model.specs.TableParts.{times}
use Rattle.protobuf_parse_model.proofs.linking.times_by_file.Given as goal

abbrev pub invariant-loop-file : goal.invariant-loop-file
invariant-loop-file l =
    l.count + times l.extension (drop l.file-index l.seen.reach.now) l.declarations
    ≡ times l.extension l.seen.reach.now l.declarations
