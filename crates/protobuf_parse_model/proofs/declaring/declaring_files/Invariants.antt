use Rattle.std.proofs.Common.{◌≡◌, filter, take}
use Rattle.protobuf_parse_model.proofs.DeclaringFiles.{is_there}
use Rattle.protobuf_parse_model.proofs.declaring.declaring_files.Given as goal

abbrev pub invariant-loop-file : goal.invariant-loop-file
invariant-loop-file l = l.numbers.items
    ≡ filter (is_there l.extension l.seen.declarations.now l.name)
    (take l.file-index l.seen.reach.now)
