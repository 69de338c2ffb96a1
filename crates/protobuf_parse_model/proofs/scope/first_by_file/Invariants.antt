use Rattle.std.proofs.Common.{◌≡◌, drop}
use Rattle.protobuf_parse_model.specs.SeenFiles.{first_type}
use Rattle.protobuf_parse_model.proofs.scope.first_by_file.Given as goal

abbrev pub invariant-loop-file : goal.invariant-loop-file
invariant-loop-file l = first_type l.seen.sight.now l.declarations
    ≡ first_type (drop l.file-index l.seen.sight.now) l.declarations
