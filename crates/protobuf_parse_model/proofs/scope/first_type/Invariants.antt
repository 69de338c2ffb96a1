use Rattle.std.proofs.Common.{◌≡◌, drop}
use Rattle.protobuf_parse_model.specs.SeenFiles.{first_type}
use Rattle.protobuf_parse_model.proofs.scope.first_type.Given as goal

abbrev pub invariant-loop-declaration : goal.invariant-loop-declaration
invariant-loop-declaration l = first_type l.seen.sight.now l.declarations
    ≡ first_type l.seen.sight.now (drop l.declaration-index l.declarations)
