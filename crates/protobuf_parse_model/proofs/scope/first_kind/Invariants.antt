use Rattle.std.proofs.Common.{◌≡◌, drop}
use Rattle.protobuf_parse_model.specs.SeenParts.{first_kind}
use Rattle.protobuf_parse_model.proofs.scope.first_kind.Given as goal

abbrev pub invariant-loop-declaration : goal.invariant-loop-declaration
invariant-loop-declaration l = first_kind l.declarations
    ≡ first_kind (drop l.declaration-index l.declarations)
