use Rattle.std.proofs.Common.{map}
use Rattle.protobuf_parse_model.specs.DeclaredAtViews.{declared_at_view}
use Rattle.protobuf_parse_model.proofs.Tables.{Adds}
use Rattle.protobuf_parse_model.proofs.scope.seen.Declarations.add.Given as goal

abbrev pub invariant-loop-declared : goal.invariant-loop-declared
invariant-loop-declared l =
    Adds l.fn.self l.self l.file (map declared_at_view l.yielded)
