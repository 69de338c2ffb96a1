use Rattle.std.proofs.Common.{◌≡◌, map}
use Rattle.std.specs.Prelude.{None}
use Rattle.protobuf_parse_model.specs.DeclaredAtViews.{declared_at_view}
use Rattle.protobuf_parse_model.specs.LastDeclared.{last_place}
use Rattle.protobuf_parse_model.proofs.declared_at.last_declared.Given as goal

abbrev pub invariant-loop-declared : goal.invariant-loop-declared
invariant-loop-declared l =
    l.found ≡ last_place l.extension l.name None (map declared_at_view l.yielded)
