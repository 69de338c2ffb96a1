use Rattle.std.proofs.Common.{◌≡◌, map}
use Rattle.std.specs.Prelude.{None}
use Rattle.std.specs.BTreeMap.{get_by_text}
use Rattle.protobuf_parse_model.specs.Descriptors.{Text}
use Rattle.protobuf_parse_model.specs.DeclaredAtViews.{declared_at_view}
use Rattle.protobuf_parse_model.specs.LastDeclared.{last_place}
use Rattle.protobuf_parse_model.proofs.declared_at.last_places.Given as goal

abbrev pub invariant-loop-declared : goal.invariant-loop-declared
invariant-loop-declared l = (name : Text)
    → get_by_text l.places name
    ≡ last_place l.extension name None (map declared_at_view l.yielded)
