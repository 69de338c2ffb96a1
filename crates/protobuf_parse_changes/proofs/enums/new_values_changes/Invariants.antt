use Rattle.std.proofs.Common.{◌≡◌, ◌++◌, flat_map, map, take}
use Rattle.protobuf_parse_model.specs.Descriptors.{enum_value_view, enum_view}
use Rattle.protobuf_parse_changes.specs.Enums.{new_value_changes}
use Rattle.protobuf_parse_changes.specs.Views.{place_view, told}
use Rattle.protobuf_parse_changes.proofs.enums.new_values_changes.Given as goal

abbrev pub invariant-values : goal.invariant-values
invariant-values l = told l.changes ≡ told l.fn.changes
    ++ flat_map (new_value_changes (place_view l.of) (enum_view l.old))
    (map enum_value_view (take l.value-index l.values))
