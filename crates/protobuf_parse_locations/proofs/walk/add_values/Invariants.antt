use Rattle.std.proofs.Common.{map, drop}
use Rattle.protobuf_parse_model.specs.Descriptors.{enum_value_view}
use Rattle.protobuf_parse_locations.specs.Declarations.{items, value_at}
use Rattle.protobuf_parse_locations.proofs.Going.{Going}
use Rattle.protobuf_parse_locations.proofs.walk.add_values.Given as goal

abbrev pub invariant-values : goal.invariant-values
invariant-values l = Going l.fn.all.items l.all.items
    (items (value_at l.scope) l.path 2 l.index (map enum_value_view (drop l.value-index l.values)))
    (items (value_at l.scope) l.path 2 0 (map enum_value_view l.values))
