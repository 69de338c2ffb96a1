use Rattle.std.proofs.Common.{map, drop}
use Rattle.protobuf_parse_model.specs.Descriptors.{method_view}
use Rattle.protobuf_parse_locations.specs.Declarations.{items, method_at}
use Rattle.protobuf_parse_locations.proofs.Going.{Going}
use Rattle.protobuf_parse_locations.proofs.walk.add_methods.Given as goal

abbrev pub invariant-methods : goal.invariant-methods
invariant-methods l = Going l.fn.all.items l.all.items
    (items (method_at l.scope) l.path 2 l.index (map method_view (drop l.method-index l.methods)))
    (items (method_at l.scope) l.path 2 0 (map method_view l.methods))
