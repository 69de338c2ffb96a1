use Rattle.std.proofs.Common.{map, drop}
use Rattle.protobuf_parse_model.specs.Descriptors.{field_view, oneof_view}
use Rattle.protobuf_parse_locations.specs.Declarations.{items, oneof_at, written}
use Rattle.protobuf_parse_locations.proofs.Going.{Going}
use Rattle.protobuf_parse_locations.proofs.walk.add_oneofs.Given as goal

abbrev pub invariant-oneofs : goal.invariant-oneofs
invariant-oneofs l = Going l.fn.all.items l.all.items
    (items (oneof_at l.scope) l.path 8 l.index
    (written (map field_view l.fields) l.at (map oneof_view (drop l.at l.oneofs))))
    (items (oneof_at l.scope) l.path 8 0
    (written (map field_view l.fields) 0 (map oneof_view l.oneofs)))
