use Rattle.std.proofs.Common.{map, drop}
use Rattle.protobuf_parse_model.specs.Descriptors.{enum_view}
use Rattle.protobuf_parse_locations.specs.Declarations.{items, enum_at}
use Rattle.protobuf_parse_locations.proofs.Going.{Going}
use Rattle.protobuf_parse_locations.proofs.walk.add_enums.Given as goal

abbrev pub invariant-enums : goal.invariant-enums
invariant-enums l = Going l.fn.all.items l.all.items
    (items (enum_at l.scope) l.path l.list l.index (map enum_view (drop l.each-index l.enums)))
    (items (enum_at l.scope) l.path l.list 0 (map enum_view l.enums))
