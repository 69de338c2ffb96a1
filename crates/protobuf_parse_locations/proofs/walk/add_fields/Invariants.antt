use Rattle.std.proofs.Common.{map, drop}
use Rattle.protobuf_parse_model.specs.Descriptors.{field_view}
use Rattle.protobuf_parse_locations.specs.Declarations.{items, field_at}
use Rattle.protobuf_parse_locations.proofs.Going.{Going}
use Rattle.protobuf_parse_locations.proofs.walk.add_fields.Given as goal

abbrev pub invariant-fields : goal.invariant-fields
invariant-fields l = Going l.fn.all.items l.all.items
    (items (field_at l.kind l.scope) l.path l.list l.index (map field_view (drop l.field-index
    l.fields)))
    (items (field_at l.kind l.scope) l.path l.list 0 (map field_view l.fields))
