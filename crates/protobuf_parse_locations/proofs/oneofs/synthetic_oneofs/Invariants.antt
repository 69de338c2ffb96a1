use Rattle.std.proofs.Common.{map, take}
use Rattle.protobuf_parse_model.specs.Descriptors.{field_view}
use Rattle.protobuf_parse_locations.specs.Declarations.{is_synthetic}
use Rattle.protobuf_parse_locations.specs.Marks.{Marks}
use Rattle.protobuf_parse_locations.proofs.oneofs.synthetic_oneofs.Given as goal

abbrev pub invariant-fields : goal.invariant-fields
invariant-fields l =
    Marks (is_synthetic (map field_view (take l.field-index l.fields))) l.count l.synthetic.items
