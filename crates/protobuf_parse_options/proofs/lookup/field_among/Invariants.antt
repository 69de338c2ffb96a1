use Rattle.std.proofs.Common.{◌≡◌, map, drop}
use Rattle.protobuf_parse_model.specs.Descriptors.{field_view}
use Rattle.protobuf_parse_options.specs.Views.{field_among}
use Rattle.protobuf_parse_options.proofs.lookup.field_among.Given as goal

abbrev pub invariant-fields : goal.invariant-fields
invariant-fields l = field_among (map field_view l.fields) l.name ≡ field_among
    (map field_view (drop l.field-index l.fields)) l.name
