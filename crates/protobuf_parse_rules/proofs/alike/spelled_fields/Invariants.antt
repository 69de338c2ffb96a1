use Rattle.std.proofs.Common.{◌≡◌, map, take}
use Rattle.protobuf_parse_model.specs.Descriptors.{field_view}
use Rattle.protobuf_parse_rules.specs.Alike.{spelled_field}
use Rattle.protobuf_parse_rules.specs.KnownNames.{spelled_view}
use Rattle.protobuf_parse_rules.proofs.alike.spelled_fields.Given as goal

abbrev pub invariant-fields : goal.invariant-fields
invariant-fields l = map spelled_view l.names.items
    ≡ map spelled_field (map field_view (take l.field-index l.fields))
