use Rattle.std.proofs.Common.{◌≡◌, ◌++◌, map, take}
use Rattle.protobuf_parse_model.specs.Descriptors.{field_view}
use Rattle.protobuf_parse_rules.specs.KnownNames.{named_view}
use Rattle.protobuf_parse_rules.specs.Names.{fields_named}
use Rattle.protobuf_parse_rules.proofs.names.add_fields.Given as goal

abbrev pub invariant-fields : goal.invariant-fields
invariant-fields l = map named_view l.names.items ≡ map named_view l.fn.names.items
    ++ fields_named l.file l.scope l.kind (map field_view (take l.field-index l.fields))
