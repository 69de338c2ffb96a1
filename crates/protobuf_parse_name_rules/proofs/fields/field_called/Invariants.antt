use Rattle.std.proofs.Common.{◌≡◌, map, drop}
use Rattle.protobuf_parse_model.specs.Descriptors.{field_view}
use Rattle.protobuf_parse_option_paths.specs.Names.{field_called}
use Rattle.protobuf_parse_name_rules.proofs.fields.field_called.Given as goal

abbrev pub invariant-each : goal.invariant-each
invariant-each l = field_called l.name (map field_view l.fields)
    ≡ field_called l.name (map field_view (drop l.field-index l.fields))
