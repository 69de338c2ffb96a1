use Rattle.std.proofs.Common.{◌≡◌, ◌++◌, map, take}
use Rattle.protobuf_parse_model.specs.Descriptors.{enum_value_view}
use Rattle.protobuf_parse_rules.specs.KnownNames.{named_view}
use Rattle.protobuf_parse_rules.specs.Names.{values_named}
use Rattle.protobuf_parse_rules.proofs.names.add_values.Given as goal

abbrev pub invariant-values : goal.invariant-values
invariant-values l = map named_view l.names.items ≡ map named_view l.fn.names.items
    ++ values_named l.file l.scope (map enum_value_view (take l.value-index l.values))
