use Rattle.std.proofs.Common.{◌≡◌, map, drop}
use Rattle.protobuf_parse_model.specs.Descriptors.{enum_value_view}
use Rattle.protobuf_parse_index.specs.Lookups.{value_called}
use Rattle.protobuf_parse_index.proofs.inside.value_called.Given as goal

abbrev pub invariant-values : goal.invariant-values
invariant-values l = value_called l.name (map enum_value_view l.values)
    ≡ value_called l.name (map enum_value_view (drop l.value-index l.values))
