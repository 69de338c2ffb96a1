use Rattle.std.proofs.Common.{◌≡◌, map, take}
use Rattle.protobuf_parse_model.specs.Descriptors.{enum_value_view}
use Rattle.protobuf_parse_rules.specs.Alike.{spelled_value}
use Rattle.protobuf_parse_rules.specs.KnownNames.{spelled_view}
use Rattle.protobuf_parse_rules.proofs.alike.spelled_values.Given as goal

abbrev pub invariant-values : goal.invariant-values
invariant-values l = map spelled_view l.names.items
    ≡ map (spelled_value l.front) (map enum_value_view (take l.value-index l.values))
