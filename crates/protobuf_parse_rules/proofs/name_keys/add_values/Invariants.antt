-- The keys so far are those of the names so far.
use Rattle.std.proofs.Common.{◌≡◌, ◌++◌, map, take}
use Rattle.protobuf_parse_model.specs.Descriptors.{enum_value_view}
use Rattle.protobuf_parse_rules.specs.Keys.{value_keys}
use Rattle.protobuf_parse_rules.proofs.name_keys.add_values.Given as goal

abbrev pub invariant-values : goal.invariant-values
invariant-values l = l.keys.items
    ≡ l.fn.keys.items ++ value_keys l.inside (map enum_value_view (take l.value-index l.values))
