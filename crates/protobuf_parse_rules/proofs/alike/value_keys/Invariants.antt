-- The keys so far are those of the values so far, whose names are texts.
use Rattle.std.proofs.Common.{◌≡◌, map, take, flat_map, All, IsUtf8}
use Rattle.protobuf_parse_model.specs.Descriptors.{EnumValueDescriptor, enum_value_view}
use Rattle.protobuf_parse_rules.specs.Keys.{spelling_keys}
use Rattle.protobuf_parse_rules.proofs.alike.value_keys.Given as goal

abbrev pub invariant-values : goal.invariant-values
invariant-values l = (l.keys.items
    ≡ flat_map (spelling_keys l.front) (map enum_value_view (take l.value-index l.values)))
    × All (λ (v : EnumValueDescriptor). IsUtf8 v.name)
    (map enum_value_view (take l.value-index l.values))
