-- The keys so far are those of the values so far.
use Rattle.std.proofs.Common.{◌≡◌, map, take}
use Rattle.protobuf_parse_model.specs.Descriptors.{EnumValueDescriptor, enum_value_view}
use Rattle.protobuf_parse_rules.specs.Keys.{no_text, numbered}
use Rattle.protobuf_parse_rules.proofs.enums.keys_of.Given as goal

abbrev pub invariant-values : goal.invariant-values
invariant-values l = l.keys.items ≡ map (λ (v : EnumValueDescriptor). numbered no_text v.number)
    (map enum_value_view (take l.value-index l.values))
