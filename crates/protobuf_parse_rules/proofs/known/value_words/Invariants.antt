use Rattle.std.proofs.Common.{◌≡◌, map, take}
use Rattle.protobuf_parse_model.specs.Descriptors.{EnumValueDescriptor, enum_value_view}
use Rattle.protobuf_parse_rules.specs.Sets.{texts_of}
use Rattle.protobuf_parse_rules.proofs.known.value_words.Given as goal

abbrev pub invariant-values : goal.invariant-values
invariant-values l = texts_of l.words.items ≡ map (λ (v : EnumValueDescriptor). v.name)
    (map enum_value_view (take l.value-index l.values))
