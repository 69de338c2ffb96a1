use Rattle.std.proofs.Common.{◌≡◌, map, drop}
use Rattle.protobuf_parse_model.specs.Descriptors.{enum_value_view}
use Rattle.protobuf_parse_options.specs.Views.{number_among}
use Rattle.protobuf_parse_options.proofs.lookup.number_among.Given as goal

abbrev pub invariant-values : goal.invariant-values
invariant-values l = number_among (map enum_value_view l.values) l.name ≡ number_among
    (map enum_value_view (drop l.value-index l.values)) l.name
