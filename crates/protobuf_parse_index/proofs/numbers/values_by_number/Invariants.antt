use Rattle.std.proofs.Common.{◌≡◌, ℤ, map, take}
use Rattle.protobuf_parse_model.specs.Descriptors.{enum_value_view}
use Rattle.protobuf_parse_index.specs.Kept.{value_at}
use Rattle.protobuf_parse_index.specs.Lookups.{value_with}
use Rattle.protobuf_parse_index.proofs.numbers.values_by_number.Given as goal

abbrev pub invariant-values : goal.invariant-values
invariant-values l = (q : ℤ) → value_at l.numbers q
    ≡ value_with q (map enum_value_view (take l.value-index l.values))
