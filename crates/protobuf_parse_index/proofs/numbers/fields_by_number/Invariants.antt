use Rattle.std.proofs.Common.{◌≡◌, ℤ, map, take}
use Rattle.protobuf_parse_model.specs.Descriptors.{field_view}
use Rattle.protobuf_parse_index.specs.Kept.{field_at}
use Rattle.protobuf_parse_index.specs.Lookups.{field_with}
use Rattle.protobuf_parse_index.proofs.numbers.fields_by_number.Given as goal

abbrev pub invariant-fields : goal.invariant-fields
invariant-fields l = (q : ℤ) → field_at l.numbers q
    ≡ field_with q (map field_view (take l.field-index l.fields))
