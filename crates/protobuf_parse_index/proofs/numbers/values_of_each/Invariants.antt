use Rattle.std.proofs.Common.{◌≡◌, map, take}
use Rattle.protobuf_parse_index.specs.Kept.{own_values, value_at}
use Rattle.protobuf_parse_index.specs.Views.{standing_enum}
use Rattle.protobuf_parse_index.proofs.numbers.values_of_each.Given as goal

abbrev pub invariant-enums : goal.invariant-enums
invariant-enums l = map value_at l.values.items
    ≡ map own_values (map standing_enum (take l.each-index l.enums))
