use Rattle.std.proofs.Common.{◌≡◌, map, take}
use Rattle.protobuf_parse_model.specs.Descriptors.{field_view}
use Rattle.protobuf_parse_rules.specs.Oneofs.{oneofs_held}
use Rattle.protobuf_parse_rules.proofs.oneofs.numbers_of.Given as goal

abbrev pub invariant-fields : goal.invariant-fields
invariant-fields l = l.numbers.items ≡ oneofs_held (map field_view (take l.field-index l.fields))
