use Rattle.std.proofs.Common.{map, take, string_bytes}
use Rattle.protobuf_parse_model.specs.Descriptors.{field_view}
use Rattle.protobuf_parse_rules.specs.ClaimsKept.{Claims}
use Rattle.protobuf_parse_rules.specs.Numbers.{field_claims, number_rule}
use Rattle.protobuf_parse_rules.proofs.numbers.check_fields.Given as goal

abbrev pub invariant-fields : goal.invariant-fields
invariant-fields l = Claims number_rule l.fn.numbers l.numbers l.fn.told l.told
    (field_claims l.body.file.now (string_bytes l.body.scope)
    (map field_view (take l.field-index l.fields)))
