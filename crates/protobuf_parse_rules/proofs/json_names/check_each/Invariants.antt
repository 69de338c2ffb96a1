use Rattle.std.proofs.Common.{map, take, string_bytes}
use Rattle.protobuf_parse_model.specs.Descriptors.{field_view}
use Rattle.protobuf_parse_rules.specs.ClaimsKept.{Claims}
use Rattle.protobuf_parse_rules.specs.JsonNames.{json_claim, json_rule}
use Rattle.protobuf_parse_rules.proofs.json_names.check_each.Given as goal

abbrev pub invariant-fields : goal.invariant-fields
invariant-fields l = Claims (json_rule l.body.proto3) l.initial.names l.names l.fn.told l.told
    (map (json_claim l.body.file.now (string_bytes l.body.scope))
    (map field_view (take l.field-index l.fields)))
