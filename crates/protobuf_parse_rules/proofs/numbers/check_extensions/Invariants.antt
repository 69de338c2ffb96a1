use Rattle.std.proofs.Common.{map, take, string_bytes}
use Rattle.protobuf_parse_model.specs.Descriptors.{field_view}
use Rattle.protobuf_parse_rules.specs.ClaimsKept.{Claims}
use Rattle.protobuf_parse_rules.specs.Numbers.{extension_claims, number_rule}
use Rattle.protobuf_parse_rules.proofs.numbers.check_extensions.Given as goal

abbrev pub invariant-extensions : goal.invariant-extensions
invariant-extensions l = Claims number_rule l.fn.numbers l.numbers l.fn.told l.told
    (extension_claims l.body.file.now (string_bytes l.body.scope)
    (map field_view (take l.extension-index l.extensions)))
