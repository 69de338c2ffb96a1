use Rattle.std.proofs.Common.{map, string_bytes}
use Rattle.protobuf_parse_model.specs.Descriptors.{field_view}
use Rattle.protobuf_parse_rules.specs.JsonNames.{json_claim, json_rule}
use Rattle.protobuf_parse_rules.specs.Rules.{breaches_told}
use Rattle.protobuf_parse_rules.proofs.Keying.{no_hash_told}
use Rattle.protobuf_parse_rules.proofs.json_names.check_json_names.Goals as goal

pub returns-then-are_apart : goal.returns-then-are_apart
returns-then-are_apart c =
    no_hash_told (json_rule c.args.body.now.proto3) (breaches_told c.args.told.now)
    (json_claim c.args.body.now.file.now (string_bytes c.args.body.now.scope))
    (map field_view c.args.fields.now) c.in_ok-keys.keys.items c.in_ok-keys.ensures
    (c.are_apart.ensures c.if-are_apart.true)
