-- Where the keys of all values differ, nothing is told.
use Rattle.std.proofs.Common.{All, IsUtf8, map, flat_map, ap, ◌∙◌, subst, string_bytes}
use Rattle.std.proofs.Common.{encode_utf8_all}
use Rattle.protobuf_parse_model.specs.Descriptors.{EnumValueDescriptor, enum_value_view, enum_view}
use Rattle.protobuf_parse_rules.specs.Alike.{squeezed, value_alike_rule}
use Rattle.protobuf_parse_rules.specs.Keys.{spelling_keys, text_key}
use Rattle.protobuf_parse_rules.specs.Rules.{breaches_told}
use Rattle.protobuf_parse_rules.proofs.Spelling.{values_apart}
use Rattle.protobuf_parse_rules.proofs.alike.check_values_alike.Goals as goal

pub returns-then-are_apart : goal.returns-then-are_apart
returns-then-are_apart c =
    let body = c.args.body.now in
    let each = enum_view c.args.each.now in
    values_apart each.name (value_alike_rule body.proto3) (breaches_told c.args.told.now)
    body.file.now (string_bytes body.scope) each.value c.in_ok-keys.keys.items
    (c.in_ok-keys.ensures.are
    ∙ ap (λ vs. flat_map (spelling_keys c.squeezed_key-front.result) (map enum_value_view vs))
    c.deref.ensures.value
    ∙ ap (λ k. flat_map (spelling_keys k) each.value)
    (c.squeezed_key-front.ensures
    ∙ ap (λ name. text_key (encode_utf8_all (squeezed name))) c.as_str.ensures))
    (subst (λ vs. All (λ (v : EnumValueDescriptor). IsUtf8 v.name) (map enum_value_view vs))
    c.deref.ensures.value c.in_ok-keys.ensures.texts)
    (c.are_apart.ensures c.if-are_apart.true)
