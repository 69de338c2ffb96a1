use Rattle.std.proofs.Common.{◌++◌, [], map, sym, ap, ◌∙◌, string_bytes}
use Rattle.std.specs.Prelude.{if◌then◌else◌}
use Rattle.protobuf_parse_model.specs.Descriptors.{EnumValueDescriptor, enum_value_view}
use Rattle.protobuf_parse_rules.specs.Claims.{conflicts}
use Rattle.protobuf_parse_rules.specs.Enums.{value_claim, value_rule}
use Rattle.protobuf_parse_rules.specs.Keys.{no_text, numbered}
use Rattle.protobuf_parse_rules.specs.Rules.{breaches_told}
use Rattle.protobuf_parse_rules.proofs.Keying.{nothing_told}
use Rattle.protobuf_parse_rules.proofs.enums.check_values.Goals as goal

pub returns-then-are_apart : goal.returns-then-are_apart
returns-then-are_apart c =
    let told = breaches_told c.args.told.now in
    let claim = value_claim c.args.body.now.file.now (string_bytes c.args.body.now.scope) in
    let values = map enum_value_view c.args.each.now.value.items in
    nothing_told value_rule told claim values c.in_ok-keys.keys.items
    (c.in_ok-keys.ensures
    ∙ ap (λ vs. map (λ (v : EnumValueDescriptor). numbered no_text v.number) (map enum_value_view vs))
    c.deref.ensures.value)
    (c.are_apart.ensures c.if-are_apart.true)
    ∙ ap (λ b. told ++ (if b then [] else conflicts value_rule [] (map claim values)))
    (sym (sym c.allows_alias.ensures ∙ c.if-allows_alias.false))
