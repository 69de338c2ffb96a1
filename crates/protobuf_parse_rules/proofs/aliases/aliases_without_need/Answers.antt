use Rattle.std.proofs.Common.{List, ap, map, not, subst, sym, ◌∙◌}
use Rattle.std.specs.Prelude.{◌&&◌}
use Rattle.std.specs.List.{list_any}
use Rattle.protobuf_parse_model.specs.Descriptors.{EnumValueDescriptor, enum_value_view}
use Rattle.protobuf_parse_rules.specs.Covers.{AreEnds, point_of}
use Rattle.protobuf_parse_rules.specs.Enums.{in_closed_range, is_shared}
use Rattle.protobuf_parse_rules.specs.Rules.{broken_if}
use Rattle.protobuf_parse_rules.specs.declared.rule.Rule.TheVariants as rule
use Rattle.protobuf_parse_rules.proofs.aliases.aliases_without_need.Goals as goal

pub returns : goal.returns
returns c =
    let all : List EnumValueDescriptor = map enum_value_view c.args.each.now.value.items in
    let numbers = c.in_ok-numbers.numbers in
    let are : AreEnds in_closed_range (map point_of all) numbers.firsts.items numbers.lasts.items =
    subst (λ (vs : List EnumValueDescriptor). AreEnds in_closed_range (map point_of vs)
    numbers.firsts.items numbers.lasts.items)
    (ap (map enum_value_view) c.deref.ensures.value) c.in_ok-numbers.ensures in
    let shared = c.share_numbers-shared.ensures all are
    ∙ ap (λ vs. list_any (is_shared all) (map enum_value_view vs)) c.deref-2.ensures.value in
    let allowed = sym c.allows_alias.ensures ∙ c.if-not-allows_alias.false in
    c.found_if.ensures
    ∙ ap (λ b. broken_if (not b) rule.AliasesWithoutNeed) shared
    ∙ ap (λ b. broken_if (b && not (list_any (is_shared all) all)) rule.AliasesWithoutNeed)
    (sym allowed)
