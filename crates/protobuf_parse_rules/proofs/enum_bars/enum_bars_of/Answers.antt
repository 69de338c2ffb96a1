use Rattle.std.proofs.Common.{List, map, string_bytes, subst}
use Rattle.protobuf_parse_model.specs.declared.descriptor.EnumReservedRange.{EnumReservedRange}
use Rattle.protobuf_parse_model.specs.Descriptors.{enum_range_view}
use Rattle.protobuf_parse_rules.specs.Covers.{AreEnds}
use Rattle.protobuf_parse_rules.specs.Enums.{in_closed_range}
use Rattle.protobuf_parse_rules.specs.Sets.{AreTexts}
use Rattle.protobuf_parse_rules.proofs.enum_bars.enum_bars_of.Goals as goal

pub invariant_of-result-clause-are_reserved : goal.invariant_of-result-clause-are_reserved
invariant_of-result-clause-are_reserved c =
    subst (λ (rs : List EnumReservedRange). AreEnds in_closed_range (map enum_range_view rs)
    c.in_ok-numbers.numbers.firsts.items c.in_ok-numbers.numbers.lasts.items)
    c.deref.ensures.value c.in_ok-numbers.ensures

pub invariant_of-result-clause-are_names : goal.invariant_of-result-clause-are_names
invariant_of-result-clause-are_names c =
    subst (λ ts. AreTexts c.in_ok-names.names.sorted.items (map string_bytes ts))
    c.deref-2.ensures.value c.in_ok-names.ensures
