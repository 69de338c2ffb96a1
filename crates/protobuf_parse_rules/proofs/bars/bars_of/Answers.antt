use Rattle.std.proofs.Common.{List, subst}
use Rattle.protobuf_parse_model.specs.Descriptors.{Range, Text}
use Rattle.protobuf_parse_rules.specs.Covers.{AreEnds}
use Rattle.protobuf_parse_rules.specs.Ranges.{in_range}
use Rattle.protobuf_parse_rules.specs.Sets.{AreTexts}
use Rattle.protobuf_parse_rules.proofs.bars.bars_of.Goals as goal

pub invariant_of-result-clause-are_reserved : goal.invariant_of-result-clause-are_reserved
invariant_of-result-clause-are_reserved c =
    subst (λ (rs : List Range). AreEnds in_range rs c.in_ok-reserved.reserved.firsts.items
    c.in_ok-reserved.reserved.lasts.items) c.reserved_ranges.ensures c.in_ok-reserved.ensures

pub invariant_of-result-clause-are_kept : goal.invariant_of-result-clause-are_kept
invariant_of-result-clause-are_kept c =
    subst (λ (rs : List Range). AreEnds in_range rs c.in_ok-kept.kept.firsts.items
    c.in_ok-kept.kept.lasts.items) c.extension_ranges.ensures c.in_ok-kept.ensures

pub invariant_of-result-clause-are_names : goal.invariant_of-result-clause-are_names
invariant_of-result-clause-are_names c =
    subst (λ (ts : List Text). AreTexts c.in_ok-names.names.sorted.items ts)
    c.reserved_names.ensures c.in_ok-names.ensures
