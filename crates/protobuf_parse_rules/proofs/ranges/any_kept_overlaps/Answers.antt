use Rattle.std.proofs.Common.{pos, sym, ◌∙◌}
use Rattle.protobuf_parse_model.specs.declared.descriptor.ExtensionRange.{ExtensionRange}
use Rattle.protobuf_parse_model.specs.Descriptors.{Range, extension_range_view}
use Rattle.protobuf_parse_rules.specs.Ranges.{overlaps_first}
use Rattle.protobuf_parse_rules.proofs.Lists.{any_there}
use Rattle.protobuf_parse_rules.proofs.ranges.any_kept_overlaps.Goals as goal

pub returns-then-overlaps_first : goal.returns-then-overlaps_first
returns-then-overlaps_first c =
    let r : Range = record { start = c.args.start.now; end = c.args.end.now } in
    let zero : ExtensionRange = record { start = pos 0; end = pos 0 } in
    any_there (overlaps_first r) extension_range_view c.args.ranges.now c.kept.range-index zero
    c.kept-test.true (sym c.overlaps_first.ensures ∙ c.if-overlaps_first.true)
