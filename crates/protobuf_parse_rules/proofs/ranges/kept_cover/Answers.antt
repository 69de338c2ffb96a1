use Rattle.std.proofs.Common.{List, map, pos, subst, sym, take}
use Rattle.protobuf_parse_model.specs.declared.descriptor.ExtensionRange.{ExtensionRange}
use Rattle.protobuf_parse_model.specs.Descriptors.{Range, extension_range_view}
use Rattle.protobuf_parse_rules.specs.Covers.{AreEnds}
use Rattle.protobuf_parse_rules.specs.Ranges.{in_range}
use Rattle.protobuf_parse_rules.proofs.Covering.{ends_apart}
use Rattle.protobuf_parse_rules.proofs.Lists.{mapped_all, mapped_next}
use Rattle.protobuf_parse_rules.proofs.ranges.kept_cover.Goals as goal

pub kept-init : goal.kept-init
kept-init c = c.no_ends-ends.ensures in_range

pub kept-preserved : goal.kept-preserved
kept-preserved c =
    let ranges : List ExtensionRange = c.args.ranges.now in
    let i = c.kept.range-index in
    let zero : ExtensionRange = record { start = pos 0; end = pos 0 } in
    subst (λ (rs : List Range). AreEnds in_range rs c.add_open.new.ends.firsts.items
    c.add_open.new.ends.lasts.items)
    (sym (mapped_next extension_range_view ranges i zero c.kept-test.true))
    (c.in_ok-add_open.ensures (map extension_range_view (take i ranges)) c.kept.invariant)

pub of-requires : goal.of-requires
of-requires c =
    ends_apart in_range (map extension_range_view (take c.kept.range-index c.args.ranges.now))
    c.kept.ends.firsts.items c.kept.ends.lasts.items c.kept.invariant

pub returns : goal.returns
returns c =
    let before : List Range = map extension_range_view
    (take c.kept.range-index c.args.ranges.now) in
    subst (λ (rs : List Range). AreEnds in_range rs c.of.result.firsts.items
    c.of.result.lasts.items)
    (mapped_all extension_range_view c.args.ranges.now c.kept.range-index c.kept-test.false)
    (c.of.ensures in_range before c.kept.invariant)
