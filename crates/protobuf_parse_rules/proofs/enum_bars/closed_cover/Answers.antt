use Rattle.std.proofs.Common.{List, map, pos, subst, sym, take}
use Rattle.protobuf_parse_model.specs.declared.descriptor.EnumReservedRange.{EnumReservedRange}
use Rattle.protobuf_parse_model.specs.Descriptors.{Range, enum_range_view}
use Rattle.protobuf_parse_rules.specs.Covers.{AreEnds}
use Rattle.protobuf_parse_rules.specs.Enums.{in_closed_range}
use Rattle.protobuf_parse_rules.proofs.Covering.{ends_apart}
use Rattle.protobuf_parse_rules.proofs.Lists.{mapped_all, mapped_next}
use Rattle.protobuf_parse_rules.proofs.enum_bars.closed_cover.Goals as goal

pub reserved-init : goal.reserved-init
reserved-init c = c.no_ends-ends.ensures in_closed_range

pub reserved-preserved : goal.reserved-preserved
reserved-preserved c =
    let ranges : List EnumReservedRange = c.args.ranges.now in
    let i = c.reserved.range-index in
    let zero : EnumReservedRange = record { start = pos 0; end = pos 0 } in
    subst (λ (rs : List Range). AreEnds in_closed_range rs c.add_closed.new.ends.firsts.items
    c.add_closed.new.ends.lasts.items)
    (sym (mapped_next enum_range_view ranges i zero c.reserved-test.true))
    (c.in_ok-add_closed.ensures (map enum_range_view (take i ranges)) c.reserved.invariant)

pub of-requires : goal.of-requires
of-requires c =
    ends_apart in_closed_range (map enum_range_view (take c.reserved.range-index c.args.ranges.now))
    c.reserved.ends.firsts.items c.reserved.ends.lasts.items c.reserved.invariant

pub returns : goal.returns
returns c =
    let before : List Range = map enum_range_view (take c.reserved.range-index c.args.ranges.now) in
    subst (λ (rs : List Range). AreEnds in_closed_range rs c.of.result.firsts.items
    c.of.result.lasts.items)
    (mapped_all enum_range_view c.args.ranges.now c.reserved.range-index c.reserved-test.false)
    (c.of.ensures in_closed_range before c.reserved.invariant)
