use Rattle.std.proofs.Common.{List, map, pos, subst, sym, take}
use Rattle.protobuf_parse_model.specs.declared.descriptor.ReservedRange.{ReservedRange}
use Rattle.protobuf_parse_model.specs.Descriptors.{Range, reserved_range_view}
use Rattle.protobuf_parse_rules.specs.Covers.{AreEnds}
use Rattle.protobuf_parse_rules.specs.Ranges.{in_range}
use Rattle.protobuf_parse_rules.proofs.Covering.{ends_apart}
use Rattle.protobuf_parse_rules.proofs.Lists.{mapped_all, mapped_next}
use Rattle.protobuf_parse_rules.proofs.ranges.reserved_cover.Goals as goal

pub reserved-init : goal.reserved-init
reserved-init c = c.no_ends-ends.ensures in_range

pub reserved-preserved : goal.reserved-preserved
reserved-preserved c =
    let ranges : List ReservedRange = c.args.ranges.now in
    let i = c.reserved.range-index in
    let zero : ReservedRange = record { start = pos 0; end = pos 0 } in
    subst (λ (rs : List Range). AreEnds in_range rs c.add_open.new.ends.firsts.items
    c.add_open.new.ends.lasts.items)
    (sym (mapped_next reserved_range_view ranges i zero c.reserved-test.true))
    (c.in_ok-add_open.ensures (map reserved_range_view (take i ranges)) c.reserved.invariant)

pub of-requires : goal.of-requires
of-requires c =
    ends_apart in_range (map reserved_range_view (take c.reserved.range-index c.args.ranges.now))
    c.reserved.ends.firsts.items c.reserved.ends.lasts.items c.reserved.invariant

pub returns : goal.returns
returns c =
    let before : List Range = map reserved_range_view
    (take c.reserved.range-index c.args.ranges.now) in
    subst (λ (rs : List Range). AreEnds in_range rs c.of.result.firsts.items
    c.of.result.lasts.items)
    (mapped_all reserved_range_view c.args.ranges.now c.reserved.range-index c.reserved-test.false)
    (c.of.ensures in_range before c.reserved.invariant)
