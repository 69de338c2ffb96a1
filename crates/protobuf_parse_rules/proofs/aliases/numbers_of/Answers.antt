use Rattle.std.proofs.Common.{List, ap, map, subst, sym, take}
use Rattle.protobuf_parse_model.specs.Descriptors.{Range, enum_value_view}
use Rattle.protobuf_parse_rules.specs.Covers.{AreEnds, point_of}
use Rattle.protobuf_parse_rules.specs.Enums.{in_closed_range}
use Rattle.protobuf_parse_rules.proofs.Covering.{ends_apart}
use Rattle.protobuf_parse_rules.proofs.Lists.{mapped_all, mapped_twice_more}
use Rattle.protobuf_parse_rules.proofs.aliases.numbers_of.Goals as goal

pub values-init : goal.values-init
values-init c = c.no_ends-ends.ensures in_closed_range

pub values-preserved : goal.values-preserved
values-preserved c =
    let before : List Range =
    map point_of (map enum_value_view (take c.values.value-index c.args.values.now)) in
    subst (λ (rs : List Range). AreEnds in_closed_range rs c.add_value.new.ends.firsts.items
    c.add_value.new.ends.lasts.items)
    (sym (mapped_twice_more point_of enum_value_view c.args.values.now c.values.value-index
    c.value-item.result c.values-test.true c.value-item.is))
    (c.in_ok-add_value.ensures before c.values.invariant)

pub of-requires : goal.of-requires
of-requires c =
    ends_apart in_closed_range
    (map point_of (map enum_value_view (take c.values.value-index c.args.values.now)))
    c.values.ends.firsts.items c.values.ends.lasts.items c.values.invariant

pub returns : goal.returns
returns c =
    let before : List Range =
    map point_of (map enum_value_view (take c.values.value-index c.args.values.now)) in
    subst (λ (rs : List Range). AreEnds in_closed_range rs c.of.result.firsts.items
    c.of.result.lasts.items)
    (ap (map point_of) (mapped_all enum_value_view c.args.values.now c.values.value-index
    c.values-test.false))
    (c.of.ensures in_closed_range before c.values.invariant)
