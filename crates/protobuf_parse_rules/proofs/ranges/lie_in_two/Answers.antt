use Rattle.protobuf_parse_rules.specs.Bodies.{extension_ranges, reserved_ranges}
use Rattle.protobuf_parse_rules.specs.BodyViews.{content_view}
use Rattle.protobuf_parse_rules.specs.Ranges.{in_range}
use Rattle.protobuf_parse_rules.proofs.Covering.{more_than_one}
use Rattle.protobuf_parse_rules.proofs.ranges.lie_in_two.Goals as goal

pub returns : goal.returns
returns c =
    let bars = c.args.bars.now in
    let content = content_view bars.body.now.holds in
    let reserved = reserved_ranges content in
    let kept = extension_ranges content in
    more_than_one (in_range c.args.number.now) reserved kept c.count-reserved.result
    c.count.result c.saturating_add.result
    (c.count-reserved.ensures in_range reserved bars.are_reserved)
    (c.count.ensures in_range kept bars.are_kept) c.saturating_add.ensures
