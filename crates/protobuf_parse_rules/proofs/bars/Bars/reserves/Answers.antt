use Rattle.protobuf_parse_rules.specs.Bodies.{reserved_ranges}
use Rattle.protobuf_parse_rules.specs.BodyViews.{content_view}
use Rattle.protobuf_parse_rules.specs.Ranges.{in_range}
use Rattle.protobuf_parse_rules.proofs.bars.Bars.reserves.Goals as goal

pub returns : goal.returns
returns c =
    let bars = c.args.self.now in
    c.has.ensures in_range (reserved_ranges (content_view bars.body.now.holds)) bars.are_reserved
