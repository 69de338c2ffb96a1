use Rattle.protobuf_parse_model.specs.Descriptors.{enum_view}
use Rattle.protobuf_parse_rules.specs.Enums.{in_closed_range}
use Rattle.protobuf_parse_rules.proofs.enum_bars.EnumBars.reserves.Goals as goal

pub returns : goal.returns
returns c =
    let bars = c.args.self.now in
    c.has.ensures in_closed_range (enum_view bars.each.now).reserved_range bars.are_reserved
