use Rattle.std.proofs.Common.{ap}
use Rattle.std.specs.Prelude.{nat_lt}
use Rattle.protobuf_parse_model.specs.Descriptors.{enum_view}
use Rattle.protobuf_parse_rules.specs.Enums.{in_closed_range}
use Rattle.protobuf_parse_rules.proofs.enum_bars.EnumBars.have_twice.Goals as goal

pub returns : goal.returns
returns c =
    let bars = c.args.self.now in
    ap (nat_lt 1)
    (c.count.ensures in_closed_range (enum_view bars.each.now).reserved_range bars.are_reserved)
