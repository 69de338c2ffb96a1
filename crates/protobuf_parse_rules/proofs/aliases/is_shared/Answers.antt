use Rattle.std.proofs.Common.{ap, ◌∙◌, map}
use Rattle.std.specs.Prelude.{nat_lt}
use Rattle.protobuf_parse_rules.specs.Covers.{point_of}
use Rattle.protobuf_parse_rules.specs.Enums.{in_closed_range}
use Rattle.protobuf_parse_rules.proofs.Covering.{counted_points}
use Rattle.protobuf_parse_rules.proofs.aliases.is_shared.Goals as goal

pub returns : goal.returns
returns c = λ all are.
    ap (nat_lt 1) (c.count.ensures in_closed_range (map point_of all) are
    ∙ counted_points c.args.value.now.number all)
