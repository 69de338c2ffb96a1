use Rattle.std.proofs.Common.{ap, ◌∙◌}
use Rattle.std.specs.Prelude.{nat_lt}
use Rattle.protobuf_parse_rules.proofs.Covering.{any_counted}
use Rattle.protobuf_parse_rules.proofs.cover.Cover.has.Goals as goal

pub returns : goal.returns
returns c = λ has ranges are.
    ap (nat_lt 0) (c.count.ensures has ranges are) ∙ any_counted (has c.args.number.now) ranges
