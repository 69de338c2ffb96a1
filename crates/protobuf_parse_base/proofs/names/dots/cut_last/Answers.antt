-- The parts around that dot.
use Rattle.std.proofs.Common.{lit<}
use Rattle.protobuf_parse_base.proofs.TextCuts.{rsplit_once-parts}
use Rattle.protobuf_parse_base.proofs.names.dots.cut_last.Goals as goal

pub returns : goal.returns
returns c = rsplit_once-parts 46 _ _ c.rsplit_once.ensures.cases (lit< tt)
