-- The parts around that dot.
use Rattle.std.proofs.Common.{lit<}
use Rattle.protobuf_parse_base.proofs.TextCuts.{split_once-parts}
use Rattle.protobuf_parse_base.proofs.names.dots.cut_first.Goals as goal

pub returns : goal.returns
returns c = split_once-parts 46 _ _ c.split_once.ensures.cases (lit< tt)
