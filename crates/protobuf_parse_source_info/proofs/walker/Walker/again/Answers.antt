use Rattle.protobuf_parse_source_info.proofs.Steps.{takes_again}
use Rattle.protobuf_parse_source_info.proofs.walker.Walker.again.Goals as goal

pub returns : goal.returns
returns c = takes_again _ _ _ _ c.in_ok-at.ensures.at c.in_ok-at.ensures.opened c.put_end.ensures
