use Rattle.protobuf_parse_source_info.proofs.Steps.{takes_located}
use Rattle.protobuf_parse_source_info.proofs.walker.Walker.token.Goals as goal

pub returns : goal.returns
returns c =
    takes_located _ _ c.in_ok-at.ensures.at c.in_ok-at.ensures.opened c.take.ensures c.close.ensures
