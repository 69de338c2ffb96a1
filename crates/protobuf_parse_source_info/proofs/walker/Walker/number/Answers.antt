use Rattle.protobuf_parse_source_info.specs.Parts.{number}
use Rattle.protobuf_parse_source_info.proofs.Steps.{takes_then, takes_located}
use Rattle.protobuf_parse_source_info.proofs.walker.Walker.number.Goals as goal

pub returns : goal.returns
unfolding number
returns c =
    takes_located _ _ c.in_ok-at.ensures.at c.in_ok-at.ensures.opened
    (takes_then c.take_if.ensures c.take.ensures) c.close.ensures
