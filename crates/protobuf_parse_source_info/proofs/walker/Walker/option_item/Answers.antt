use Rattle.protobuf_parse_source_info.specs.Parts.{option_item}
use Rattle.protobuf_parse_source_info.proofs.Steps.{takes_located}
use Rattle.protobuf_parse_source_info.proofs.walker.Walker.option_item.Goals as goal

pub returns : goal.returns
unfolding option_item
returns c =
    takes_located _ _ c.in_ok-at.ensures.at (rw (← c.front-from.ensures) c.in_ok-at.ensures.opened)
    c.take_item.ensures c.close.ensures
