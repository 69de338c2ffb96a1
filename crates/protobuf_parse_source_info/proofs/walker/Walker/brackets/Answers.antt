use Rattle.protobuf_parse_source_info.specs.Parts.{brackets}
use Rattle.protobuf_parse_source_info.proofs.Steps.{takes_then, takes_located}
use Rattle.protobuf_parse_source_info.proofs.walker.Walker.brackets.Goals as goal

pub returns : goal.returns
unfolding brackets
returns c =
    rw (← c.options_number.ensures)
    (takes_located _ _ c.in_ok-at.ensures.at c.in_ok-at.ensures.opened
    (takes_then c.take.ensures c.in_ok-items.ensures) c.close.ensures)
