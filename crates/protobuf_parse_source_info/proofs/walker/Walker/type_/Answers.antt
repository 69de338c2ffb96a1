use Rattle.protobuf_parse_source_info.specs.Parts.{type_walk}
use Rattle.protobuf_parse_source_info.proofs.Steps.{takes_located}
use Rattle.protobuf_parse_source_info.proofs.walker.Walker.type_.Goals as goal

pub returns : goal.returns
unfolding type_walk
returns c =
    rw (← c.type_number.ensures)
    (takes_located _ _ c.in_ok-at.ensures.at c.in_ok-at.ensures.opened c.type_tokens.ensures
    c.close.ensures)
