use Rattle.protobuf_parse_source_info.specs.Parts.{json_name_item}
use Rattle.protobuf_parse_source_info.proofs.Steps.{takes_then, takes_located}
use Rattle.protobuf_parse_source_info.proofs.walker.Walker.json_name_item.Goals as goal

pub returns : goal.returns
unfolding json_name_item
returns c =
    takes_located _ _ c.in_ok-at.ensures.at c.in_ok-at.ensures.opened
    (takes_then (takes_then c.take.ensures c.take-2.ensures) c.in_ok-rest_of_item.ensures)
    c.close.ensures
