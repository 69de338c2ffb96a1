use Rattle.protobuf_parse_source_info.specs.Parts.{option_declared}
use Rattle.protobuf_parse_source_info.specs.InnerViews.{mark_view}
use Rattle.protobuf_parse_source_info.proofs.Steps.{takes_then, takes_from, takes_nothing}
use Rattle.protobuf_parse_source_info.proofs.Steps.{takes_seeing}
use Rattle.protobuf_parse_source_info.proofs.walker.Walker.option_of.Goals as goal

pub returns : goal.returns
unfolding option_declared
returns c = takes_seeing _ (rw (← c.in_ok-mark.ensures)
    (takes_from (mark_view c.in_ok-mark.mark) _ _ c.in_ok-at.ensures.at c.in_ok-at.ensures.opened
    (takes_then (takes_then c.take.ensures c.take_item.ensures) c.take-2.ensures)
    c.head_ends.ensures (takes_nothing _) c.close.ensures))
