use Rattle.protobuf_parse_source_info.specs.Parts.{range}
use Rattle.std.proofs.Common.{◌∙◌}
use Rattle.protobuf_parse_source_info.proofs.Steps.{takes_located, takes_noting}
use Rattle.protobuf_parse_source_info.proofs.walker.Walker.range.Goals as goal

pub returns : goal.returns
unfolding range
returns c =
    let own = c.as_slice-own.ensures.value ∙ c.in_ok-own.ensures in
    takes_located _ _ c.in_ok-at.ensures.at c.in_ok-at.ensures.opened
    (takes_noting _ (rw own at c.in_ok-token.ensures) c.front-from.ensures
    (rw own at c.in_ok-range_end.ensures)) c.close.ensures
