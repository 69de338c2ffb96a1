use Rattle.std.proofs.Common.{◌∙◌}
use Rattle.protobuf_parse_source_info.specs.Declarations.{enum_walk}
use Rattle.protobuf_parse_source_info.proofs.Steps.{takes_then, takes_declared}
use Rattle.protobuf_parse_source_info.proofs.walker.Walker.enumeration.Goals as goal

pub returns : goal.returns
unfolding enum_walk
returns c =
    let own = c.as_slice-own.ensures.value ∙ c.in_ok-own.ensures in
    takes_declared _ c.in_ok-mark.ensures c.in_ok-at.ensures.at c.in_ok-at.ensures.opened
    (rw own at c.in_ok-head.ensures) c.head_ends.ensures
    (takes_then (rw (own, c.deref.ensures.value) at c.in_ok-enum_body.ensures) c.take.ensures)
    c.close.ensures
