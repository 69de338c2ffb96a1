use Rattle.protobuf_parse_source_info.specs.Declarations.{extend_walk}
use Rattle.protobuf_parse_source_info.specs.InnerViews.{doing}
use Rattle.protobuf_parse_source_info.proofs.Steps.{takes_then, takes_declared, takes_seeing}
use Rattle.protobuf_parse_source_info.proofs.Steps.{range_is, opened_ahead}
use Rattle.protobuf_parse_source_info.proofs.walker.Walker.extend.Goals as goal

pub returns : goal.returns
unfolding extend_walk
returns c =
    let d = doing c.args.self.now in
    let extendee =
    range_is d (opened_ahead _ _ _ d c.in_ok-at.ensures.opened) c.take.ensures
    c.front-from.ensures c.name.ensures in
    takes_seeing _ (rw (← extendee)
    (takes_declared _ c.in_ok-mark.ensures c.in_ok-at.ensures.at c.in_ok-at.ensures.opened
    (takes_then (takes_then c.take.ensures c.name.ensures) c.take-2.ensures) c.head_ends.ensures
    (takes_then (rw c.deref.ensures.value at c.in_ok-fields.ensures) c.take-3.ensures)
    c.close.ensures))
