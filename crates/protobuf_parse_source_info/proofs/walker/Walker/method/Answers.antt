use Rattle.std.proofs.Common.{◌∙◌, codes}
use Rattle.protobuf_parse_source_info.specs.Files.{method_walk}
use Rattle.protobuf_parse_source_info.specs.InnerViews.{doing}
use Rattle.protobuf_parse_source_info.proofs.Steps.{takes_then, takes_declared, takes_seeing}
use Rattle.protobuf_parse_source_info.proofs.Steps.{sees_is, opened_ahead}
use Rattle.protobuf_parse_source_info.proofs.walker.Walker.method.Goals as goal

pub returns : goal.returns
unfolding method_walk
returns c =
    let own = c.as_slice-own.ensures.value ∙ c.in_ok-own.ensures in
    let d = doing c.args.self.now in
    let head = rw own at c.in_ok-method_head.ensures in
    let block =
    sees_is (codes "{") d (opened_ahead _ _ _ d c.in_ok-at.ensures.opened) head
    c.sees-has_block.ensures in
    takes_seeing _ (rw (← block)
    (takes_declared _ c.in_ok-mark.ensures c.in_ok-at.ensures.at c.in_ok-at.ensures.opened
    (takes_then head c.take.ensures) c.head_ends.ensures
    (rw (own, c.deref.ensures.value) at c.in_ok-method_block.ensures) c.close.ensures))
