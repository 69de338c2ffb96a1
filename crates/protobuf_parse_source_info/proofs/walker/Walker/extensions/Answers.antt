use Rattle.protobuf_parse_source_info.specs.Declarations.{extensions_walk}
use Rattle.protobuf_parse_source_info.proofs.Steps.{takes_then, takes_leaf}
use Rattle.protobuf_parse_source_info.proofs.walker.Walker.extensions.Goals as goal

pub returns : goal.returns
unfolding extensions_walk
returns c =
    takes_leaf _ c.in_ok-mark.ensures c.in_ok-at.ensures.at c.in_ok-at.ensures.opened
    (takes_then (takes_then c.take.ensures (rw c.deref.ensures.value at c.in_ok-ranges.ensures))
    c.take_if.ensures) c.head_ends.ensures c.close.ensures
