use Rattle.protobuf_parse_source_info.specs.Declarations.{value_parts}
use Rattle.protobuf_parse_source_info.proofs.Steps.{takes_then}
use Rattle.protobuf_parse_source_info.proofs.walker.Walker.value_parts.Goals as goal

pub returns : goal.returns
unfolding value_parts
returns c =
    takes_then (takes_then (takes_then (takes_then c.in_ok-token.ensures c.take.ensures)
    c.in_ok-number.ensures) (rw c.deref.ensures.value at c.in_ok-options.ensures))
    c.take_if.ensures
