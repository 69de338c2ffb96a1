use Rattle.protobuf_parse_source_info.specs.Parts.{head}
use Rattle.protobuf_parse_source_info.proofs.Steps.{takes_then}
use Rattle.protobuf_parse_source_info.proofs.walker.Walker.head.Goals as goal

pub returns : goal.returns
unfolding head
returns c = takes_then (takes_then c.take.ensures c.in_ok-token.ensures) c.take-2.ensures
