use Rattle.protobuf_parse_source_info.specs.Fields.{group_head}
use Rattle.protobuf_parse_source_info.proofs.Steps.{takes_then}
use Rattle.protobuf_parse_source_info.proofs.walker.Walker.group_head.Goals as goal

pub returns : goal.returns
unfolding group_head
returns c = takes_then (takes_then c.in_ok-again.ensures c.in_ok-again-2.ensures) c.take.ensures
