use Rattle.protobuf_parse_source_info.specs.Fields.{named_number}
use Rattle.protobuf_parse_source_info.proofs.Steps.{takes_then}
use Rattle.protobuf_parse_source_info.proofs.walker.Walker.named_number.Goals as goal

pub returns : goal.returns
unfolding named_number
returns c = takes_then (takes_then c.in_ok-token.ensures c.take.ensures) c.in_ok-token-2.ensures
