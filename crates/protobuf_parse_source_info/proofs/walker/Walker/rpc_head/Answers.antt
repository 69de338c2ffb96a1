use Rattle.protobuf_parse_source_info.specs.Files.{rpc_head}
use Rattle.protobuf_parse_source_info.proofs.Steps.{takes_then}
use Rattle.protobuf_parse_source_info.proofs.walker.Walker.rpc_head.Goals as goal

pub returns : goal.returns
unfolding rpc_head
returns c =
    takes_then (takes_then (takes_then (takes_then c.take.ensures c.in_ok-token.ensures)
    c.in_ok-streamed.ensures) c.take-2.ensures) c.in_ok-streamed-2.ensures
