use Rattle.protobuf_parse_source_info.specs.Files.{stream_head}
use Rattle.protobuf_parse_source_info.proofs.Steps.{takes_then}
use Rattle.protobuf_parse_source_info.proofs.walker.Walker.stream_head.Goals as goal

pub returns : goal.returns
unfolding stream_head
returns c =
    takes_then (takes_then (takes_then (takes_then (takes_then (takes_then c.take.ensures
    c.in_ok-token.ensures) c.take-2.ensures) c.in_ok-named.ensures) c.take-3.ensures)
    c.in_ok-named-2.ensures) c.take-4.ensures
