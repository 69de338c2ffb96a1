use Rattle.protobuf_parse_source_info.specs.Files.{streamed}
use Rattle.protobuf_parse_source_info.proofs.Steps.{takes_then}
use Rattle.protobuf_parse_source_info.proofs.walker.Walker.streamed.Goals as goal

pub returns : goal.returns
unfolding streamed
returns c =
    takes_then (takes_then (takes_then c.take.ensures c.in_ok-stream_word.ensures)
    c.in_ok-named.ensures) c.take-2.ensures
