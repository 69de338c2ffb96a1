use Rattle.protobuf_parse_source_info.specs.Fields.{group_front}
use Rattle.protobuf_parse_source_info.proofs.Steps.{takes_then}
use Rattle.protobuf_parse_source_info.proofs.walker.Walker.group_front.Goals as goal

pub returns : goal.returns
unfolding group_front
returns c =
    takes_then (takes_then c.in_ok-extendee.ensures c.in_ok-label.ensures) c.in_ok-token.ensures
