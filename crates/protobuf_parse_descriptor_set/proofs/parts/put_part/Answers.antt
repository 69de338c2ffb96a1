use Rattle.protobuf_parse_descriptor_set.proofs.Joining.{on_ok_then}
use Rattle.protobuf_parse_descriptor_set.proofs.Lengths.{ended_part, within}
use Rattle.protobuf_parse_descriptor_set.proofs.parts.put_part.Goals as goal

pub end_message-requires : goal.end_message-requires
end_message-requires g c = within _ _ _ _ c.in_ok-start.ensures.start c.in_ok-put.ensures

pub returns : goal.returns
returns g c =
    on_ok_then c.end_message.result
    (ended_part _ _ _ _ _ _ _ c.in_ok-start.ensures.begun c.in_ok-start.ensures.start
    c.in_ok-put.ensures)
    c.end_message.ensures
