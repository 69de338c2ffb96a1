use Rattle.protobuf_parse_descriptor_set.proofs.Lengths.{bytes_added}
use Rattle.protobuf_parse_descriptor_set.proofs.records.put_bytes.Goals as goal

pub returns-in_ok-push-2 : goal.returns-in_ok-push-2
returns-in_ok-push-2 c = bytes_added _ _ _ _ _ _ _ c.if-number-lt16.true c.if-bytes-lt128.true
    c.in_ok-push.ensures.items c.in_ok-push-2.ensures.items c.extend_from_slice.ensures.items
