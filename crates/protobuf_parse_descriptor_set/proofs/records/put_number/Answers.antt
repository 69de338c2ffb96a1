use Rattle.protobuf_parse_descriptor_set.proofs.Lengths.{number_added}
use Rattle.protobuf_parse_descriptor_set.proofs.records.put_number.Goals as goal

pub returns-in_ok-push-2 : goal.returns-in_ok-push-2
returns-in_ok-push-2 c = number_added _ _ _ _ _ c.if-number-lt16.true c.if-value-lt128.true
    c.in_ok-push.ensures.items c.in_ok-push-2.ensures.items
