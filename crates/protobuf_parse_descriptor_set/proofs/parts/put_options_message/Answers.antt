use Rattle.std.proofs.Common.{arith}
use Rattle.protobuf_parse_descriptor_set.proofs.Joining.{on_ok_then}
use Rattle.protobuf_parse_descriptor_set.proofs.Lengths.{ended_options, is_within, no_options}
use Rattle.protobuf_parse_descriptor_set.proofs.parts.put_options_message.Goals as goal

pub end_message-requires : goal.end_message-requires
end_message-requires g c = is_within _ _ _ _ c.in_ok-start.ensures.start c.in_ok-put.ensures

pub returns-then-len-start : goal.returns-then-len-start
returns-then-len-start g c = no_options _ _ _ _ _ _ _ _ c.in_ok-start.ensures.begun
    c.in_ok-start.ensures.start c.in_ok-put.ensures
    (omega (arith, c.if-len-start.true, c.len.ensures, c.put.new.out.ok.0))
    (omega (arith, c.len-before.ensures, c.args.out.now.ok.0)) c.truncate.ensures.items

pub returns : goal.returns
returns g c =
    on_ok_then c.end_message.result
    (ended_options _ _ _ _ _ _ _ c.in_ok-start.ensures.begun c.in_ok-start.ensures.start
    c.in_ok-put.ensures
    (λ e. c.if-len-start.false (omega (arith, e, c.len.ensures, c.put.new.out.ok.0))))
    c.end_message.ensures
