use Rattle.std.proofs.Common.{string_bytes}
use Rattle.protobuf_parse_expected.proofs.Telling.{longer_there}
use Rattle.protobuf_parse_expected.proofs.ending.has_end.Goals as goal

pub returns-then-is_whole : goal.returns-then-is_whole
returns-then-is_whole c = λ yes.
    let next = rw c.in-Some.is at c.in_ok-text.ensures in
    longer_there c.args.text.now (string_bytes c.loop.longer) c.deref.result.now c.in-Some.field-0
    (cc) c.loop.invariant next (cc)
