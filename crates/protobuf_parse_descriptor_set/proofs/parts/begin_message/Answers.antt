use Rattle.std.proofs.Common.{arith}
use Rattle.protobuf_parse_descriptor_set.proofs.Lengths.{begun, has_byte}
use Rattle.protobuf_parse_descriptor_set.proofs.parts.begin_message.Goals as goal

pub overflow_sub-result : goal.overflow_sub-result
overflow_sub-result c =
    let some = has_byte _ _ _ (begun _ _ _ c.in_ok-put_bytes.ensures) in
    omega (arith, some, c.len.ensures, c.put_bytes.new.out.ok.0)

pub returns-clause-begun : goal.returns-clause-begun
returns-clause-begun c = begun _ _ _ c.in_ok-put_bytes.ensures

pub returns-clause-start : goal.returns-clause-start
returns-clause-start c =
    let some = has_byte _ _ _ (begun _ _ _ c.in_ok-put_bytes.ensures) in
    omega (arith, some, c.len.ensures, c.put_bytes.new.out.ok.0)
