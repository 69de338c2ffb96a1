use Rattle.std.proofs.Common.{arith}
use Rattle.std.proofs.lemmas.Result.{err_from_is_err_and}
use Rattle.protobuf_parse_records.proofs.VarintBits.{goes_on, breaks}
use Rattle.protobuf_parse_records.proofs.varint.+varint_within.Goals as goal

pub returns-in_err-high-in-len1-up-clause-gives : goal.returns-in_err-high-in-len1-up-clause-gives
returns-in_err-high-in-len1-up-clause-gives t c =
    let p = err_from_is_err_and c.from_residual.result c.from_residual.ensures.1 in
    rw (p.1, p.2)
    (breaks c.args.most c.args.bytes.now _ c.if-most-eq0.false (omega arith) (omega arith)
    c.in_err-high-in-len1-up.ensures.gives)

pub returns-else-high-clause-gives : goal.returns-else-high-clause-gives
returns-else-high-clause-gives t c =
    goes_on c.args.most c.args.bytes.now c.in_ok-high-in-len1-up.high
    c.in_ok-high-in-len1-up.behind.now c.from-in-len1-up.result c.if-most-eq0.false (omega arith)
    (omega arith) c.in_ok-high-in-len1-up.ensures.gives (omega arith) c.from-in-len1-up.ensures
