use Rattle.std.proofs.Common.{arith}
use Rattle.std.proofs.lemmas.Result.{err_from_is_err_and}
use Rattle.protobuf_parse_wire.proofs.Bits.{varint_more, varint_stops}
use Rattle.protobuf_parse_wire.proofs.reader.words.+varint_of.Goals as goal

pub returns-in_err-high-in-len1-up-clause-gives : goal.returns-in_err-high-in-len1-up-clause-gives
returns-in_err-high-in-len1-up-clause-gives t c =
    let p = err_from_is_err_and c.from_residual.result c.from_residual.ensures.1 in
    rw (p.1, p.2)
    (λ other. varint_stops c.args.room c.args.bytes.now _ c.if-room-eq0.false (omega arith)
    (omega arith) (c.in_err-high-in-len1-up.ensures.gives other))

pub returns-else-high-clause-gives : goal.returns-else-high-clause-gives
returns-else-high-clause-gives t c =
    varint_more c.args.room c.args.bytes.now c.in_ok-high-in-len1-up.high
    c.in_ok-high-in-len1-up.rest.now c.from-in-len1-up.result c.if-room-eq0.false (omega arith)
    (omega arith) c.in_ok-high-in-len1-up.ensures.gives (omega arith) c.from-in-len1-up.ensures
