use Rattle.std.proofs.lemmas.Result.{err_from_is_err_and}
use Rattle.protobuf_parse_syntax.specs.Nested as nest
use Rattle.protobuf_parse_syntax.specs.Code.{fails_first}
use Rattle.protobuf_parse_syntax.proofs.parser.service.rpc.Goals as goal

pub returns-in_err-word : goal.returns-in_err-word
unfolding nest.rpc
returns-in_err-word c =
    let p = err_from_is_err_and c.from_residual.result c.from_residual.ensures.1 in
    rw (p.1, p.2) (fails_first c.in_err-word.field-0.0 _ _ _ c.in_err-word.ensures)

pub returns-in_err-name : goal.returns-in_err-name
unfolding nest.rpc
returns-in_err-name c =
    let p = err_from_is_err_and c.from_residual-in_err-name.result
    c.from_residual-in_err-name.ensures.1 in
    rw (p.1, p.2, c.in_ok-word.ensures)
    (fails_first c.in_err-name.field-0.0 _ _ _ c.in_err-name.ensures)
