use Rattle.std.proofs.Common.{sym, ◌∙◌}
use Rattle.std.proofs.lemmas.Result.{err_from_is_err_and}
use Rattle.protobuf_parse_syntax.specs.Productions.{name, root}
use Rattle.protobuf_parse_syntax.specs.Code.{fails_first}
use Rattle.protobuf_parse_syntax.proofs.parser.name.name.Goals as goal

pub returns-in_err-symbol : goal.returns-in_err-symbol
unfolding name root
returns-in_err-symbol c =
    let p = err_from_is_err_and c.from_residual.result c.from_residual.ensures.1 in
    rw (p.1, p.2, sym c.sees_symbol.ensures ∙ c.if-not-sees_symbol.false)
    (fails_first c.in_err-symbol.field-0.0 _ _ _
    (fails_first c.in_err-symbol.field-0.0 _ _ _ c.in_err-symbol.ensures))

pub returns-in_err-rest : goal.returns-in_err-rest
unfolding name root
returns-in_err-rest c =
    let p = err_from_is_err_and c.from_residual-in_err-rest.result
    c.from_residual-in_err-rest.ensures.1 in
    rw (p.1, p.2, sym c.sees_symbol.ensures ∙ c.if-not-sees_symbol.false, c.in_ok-symbol.ensures)
    (fails_first c.in_err-rest.field-0.0 _ _ _ c.in_err-rest.ensures)
