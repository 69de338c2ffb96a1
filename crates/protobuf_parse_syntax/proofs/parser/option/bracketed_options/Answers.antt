use Rattle.std.proofs.Common.{inl}
use Rattle.std.proofs.lemmas.Result.{err_from_is_err_and}
use Rattle.protobuf_parse_syntax.specs.Nested as nest
use Rattle.protobuf_parse_syntax.specs.Code.{left, fails_first}
use Rattle.protobuf_parse_syntax.proofs.OptionFaults.{fails_bracketed}
use Rattle.protobuf_parse_syntax.proofs.parser.option.bracketed_options.Goals as goal

pub returns-in_err-symbol : goal.returns-in_err-symbol
unfolding nest.bracketed_options
returns-in_err-symbol c =
    let p = err_from_is_err_and c.from_residual.result c.from_residual.ensures.1 in
    rw (p.1, p.2)
    (inl (fails_first c.in_err-symbol.field-0.0 _ _ _ c.in_err-symbol.ensures))

pub returns-in_err-options : goal.returns-in_err-options
returns-in_err-options c =
    let p = err_from_is_err_and c.from_residual-in_err-options.result
    c.from_residual-in_err-options.ensures.1 in
    rw (p.1, p.2)
    (fails_bracketed c.args.levels c.in_err-options.field-0.0 (left c.args.tokens.now)
    (left c.assignments.new.tokens) (left c.symbol.new.self) c.in_ok-symbol.ensures
    c.in_err-options.ensures)

pub returns-in_err-symbol-2 : goal.returns-in_err-symbol-2
unfolding nest.bracketed_options
returns-in_err-symbol-2 c =
    let p = err_from_is_err_and c.from_residual-in_err-symbol-2.result
    c.from_residual-in_err-symbol-2.ensures.1 in
    rw (p.1, p.2, c.in_ok-symbol.ensures, c.in_ok-options.ensures)
    (inl (fails_first c.in_err-symbol-2.field-0.0 _ _ _ c.in_err-symbol-2.ensures))
