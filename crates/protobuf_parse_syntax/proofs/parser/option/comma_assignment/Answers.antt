use Rattle.std.proofs.Common.{inl}
use Rattle.std.proofs.lemmas.Result.{err_from_is_err_and}
use Rattle.protobuf_parse_syntax.specs.Code.{left, fails_first}
use Rattle.protobuf_parse_syntax.proofs.OptionFaults.{comma_option}
use Rattle.protobuf_parse_syntax.proofs.parser.option.comma_assignment.Goals as goal

pub returns-in_err-symbol : goal.returns-in_err-symbol
returns-in_err-symbol c =
    let p = err_from_is_err_and c.from_residual.result c.from_residual.ensures.1 in
    rw (p.1, p.2)
    (inl (fails_first c.in_err-symbol.field-0.0 _ _ _ c.in_err-symbol.ensures))

pub returns : goal.returns
returns c = comma_option c.args.levels c.assignment.result (left c.args.tokens.now)
    (left c.symbol.new.self)
    (left c.assignment.new.tokens) c.in_ok-symbol.ensures c.assignment.ensures
