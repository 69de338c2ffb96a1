use Rattle.std.proofs.Common.{inl}
use Rattle.std.proofs.lemmas.Result.{err_from_is_err_and}
use Rattle.protobuf_parse_syntax.specs.Code.{left, fails_first}
use Rattle.protobuf_parse_syntax.proofs.TextFaults.{comma_gives}
use Rattle.protobuf_parse_syntax.proofs.parser.enumeration.comma_name.Goals as goal

pub returns-in_err-symbol : goal.returns-in_err-symbol
returns-in_err-symbol c =
    let p = err_from_is_err_and c.from_residual.result c.from_residual.ensures.1 in
    rw (p.1, p.2)
    (inl (fails_first c.in_err-symbol.field-0.0 _ _ _ c.in_err-symbol.ensures))

pub returns : goal.returns
returns c = comma_gives c.text.result (left c.args.tokens.now) (left c.symbol.new.self)
    (left c.text.new.tokens) c.in_ok-symbol.ensures c.text.ensures
