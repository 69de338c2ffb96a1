use Rattle.std.proofs.lemmas.Result.{err_from_is_err_and}
use Rattle.protobuf_parse_syntax.specs.Trees.{option_name_syntax}
use Rattle.protobuf_parse_syntax.specs.Code.{left}
use Rattle.protobuf_parse_syntax.proofs.OptionFaults.{wrong_name, wrong_value}
use Rattle.protobuf_parse_syntax.proofs.parser.option.assignment.Goals as goal

pub returns-in_err-name : goal.returns-in_err-name
returns-in_err-name c =
    let p = err_from_is_err_and c.from_residual.result c.from_residual.ensures.1 in
    rw (p.1, p.2)
    (wrong_name c.args.levels c.in_err-name.field-0.0 (left c.args.tokens.now)
    (left c.option_name.new.tokens) c.in_err-name.ensures)

pub returns-in_err-value : goal.returns-in_err-value
returns-in_err-value c =
    let p = err_from_is_err_and c.from_residual-in_err-value.result
    c.from_residual-in_err-value.ensures.1 in
    rw (p.1, p.2)
    (wrong_value c.args.levels c.in_err-value.field-0.0 (left c.args.tokens.now)
    (left c.constant.new.tokens) (left c.option_name.new.tokens) (left c.symbol.new.self)
    (option_name_syntax c.in_ok-name.name) c.in_ok-name.ensures c.in_ok-symbol.ensures
    c.in_err-value.ensures)
