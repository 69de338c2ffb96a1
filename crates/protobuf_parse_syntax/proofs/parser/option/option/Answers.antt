use Rattle.std.proofs.lemmas.Result.{err_from_is_err_and}
use Rattle.protobuf_parse_syntax.specs.Trees.{option_syntax}
use Rattle.protobuf_parse_syntax.specs.Code.{left}
use Rattle.protobuf_parse_syntax.proofs.OptionFaults.{fails_option_word, fails_assignment}
use Rattle.protobuf_parse_syntax.proofs.OptionFaults.{fails_option_end}
use Rattle.protobuf_parse_syntax.proofs.parser.option.option.Goals as goal

pub returns-in_err-word : goal.returns-in_err-word
returns-in_err-word c =
    let p = err_from_is_err_and c.from_residual.result c.from_residual.ensures.1 in
    rw (p.1, p.2)
    (fails_option_word c.args.levels c.in_err-word.field-0.0 (left c.args.tokens.now)
    (left c.word.new.self) c.in_err-word.ensures)

pub returns-in_err-option : goal.returns-in_err-option
returns-in_err-option c =
    let p = err_from_is_err_and c.from_residual-in_err-option.result
    c.from_residual-in_err-option.ensures.1 in
    rw (p.1, p.2)
    (fails_assignment c.args.levels c.in_err-option.field-0.0 (left c.args.tokens.now)
    (left c.assignment.new.tokens) (left c.word.new.self) c.in_ok-word.ensures
    c.in_err-option.ensures)

pub returns-in_err-symbol : goal.returns-in_err-symbol
returns-in_err-symbol c =
    let p = err_from_is_err_and c.from_residual-in_err-symbol.result
    c.from_residual-in_err-symbol.ensures.1 in
    rw (p.1, p.2)
    (fails_option_end c.args.levels c.in_err-symbol.field-0.0 (left c.args.tokens.now)
    (left c.symbol.new.self) (left c.word.new.self) (left c.assignment.new.tokens)
    (option_syntax c.in_ok-option.option) c.in_ok-word.ensures c.in_ok-option.ensures
    c.in_err-symbol.ensures)
