use Rattle.std.proofs.lemmas.Result.{err_from_is_err_and}
use Rattle.protobuf_parse_syntax.specs.Trees.{reserved_syntax}
use Rattle.protobuf_parse_syntax.specs.Code.{left}
use Rattle.protobuf_parse_syntax.proofs.TextFaults.{fails_reserved_word, fails_reserved_items}
use Rattle.protobuf_parse_syntax.proofs.TextFaults.{fails_reserved_end}
use Rattle.protobuf_parse_syntax.proofs.parser.enumeration.reserved.Goals as goal

pub returns-in_err-word : goal.returns-in_err-word
returns-in_err-word c =
    let p = err_from_is_err_and c.from_residual.result c.from_residual.ensures.1 in
    rw (p.1, p.2)
    (fails_reserved_word c.in_err-word.field-0.0 (left c.args.tokens.now)
    (left c.word.new.self) c.in_err-word.ensures)

pub returns-in_err-reserved : goal.returns-in_err-reserved
returns-in_err-reserved c =
    let p = err_from_is_err_and c.from_residual-in_err-reserved.result
    c.from_residual-in_err-reserved.ensures.1 in
    rw (p.1, p.2)
    (fails_reserved_items c.in_err-reserved.field-0.0 (left c.args.tokens.now)
    (left c.word.new.self) (left c.reserved_items.new.tokens) c.in_ok-word.ensures
    c.in_err-reserved.ensures)

pub returns-in_err-symbol : goal.returns-in_err-symbol
returns-in_err-symbol c =
    let p = err_from_is_err_and c.from_residual-in_err-symbol.result
    c.from_residual-in_err-symbol.ensures.1 in
    rw (p.1, p.2)
    (fails_reserved_end c.in_err-symbol.field-0.0 (left c.args.tokens.now)
    (left c.symbol.new.self) (left c.word.new.self) (left c.reserved_items.new.tokens)
    (reserved_syntax c.in_ok-reserved.reserved) c.in_ok-word.ensures c.in_ok-reserved.ensures
    c.in_err-symbol.ensures)
