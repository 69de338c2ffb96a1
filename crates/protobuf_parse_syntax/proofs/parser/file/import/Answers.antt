use Rattle.std.proofs.lemmas.Result.{err_from_is_err_and}
use Rattle.protobuf_parse_base.specs.PathViews.{path_buf_text}
use Rattle.protobuf_parse_syntax.specs.Code.{left}
use Rattle.protobuf_parse_syntax.proofs.TextFaults.{fails_import_word, fails_visibility}
use Rattle.protobuf_parse_syntax.proofs.TextFaults.{fails_import_path, fails_import_end}
use Rattle.protobuf_parse_syntax.proofs.parser.file.import.Goals as goal

pub returns-in_err-word : goal.returns-in_err-word
returns-in_err-word c =
    let p = err_from_is_err_and c.from_residual.result c.from_residual.ensures.1 in
    rw (p.1, p.2)
    (fails_import_word c.in_err-word.field-0.0 (left c.args.tokens.now)
    (left c.word.new.self) c.in_err-word.ensures)

pub returns-in_err-vis : goal.returns-in_err-vis
returns-in_err-vis c =
    let p = err_from_is_err_and c.from_residual-in_err-vis.result
    c.from_residual-in_err-vis.ensures.1 in
    rw (p.1, p.2)
    (fails_visibility c.in_err-vis.field-0.0 (left c.args.tokens.now)
    (left c.visibility.new.tokens)
    (left c.word.new.self) c.in_ok-word.ensures c.in_err-vis.ensures)

pub returns-in_err-path : goal.returns-in_err-path
returns-in_err-path c =
    let p = err_from_is_err_and c.from_residual-in_err-path.result
    c.from_residual-in_err-path.ensures.1 in
    rw (p.1, p.2)
    (fails_import_path c.in_err-path.field-0.0 (left c.args.tokens.now) (left c.word.new.self)
    (left c.visibility.new.tokens)
    (left c.path.new.tokens) c.in_ok-vis.vis c.in_ok-word.ensures c.in_ok-vis.ensures
    c.in_err-path.ensures)

pub returns-in_err-symbol : goal.returns-in_err-symbol
returns-in_err-symbol c =
    let p = err_from_is_err_and c.from_residual-in_err-symbol.result
    c.from_residual-in_err-symbol.ensures.1 in
    rw (p.1, p.2)
    (fails_import_end c.in_err-symbol.field-0.0 (left c.args.tokens.now)
    (left c.symbol.new.self) (left c.word.new.self) (left c.visibility.new.tokens)
    (left c.path.new.tokens) c.in_ok-vis.vis
    (path_buf_text c.in_ok-path.path) c.in_ok-word.ensures c.in_ok-vis.ensures
    c.in_ok-path.ensures c.in_err-symbol.ensures)
