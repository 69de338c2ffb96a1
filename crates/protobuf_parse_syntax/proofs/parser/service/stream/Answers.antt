use Rattle.std.proofs.lemmas.Result.{err_from_is_err_and}
use Rattle.protobuf_parse_syntax.specs.Nested as nest
use Rattle.protobuf_parse_syntax.specs.Code.{fails_first}
use Rattle.protobuf_parse_syntax.proofs.parser.service.stream.Goals as goal

pub returns-in_err-word : goal.returns-in_err-word
unfolding nest.stream
returns-in_err-word c =
    let p = err_from_is_err_and c.from_residual.result c.from_residual.ensures.1 in
    rw (p.1, p.2) (fails_first c.in_err-word.field-0.0 _ _ _ c.in_err-word.ensures)

pub returns-in_err-method_name : goal.returns-in_err-method_name
unfolding nest.stream
returns-in_err-method_name c =
    let p = err_from_is_err_and c.from_residual-in_err-method_name.result
    c.from_residual-in_err-method_name.ensures.1 in
    rw (p.1, p.2, c.in_ok-word.ensures)
    (fails_first c.in_err-method_name.field-0.0 _ _ _ c.in_err-method_name.ensures)

pub returns-in_err-symbol : goal.returns-in_err-symbol
unfolding nest.stream
returns-in_err-symbol c =
    let p = err_from_is_err_and c.from_residual-in_err-symbol.result
    c.from_residual-in_err-symbol.ensures.1 in
    rw (p.1, p.2, c.in_ok-word.ensures, c.in_ok-method_name.ensures)
    (fails_first c.in_err-symbol.field-0.0 _ _ _ c.in_err-symbol.ensures)

pub returns-in_err-input : goal.returns-in_err-input
unfolding nest.stream
returns-in_err-input c =
    let p = err_from_is_err_and c.from_residual-in_err-input.result
    c.from_residual-in_err-input.ensures.1 in
    rw (p.1, p.2, c.in_ok-word.ensures, c.in_ok-method_name.ensures, c.in_ok-symbol.ensures)
    (fails_first c.in_err-input.field-0.0 _ _ _ c.in_err-input.ensures)

pub returns-in_err-symbol-2 : goal.returns-in_err-symbol-2
unfolding nest.stream
returns-in_err-symbol-2 c =
    let p = err_from_is_err_and c.from_residual-in_err-symbol-2.result
    c.from_residual-in_err-symbol-2.ensures.1 in
    rw (
      p.1,
      p.2,
      c.in_ok-word.ensures,
      c.in_ok-method_name.ensures,
      c.in_ok-symbol.ensures,
      c.in_ok-input.ensures,
    ) (fails_first c.in_err-symbol-2.field-0.0 _ _ _
    c.in_err-symbol-2.ensures)

pub returns-in_err-output : goal.returns-in_err-output
unfolding nest.stream
returns-in_err-output c =
    let p = err_from_is_err_and c.from_residual-in_err-output.result
    c.from_residual-in_err-output.ensures.1 in
    rw (
      p.1,
      p.2,
      c.in_ok-word.ensures,
      c.in_ok-method_name.ensures,
      c.in_ok-symbol.ensures,
      c.in_ok-input.ensures,
      c.in_ok-symbol-2.ensures,
    ) (fails_first c.in_err-output.field-0.0 _ _ _
    c.in_err-output.ensures)

pub returns-in_err-symbol-3 : goal.returns-in_err-symbol-3
unfolding nest.stream
returns-in_err-symbol-3 c =
    let p = err_from_is_err_and c.from_residual-in_err-symbol-3.result
    c.from_residual-in_err-symbol-3.ensures.1 in
    rw (
      p.1,
      p.2,
      c.in_ok-word.ensures,
      c.in_ok-method_name.ensures,
      c.in_ok-symbol.ensures,
      c.in_ok-input.ensures,
      c.in_ok-symbol-2.ensures,
      c.in_ok-output.ensures,
    ) (fails_first c.in_err-symbol-3.field-0.0 _ _ _
    c.in_err-symbol-3.ensures)

pub returns-in_err-options : goal.returns-in_err-options
unfolding nest.stream
returns-in_err-options c =
    let p = err_from_is_err_and c.from_residual-in_err-options.result
    c.from_residual-in_err-options.ensures.1 in
    rw (
      p.1,
      p.2,
      c.in_ok-word.ensures,
      c.in_ok-method_name.ensures,
      c.in_ok-symbol.ensures,
      c.in_ok-input.ensures,
      c.in_ok-symbol-2.ensures,
      c.in_ok-output.ensures,
      c.in_ok-symbol-3.ensures,
    ) (fails_first c.in_err-options.field-0.0 _ _ _
    c.in_err-options.ensures)
