use Rattle.std.proofs.lemmas.Result.{err_from_is_err_and}
use Rattle.protobuf_parse_syntax.specs.Nested as nest
use Rattle.protobuf_parse_syntax.specs.Code.{fails_first}
use Rattle.protobuf_parse_syntax.proofs.parser.enumeration.enumeration.Goals as goal

pub returns-in_err-word : goal.returns-in_err-word
unfolding nest.enumeration_pair
returns-in_err-word c =
    let p = err_from_is_err_and c.from_residual.result c.from_residual.ensures.1 in
    rw (p.1, p.2) (fails_first c.in_err-word.field-0.0 _ _ _ c.in_err-word.ensures)

pub returns-in_err-name : goal.returns-in_err-name
unfolding nest.enumeration_pair
returns-in_err-name c =
    let p = err_from_is_err_and c.from_residual-in_err-name.result
    c.from_residual-in_err-name.ensures.1 in
    rw (p.1, p.2, c.in_ok-word.ensures)
    (fails_first c.in_err-name.field-0.0 _ _ _ c.in_err-name.ensures)

pub returns-in_err-symbol : goal.returns-in_err-symbol
unfolding nest.enumeration_pair
returns-in_err-symbol c =
    let p = err_from_is_err_and c.from_residual-in_err-symbol.result
    c.from_residual-in_err-symbol.ensures.1 in
    rw (p.1, p.2, c.in_ok-word.ensures, c.in_ok-name.ensures)
    (fails_first c.in_err-symbol.field-0.0 _ _ _
    (fails_first c.in_err-symbol.field-0.0 _ _ _ c.in_err-symbol.ensures))

pub returns-in_err-body : goal.returns-in_err-body
unfolding nest.enumeration_pair
returns-in_err-body c =
    let p = err_from_is_err_and c.from_residual-in_err-body.result
    c.from_residual-in_err-body.ensures.1 in
    rw (p.1, p.2, c.in_ok-word.ensures, c.in_ok-name.ensures, c.in_ok-symbol.ensures)
    (fails_first c.in_err-body.field-0.0 _ _ _
    (fails_first c.in_err-body.field-0.0 _ _ _ c.in_err-body.ensures))

pub returns-in_err-symbol-2 : goal.returns-in_err-symbol-2
unfolding nest.enumeration_pair
returns-in_err-symbol-2 c =
    let p = err_from_is_err_and c.from_residual-in_err-symbol-2.result
    c.from_residual-in_err-symbol-2.ensures.1 in
    rw (
      p.1,
      p.2,
      c.in_ok-word.ensures,
      c.in_ok-name.ensures,
      c.in_ok-symbol.ensures,
      c.in_ok-body.ensures,
    ) (fails_first c.in_err-symbol-2.field-0.0 _ _ _
    (fails_first c.in_err-symbol-2.field-0.0 _ _ _ c.in_err-symbol-2.ensures))
