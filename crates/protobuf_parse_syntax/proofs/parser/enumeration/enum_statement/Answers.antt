use Rattle.std.proofs.Common.{sym, ◌∙◌}
use Rattle.std.proofs.lemmas.Result.{err_from_is_err_and}
use Rattle.protobuf_parse_syntax.specs.Nested as nest
use Rattle.protobuf_parse_syntax.specs.Code.{fails_first}
use Rattle.protobuf_parse_syntax.proofs.parser.enumeration.enum_statement.Goals as goal

pub returns-in_err-reserved : goal.returns-in_err-reserved
unfolding nest.enum_statement
returns-in_err-reserved c =
    let p = err_from_is_err_and c.from_residual.result c.from_residual.ensures.1 in
    rw (p.1, p.2, sym c.sees_word.ensures ∙ c.if-sees_word.true)
    (fails_first c.in_err-reserved.field-0.0 _ _ _ c.in_err-reserved.ensures)

pub returns-in_err-option : goal.returns-in_err-option
unfolding nest.enum_statement
returns-in_err-option c =
    let p = err_from_is_err_and c.from_residual-in_err-option.result
    c.from_residual-in_err-option.ensures.1 in
    rw (
      p.1,
      p.2,
      sym c.sees_word.ensures ∙ c.if-sees_word.false,
      sym c.sees_word-2.ensures
          ∙ c.if-sees_word-2.true,
    ) (fails_first c.in_err-option.field-0.0 _ _ _
    c.in_err-option.ensures)

pub returns-in_err-enum_value : goal.returns-in_err-enum_value
unfolding nest.enum_statement
returns-in_err-enum_value c =
    let p = err_from_is_err_and c.from_residual-in_err-enum_value.result
    c.from_residual-in_err-enum_value.ensures.1 in
    rw (
      p.1,
      p.2,
      sym c.sees_word.ensures ∙ c.if-sees_word.false,
      sym c.sees_word-2.ensures
          ∙ c.if-sees_word-2.false,
    ) (fails_first c.in_err-enum_value.field-0.0 _ _ _
    c.in_err-enum_value.ensures)
