use Rattle.std.proofs.Common.{sym, ◌∙◌}
use Rattle.std.proofs.lemmas.Result.{err_from_is_err_and}
use Rattle.protobuf_parse_syntax.specs.Nested as nest
use Rattle.protobuf_parse_syntax.specs.Code.{fails_first}
use Rattle.protobuf_parse_syntax.proofs.parser.file.file_statement.Goals as goal

pub returns-in_err-import : goal.returns-in_err-import
unfolding nest.file_statement
returns-in_err-import c =
    let p = err_from_is_err_and c.from_residual.result c.from_residual.ensures.1 in
    rw (p.1, p.2, sym c.sees_word.ensures ∙ c.if-sees_word.true)
    (fails_first c.in_err-import.field-0.0 _ _ _ c.in_err-import.ensures)

pub returns-in_err-package : goal.returns-in_err-package
unfolding nest.file_statement
returns-in_err-package c =
    let p = err_from_is_err_and c.from_residual-in_err-package.result
    c.from_residual-in_err-package.ensures.1 in
    rw (
      p.1,
      p.2,
      sym c.sees_word.ensures ∙ c.if-sees_word.false,
      sym c.sees_word-2.ensures
          ∙ c.if-sees_word-2.true,
    ) (fails_first c.in_err-package.field-0.0 _ _ _
    c.in_err-package.ensures)

pub returns-in_err-option : goal.returns-in_err-option
unfolding nest.file_statement
returns-in_err-option c =
    let p = err_from_is_err_and c.from_residual-in_err-option.result
    c.from_residual-in_err-option.ensures.1 in
    rw (
      p.1,
      p.2,
      sym c.sees_word.ensures ∙ c.if-sees_word.false,
      sym c.sees_word-2.ensures
          ∙ c.if-sees_word-2.false,
      sym c.sees_word-3.ensures
          ∙ c.if-sees_word-3.true,
    ) (fails_first c.in_err-option.field-0.0 _ _ _
    c.in_err-option.ensures)

pub returns-in_err-message : goal.returns-in_err-message
unfolding nest.file_statement
returns-in_err-message c =
    let p = err_from_is_err_and c.from_residual-in_err-message.result
    c.from_residual-in_err-message.ensures.1 in
    rw (
      p.1,
      p.2,
      sym c.sees_word.ensures ∙ c.if-sees_word.false,
      sym c.sees_word-2.ensures
          ∙ c.if-sees_word-2.false,
      sym c.sees_word-3.ensures
          ∙ c.if-sees_word-3.false,
      sym c.sees_word-4.ensures
          ∙ c.if-sees_word-4.true,
    ) (fails_first c.in_err-message.field-0.0 _ _ _
    c.in_err-message.ensures)

pub returns-in_err-enumeration : goal.returns-in_err-enumeration
unfolding nest.file_statement
returns-in_err-enumeration c =
    let p = err_from_is_err_and c.from_residual-in_err-enumeration.result
    c.from_residual-in_err-enumeration.ensures.1 in
    rw (
      p.1,
      p.2,
      sym c.sees_word.ensures ∙ c.if-sees_word.false,
      sym c.sees_word-2.ensures
          ∙ c.if-sees_word-2.false,
      sym c.sees_word-3.ensures
          ∙ c.if-sees_word-3.false,
      sym c.sees_word-4.ensures
          ∙ c.if-sees_word-4.false,
      sym c.sees_word-5.ensures
          ∙ c.if-sees_word-5.true,
    ) (fails_first c.in_err-enumeration.field-0.0 _ _ _
    c.in_err-enumeration.ensures)

pub returns-in_err-extend : goal.returns-in_err-extend
unfolding nest.file_statement
returns-in_err-extend c =
    let p = err_from_is_err_and c.from_residual-in_err-extend.result
    c.from_residual-in_err-extend.ensures.1 in
    rw (
      p.1,
      p.2,
      sym c.sees_word.ensures ∙ c.if-sees_word.false,
      sym c.sees_word-2.ensures
          ∙ c.if-sees_word-2.false,
      sym c.sees_word-3.ensures
          ∙ c.if-sees_word-3.false,
      sym c.sees_word-4.ensures
          ∙ c.if-sees_word-4.false,
      sym c.sees_word-5.ensures
          ∙ c.if-sees_word-5.false,
      sym c.sees_word-6.ensures
          ∙ c.if-sees_word-6.true,
    ) (fails_first c.in_err-extend.field-0.0 _ _ _
    c.in_err-extend.ensures)

pub returns-in_err-service : goal.returns-in_err-service
unfolding nest.file_statement
returns-in_err-service c =
    let p = err_from_is_err_and c.from_residual-in_err-service.result
    c.from_residual-in_err-service.ensures.1 in
    rw (
      p.1,
      p.2,
      sym c.sees_word.ensures ∙ c.if-sees_word.false,
      sym c.sees_word-2.ensures
          ∙ c.if-sees_word-2.false,
      sym c.sees_word-3.ensures
          ∙ c.if-sees_word-3.false,
      sym c.sees_word-4.ensures
          ∙ c.if-sees_word-4.false,
      sym c.sees_word-5.ensures
          ∙ c.if-sees_word-5.false,
      sym c.sees_word-6.ensures
          ∙ c.if-sees_word-6.false,
    ) (fails_first c.in_err-service.field-0.0 _ _ _
    c.in_err-service.ensures)
