use Rattle.std.proofs.Common.{sym, subst, inl, ◌∙◌}
use Rattle.std.proofs.lemmas.Result.{err_from_is_err_and}
use Rattle.protobuf_parse_base.specs.DeclaredNames.{name_bytes}
use Rattle.protobuf_parse_syntax.specs.Code.{left, Gives}
use Rattle.protobuf_parse_syntax.proofs.GroupNames.{fails_group_word, capital_name, fails_low}
use Rattle.protobuf_parse_syntax.proofs.GroupNames.{no_name}
use Rattle.protobuf_parse_syntax.proofs.parser.field.group_name.Goals as goal

pub returns-in_err-word : goal.returns-in_err-word
returns-in_err-word c =
    let p = err_from_is_err_and c.from_residual.result c.from_residual.ensures.1 in
    rw (p.1, p.2)
    (fails_group_word c.in_err-word.field-0.0 (left c.args.tokens.now) (left c.word.new.self)
    c.in_err-word.ensures)

pub returns-in-Some : goal.returns-in-Some
returns-in-Some c =
    subst (λ r. Gives name_bytes c.ident_name.result (left c.ident_name.new.self) r)
    (sym (capital_name (left c.args.tokens.now) (left c.word.new.self) c.in_ok-word.ensures
    c.in-Some.name.now c.in-Some.ensures
    (sym c.begins_with_capital.ensures ∙ c.if-begins_with_capital.true)))
    c.ident_name.ensures

pub returns-in-Some-2 : goal.returns-in-Some-2
returns-in-Some-2 c =
    fails_low (left c.args.tokens.now) (left c.word.new.self) c.in_ok-word.ensures
    c.in-Some.name.now c.in-Some.ensures
    (sym c.begins_with_capital.ensures ∙ c.if-begins_with_capital.false)

pub returns-in-None : goal.returns-in-None
returns-in-None c =
    inl (
      no_name (left c.args.tokens.now) (left c.word.new.self) c.in_ok-word.ensures
          c.in-None.ensures,
      tt,
    )
