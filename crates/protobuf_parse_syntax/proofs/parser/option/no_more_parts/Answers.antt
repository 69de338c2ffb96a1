use Rattle.std.proofs.Common.{inl, inr, sym, ◌∙◌}
use Rattle.std.proofs.lemmas.Result.{err_from_is_err_and}
use Rattle.protobuf_parse_syntax.specs.Productions.{parts_up_to}
use Rattle.protobuf_parse_syntax.specs.Code.{left}
use Rattle.protobuf_parse_syntax.proofs.Parts.{parts_end, parts_full, fails_at_dot, tells_full}
use Rattle.protobuf_parse_syntax.proofs.parser.option.no_more_parts.Goals as goal

pub returns-then-not-sees_symbol : goal.returns-then-not-sees_symbol
returns-then-not-sees_symbol c =
    parts_end 0 (left c.args.tokens.now) (sym c.sees_symbol.ensures ∙ c.if-not-sees_symbol.true)

pub returns-in_err-symbol : goal.returns-in_err-symbol
returns-in_err-symbol c =
    let p = err_from_is_err_and c.from_residual.result c.from_residual.ensures.1 in
    rw (p.1, p.2)
    (inl (fails_at_dot (left c.args.tokens.now)
    (left c.symbol.new.self) c.in_err-symbol.field-0.0
    ((parts_up_to 0).run (left c.args.tokens.now))
    (sym c.sees_symbol.ensures ∙ c.if-not-sees_symbol.false) c.in_err-symbol.ensures))

pub returns-then-begins_option_part : goal.returns-then-begins_option_part
returns-then-begins_option_part c =
    inr (tells_full (left c.args.tokens.now) (left c.symbol.new.self)
    (sym c.sees_symbol.ensures ∙ c.if-not-sees_symbol.false) c.in_ok-symbol.ensures
    (sym c.begins_option_part.ensures ∙ c.if-begins_option_part.true))

pub returns : goal.returns
returns c =
    inl (inl (
      parts_full (left c.args.tokens.now) (left c.symbol.new.self)
          (sym c.sees_symbol.ensures ∙ c.if-not-sees_symbol.false) c.in_ok-symbol.ensures
          (sym c.begins_option_part.ensures ∙ c.if-begins_option_part.false),
      tt,
    ))
