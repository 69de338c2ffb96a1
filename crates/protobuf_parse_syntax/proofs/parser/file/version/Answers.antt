use Rattle.std.proofs.Common.{inl, sym, ◌∙◌}
use Rattle.std.proofs.lemmas.Result.{err_from_is_err_and}
use Rattle.protobuf_parse_syntax.specs.Code.{left}
use Rattle.protobuf_parse_syntax.proofs.TextFaults.{version_runs, fails_syntax_word, fails_equals}
use Rattle.protobuf_parse_syntax.proofs.TextFaults.{fails_said, fails_syntax_end}
use Rattle.protobuf_parse_syntax.proofs.parser.file.version.Goals as goal

pub returns-in_err-word : goal.returns-in_err-word
returns-in_err-word c =
    let p = err_from_is_err_and c.from_residual.result c.from_residual.ensures.1 in
    rw (
      p.1,
      p.2,
      version_runs (left c.args.tokens.now)
          (sym c.sees_word.ensures ∙ c.if-not-sees_word.false),
    ) (inl
    (fails_syntax_word c.in_err-word.field-0.0 (left c.args.tokens.now)
    (left c.word.new.self) c.in_err-word.ensures))

pub returns-in_err-symbol : goal.returns-in_err-symbol
returns-in_err-symbol c =
    let p = err_from_is_err_and c.from_residual-in_err-symbol.result
    c.from_residual-in_err-symbol.ensures.1 in
    rw (
      p.1,
      p.2,
      version_runs (left c.args.tokens.now)
          (sym c.sees_word.ensures ∙ c.if-not-sees_word.false),
    ) (inl
    (fails_equals c.in_err-symbol.field-0.0 (left c.args.tokens.now) (left c.symbol.new.self)
    (left c.word.new.self) c.in_ok-word.ensures c.in_err-symbol.ensures))

pub returns-in_err-syntax : goal.returns-in_err-syntax
returns-in_err-syntax c =
    let p = err_from_is_err_and c.from_residual-in_err-syntax.result
    c.from_residual-in_err-syntax.ensures.1 in
    rw (
      p.1,
      p.2,
      version_runs (left c.args.tokens.now)
          (sym c.sees_word.ensures ∙ c.if-not-sees_word.false),
    ) (fails_said c.in_err-syntax.field-0.0
    (left c.args.tokens.now) (left c.word.new.self) (left c.symbol.new.self)
    (left c.said.new.tokens) c.in_ok-word.ensures c.in_ok-symbol.ensures
    c.in_err-syntax.ensures)

pub returns-in_err-symbol-2 : goal.returns-in_err-symbol-2
returns-in_err-symbol-2 c =
    let p = err_from_is_err_and c.from_residual-in_err-symbol-2.result
    c.from_residual-in_err-symbol-2.ensures.1 in
    rw (
      p.1,
      p.2,
      version_runs (left c.args.tokens.now)
          (sym c.sees_word.ensures ∙ c.if-not-sees_word.false),
    ) (inl
    (fails_syntax_end c.in_err-symbol-2.field-0.0 (left c.args.tokens.now)
    (left c.symbol-2.new.self) (left c.word.new.self) (left c.symbol.new.self)
    (left c.said.new.tokens) c.in_ok-syntax.syntax c.in_ok-word.ensures c.in_ok-symbol.ensures
    c.in_ok-syntax.ensures c.in_err-symbol-2.ensures))
