use Rattle.std.proofs.Common.{sym, ap, ◌∙◌}
use Rattle.std.proofs.lemmas.Result.{err_from_is_err_and}
use Rattle.protobuf_parse_grammar.specs.Readers.{read}
use Rattle.protobuf_parse_syntax.specs.Nested as nest
use Rattle.protobuf_parse_syntax.specs.Trees as tree
use Rattle.protobuf_parse_syntax.specs.Fields.{type_named}
use Rattle.protobuf_parse_syntax.specs.Code.{left, fails_first}
use Rattle.protobuf_parse_syntax.proofs.FieldViews.{views_named}
use Rattle.protobuf_parse_syntax.proofs.parser.field.+types.Goals as goal

pub type_of-returns-in_err-name-in-None : goal.type_of-returns-in_err-name-in-None
type_of-returns-in_err-name-in-None t c =
    let p = err_from_is_err_and c.from_residual.result c.from_residual.ensures.1 in
    let s = c.in-None.ensures.1 in
    let e = type_named c.args.levels (left c.scalar.new.tokens) (rw s c.in-None.ensures.0)
    (sym c.sees_word.ensures ∙ c.if-sees_word.false) in
    rw (p.1, p.2, ← s, e)
    (fails_first c.in_err-name-in-None.field-0.0 _ _ _ c.in_err-name-in-None.ensures)

pub type_of-returns-in_ok-name-in-None : goal.type_of-returns-in_ok-name-in-None
type_of-returns-in_ok-name-in-None t c =
    let v = views_named c.in_ok-name-in-None.field-0 in
    let s = c.in-None.ensures.1 in
    let e = type_named c.args.levels (left c.scalar.new.tokens) (rw s c.in-None.ensures.0)
    (sym c.sees_word.ensures ∙ c.if-sees_word.false) in
    rw (← s)
    (e ∙ rw c.in_ok-name-in-None.ensures
    (ap (λ (z : tree.TypeSyntax). read z (left c.name.new.tokens)) (sym v)))

pub map-returns-in_err-word : goal.map-returns-in_err-word
unfolding nest.map_of
map-returns-in_err-word t c =
    let p = err_from_is_err_and c.from_residual.result c.from_residual.ensures.1 in
    rw (p.1, p.2) (fails_first c.in_err-word.field-0.0 _ _ _ c.in_err-word.ensures)

pub map-returns-in_err-symbol : goal.map-returns-in_err-symbol
unfolding nest.map_of
map-returns-in_err-symbol t c =
    let p = err_from_is_err_and c.from_residual-in_err-symbol.result
    c.from_residual-in_err-symbol.ensures.1 in
    rw (p.1, p.2, c.in_ok-word.ensures)
    (fails_first c.in_err-symbol.field-0.0 _ _ _ c.in_err-symbol.ensures)

pub map-returns-in_err-key : goal.map-returns-in_err-key
unfolding nest.map_of
map-returns-in_err-key t c =
    let p = err_from_is_err_and c.from_residual-in_err-key.result
    c.from_residual-in_err-key.ensures.1 in
    rw (p.1, p.2, c.in_ok-word.ensures, c.in_ok-symbol.ensures)
    (fails_first c.in_err-key.field-0.0 _ _ _ c.in_err-key.ensures)

pub map-returns-in_err-symbol-2 : goal.map-returns-in_err-symbol-2
unfolding nest.map_of
map-returns-in_err-symbol-2 t c =
    let p = err_from_is_err_and c.from_residual-in_err-symbol-2.result
    c.from_residual-in_err-symbol-2.ensures.1 in
    rw (p.1, p.2, c.in_ok-word.ensures, c.in_ok-symbol.ensures, c.in_ok-key.ensures)
    (fails_first c.in_err-symbol-2.field-0.0 _ _ _ c.in_err-symbol-2.ensures)

pub map-returns-in_err-value : goal.map-returns-in_err-value
unfolding nest.map_of
map-returns-in_err-value t c =
    let p = err_from_is_err_and c.from_residual-in_err-value.result
    c.from_residual-in_err-value.ensures.1 in
    rw (
      p.1,
      p.2,
      c.in_ok-word.ensures,
      c.in_ok-symbol.ensures,
      c.in_ok-key.ensures,
      c.in_ok-symbol-2.ensures,
    ) (fails_first c.in_err-value.field-0.0 _ _ _
    c.in_err-value.ensures)

pub map-returns-in_err-symbol-3 : goal.map-returns-in_err-symbol-3
unfolding nest.map_of
map-returns-in_err-symbol-3 t c =
    let p = err_from_is_err_and c.from_residual-in_err-symbol-3.result
    c.from_residual-in_err-symbol-3.ensures.1 in
    rw (
      p.1,
      p.2,
      c.in_ok-word.ensures,
      c.in_ok-symbol.ensures,
      c.in_ok-key.ensures,
      c.in_ok-symbol-2.ensures,
      c.in_ok-value.ensures,
    ) (fails_first c.in_err-symbol-3.field-0.0 _ _ _
    c.in_err-symbol-3.ensures)
