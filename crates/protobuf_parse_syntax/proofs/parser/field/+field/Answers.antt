use Rattle.std.proofs.Common.{◌≡◌, List, [], map, not, is_some, false, refl, sym, ap, ◌∙◌, subst}
use Rattle.std.proofs.lemmas.Bool.{false≢true}
use Rattle.std.proofs.lemmas.Result.{err_from_is_err_and}
use Rattle.protobuf_parse_grammar.specs.Relations.{somes}
use Rattle.protobuf_parse_grammar.specs.Combinators.{shorter, run_many}
use Rattle.protobuf_parse_grammar.specs.Loops.{with_rest, shows_somes, goes_on, stops_here}
use Rattle.protobuf_parse_lexer.specs.Text.{seen_by}
use Rattle.protobuf_parse_syntax.specs.Trees.{FieldStatementSyntax, field_statement_syntax}
use Rattle.protobuf_parse_syntax.specs.Nested as nest
use Rattle.protobuf_parse_syntax.specs.Code.{left, Gives, fails_first}
use Rattle.protobuf_parse_syntax.proofs.Loops.{pushed, fails}
use Rattle.protobuf_parse_syntax.proofs.Fields.{field_absent, field_mapped, none_found}
use Rattle.protobuf_parse_syntax.proofs.Fields.{field_behind, field_items_law, field_block_law}
use Rattle.protobuf_parse_syntax.specs.declared.tree.Syntax.TheVariants.{Proto2}
use Rattle.protobuf_parse_syntax.proofs.parser.field.+field.Goals as goal
use Rattle.protobuf_parse_syntax.proofs.parser.field.+field.Goals.{field_of-else-is_none-via-then-is_none+else-matches}
use Rattle.protobuf_parse_syntax.proofs.parser.field.+field.Goals.{field_of-else-is_none-via-else-is_none}
use Rattle.protobuf_parse_syntax.proofs.parser.field.+field.Goals.{field_of-in-Proto2}
use Rattle.protobuf_parse_syntax.proofs.parser.field.+field.Goals.{field_of-in_default}

pub field_of-returns-then-not-begins_field : goal.field_of-returns-then-not-begins_field
field_of-returns-then-not-begins_field t c =
    field_absent c.args.syntax c.args.inner (left c.args.tokens.now)
    (sym c.begins_field.ensures ∙ c.if-not-begins_field.true)

pub field_of-returns-then-matches : goal.field_of-returns-then-matches
field_of-returns-then-matches t c =
    let old : c.args.syntax ≡ Proto2 = elim c.match-matches.branch [
      | field_of-in-Proto2 w ↦ w.in-Proto2.is
      | field_of-in_default w ↦ absurd
          cc
    ] in
    let none : is_some c.label-label.result ≡ false =
    c.is_none.ensures ∙ ap not c.if-is_none.true in
    subst (λ r. Gives field_statement_syntax c.map_field.result (left c.map_field.new.tokens) r)
    (sym (field_mapped c.args.syntax c.args.levels c.args.inner (left c.args.tokens.now)
    (left c.label-label.new.tokens) c.place-place.result old c.requires c.place-place.ensures
    (none_found c.args.syntax c.label-label.result (left c.args.tokens.now)
    (left c.label-label.new.tokens) none c.label-label.ensures))) c.map_field.ensures

pub field_of-returns : goal.field_of-returns
field_of-returns t c =
    let none : is_some c.label-label.result ≡ not c.is_none.result = c.is_none.ensures in
    let new : is_some c.label-label.result ≡ false → c.args.syntax ≡ Proto2 → ⊥ = λ e f.
    elim c.else-is_none.branch [
      | field_of-else-is_none-via-then-is_none+else-matches w ↦ elim w.match-matches.branch [
        | field_of-in-Proto2 v ↦ absurd cc
        | field_of-in_default v ↦ absurd (v.in_default.not-Proto2 f)
      ]
      | field_of-else-is_none-via-else-is_none w ↦ absurd
          (false≢true (sym e ∙ none ∙ ap not w.if-is_none.false))
    ] in
    subst (λ r. Gives field_statement_syntax c.after_label.result (left c.after_label.new.tokens) r)
    (sym (field_behind c.args.syntax c.args.levels c.args.inner (left c.args.tokens.now)
    (left c.label-label.new.tokens) c.place-place.result c.label-label.result new c.requires
    c.place-place.ensures (sym c.begins_field.ensures ∙ c.if-not-begins_field.false)
    c.label-label.ensures)) c.after_label.ensures

pub field_statements-items-init : goal.field_statements-items-init
field_statements-items-init t c =
    let e : map field_statement_syntax c.new-fields.result.items
    ≡ [] = ap (map field_statement_syntax) c.new-fields.ensures.items in
    field_items_law c.args.syntax c.args.levels (left c.args.tokens.now)
    ∙ ap (λ (v : List FieldStatementSyntax). with_rest somes
    (λ (x : List FieldStatementSyntax). x) v
    (run_many (nest.field_item_of c.args.syntax (nest.fields c.args.syntax c.args.levels)).low
    (left c.args.tokens.now))) (sym e)

pub field_statements-returns-in_err-item : goal.field_statements-returns-in_err-item
field_statements-returns-in_err-item t c =
    let p = err_from_is_err_and c.from_residual.result c.from_residual.ensures.1 in
    rw (p.1, p.2)
    (fails (nest.field_item_of c.args.syntax (nest.fields c.args.syntax c.args.levels)).low refl
    somes shows_somes (λ (v : List FieldStatementSyntax). v)
    (map field_statement_syntax c.items.fields.items) (left c.items.tokens)
    (left c.field_item.new.tokens) c.in_err-item.field-0.0 _
    (sym c.begins_field_item.ensures ∙ c.items-test.true) c.in_err-item.ensures
    c.items.invariant)

pub field_statements-items-smaller : goal.field_statements-items-smaller
field_statements-items-smaller t c =
    shorter (nest.field_item_of c.args.syntax (nest.fields c.args.syntax c.args.levels)).low refl
    (left c.items.tokens) (seen_by field_statement_syntax c.in_ok-item.item)
    (left c.field_item.new.tokens) c.in_ok-item.ensures

pub field_statements-items-preserved : goal.field_statements-items-preserved
field_statements-items-preserved t c =
    goes_on (nest.field_item_of c.args.syntax (nest.fields c.args.syntax c.args.levels)).low refl
    somes shows_somes (λ (v : List FieldStatementSyntax). v)
    (map field_statement_syntax c.items.fields.items) _ (left c.items.tokens)
    (seen_by field_statement_syntax c.in_ok-item.item) (left c.field_item.new.tokens) _
    (sym c.begins_field_item.ensures ∙ c.items-test.true) c.in_ok-item.ensures
    (pushed field_statement_syntax c.items.fields.items c.push_some.new.list.items
    c.in_ok-item.item c.in_ok-push_some.ensures) c.items.invariant

pub field_statements-returns : goal.field_statements-returns
field_statements-returns t c =
    stops_here (nest.field_item_of c.args.syntax (nest.fields c.args.syntax c.args.levels)).low refl
    somes shows_somes (λ (v : List FieldStatementSyntax). v)
    (map field_statement_syntax c.items.fields.items) (left c.items.tokens) _
    (sym c.begins_field_item.ensures ∙ c.items-test.false) c.items.invariant

pub group-returns-in_err-name : goal.group-returns-in_err-name
unfolding nest.group_of
group-returns-in_err-name t c =
    let p = err_from_is_err_and c.from_residual.result c.from_residual.ensures.1 in
    rw (p.1, p.2) (fails_first c.in_err-name.field-0.0 _ _ _ c.in_err-name.ensures)

pub group-returns-in_err-symbol : goal.group-returns-in_err-symbol
unfolding nest.group_of
group-returns-in_err-symbol t c =
    let p = err_from_is_err_and c.from_residual-in_err-symbol.result
    c.from_residual-in_err-symbol.ensures.1 in
    rw (p.1, p.2, c.in_ok-name.ensures)
    (fails_first c.in_err-symbol.field-0.0 _ _ _ c.in_err-symbol.ensures)

pub group-returns-in_err-number : goal.group-returns-in_err-number
unfolding nest.group_of
group-returns-in_err-number t c =
    let p = err_from_is_err_and c.from_residual-in_err-number.result
    c.from_residual-in_err-number.ensures.1 in
    rw (p.1, p.2, c.in_ok-name.ensures, c.in_ok-symbol.ensures)
    (fails_first c.in_err-number.field-0.0 _ _ _ c.in_err-number.ensures)

pub group-returns-in_err-fields : goal.group-returns-in_err-fields
unfolding nest.group_of
group-returns-in_err-fields t c =
    let p = err_from_is_err_and c.from_residual-in_err-fields.result
    c.from_residual-in_err-fields.ensures.1 in
    rw (p.1, p.2, c.in_ok-name.ensures, c.in_ok-symbol.ensures, c.in_ok-number.ensures)
    (fails_first c.in_err-fields.field-0.0 _ _ _ c.in_err-fields.ensures)

pub after_label-returns-in_err-group : goal.after_label-returns-in_err-group
unfolding nest.after_label
after_label-returns-in_err-group t c =
    let p = err_from_is_err_and c.from_residual.result c.from_residual.ensures.1 in
    rw (p.1, p.2, sym c.sees_word.ensures ∙ c.if-sees_word.true) c.in_err-group.ensures

pub group_body-returns-in_err-symbol : goal.group_body-returns-in_err-symbol
group_body-returns-in_err-symbol t c =
    let p = err_from_is_err_and c.from_residual.result c.from_residual.ensures.1 in
    rw (p.1, p.2, field_block_law c.args.syntax c.args.levels (left c.args.tokens.now))
    (fails_first c.in_err-symbol.field-0.0 _ _ _ c.in_err-symbol.ensures)

pub group_body-returns-in_err-fields : goal.group_body-returns-in_err-fields
group_body-returns-in_err-fields t c =
    let p = err_from_is_err_and c.from_residual-in_err-fields.result
    c.from_residual-in_err-fields.ensures.1 in
    rw (
      p.1,
      p.2,
      field_block_law c.args.syntax c.args.levels (left c.args.tokens.now),
      c.in_ok-symbol.ensures,
    ) (fails_first c.in_err-fields.field-0.0 _ _ _
    c.in_err-fields.ensures)

pub group_body-returns-in_err-symbol_or : goal.group_body-returns-in_err-symbol_or
group_body-returns-in_err-symbol_or t c =
    let p = err_from_is_err_and c.from_residual-in_err-symbol_or.result
    c.from_residual-in_err-symbol_or.ensures.1 in
    rw (
      p.1,
      p.2,
      field_block_law c.args.syntax c.args.levels (left c.args.tokens.now),
      c.in_ok-symbol.ensures,
      c.in_ok-fields.ensures,
    ) (fails_first c.in_err-symbol_or.field-0.0 _ _ _
    c.in_err-symbol_or.ensures)
