use Rattle.std.proofs.Common.{◌≡◌, List, map, None, false, codes, refl, inl, inr, sym, ◌∙◌, arith}
use Rattle.std.proofs.lemmas.List.{append-nil}
use Rattle.std.proofs.lemmas.Result.{err_from_is_err_and}
use Rattle.protobuf_parse_grammar.specs.Relations.{somes}
use Rattle.protobuf_parse_grammar.specs.Combinators.{shorter}
use Rattle.protobuf_parse_grammar.specs.Loops.{shows_somes, goes_on, stops_here}
use Rattle.protobuf_parse_lexer.specs.Text.{seen_by}
use Rattle.protobuf_parse_syntax.specs.Productions as parse
use Rattle.protobuf_parse_syntax.specs.Trees as tree
use Rattle.protobuf_parse_syntax.specs.Trees.{MessageStatementSyntax}
use Rattle.protobuf_parse_syntax.specs.InnerViews.{message_statement_syntax}
use Rattle.protobuf_parse_syntax.specs.Nested as nest
use Rattle.protobuf_parse_syntax.specs.Nested.{message_zero, message_more}
use Rattle.protobuf_parse_syntax.specs.Code.{left, too_deep, fails_first}
use Rattle.protobuf_parse_syntax.proofs.Loops.{pushed, fails}
use Rattle.protobuf_parse_syntax.proofs.Messages.{views_reserved, views_oneof, views_extend}
use Rattle.protobuf_parse_syntax.proofs.Messages.{views_message, views_enum, views_extensions}
use Rattle.protobuf_parse_syntax.proofs.Messages.{views_option, views_field}
use Rattle.protobuf_parse_syntax.proofs.Versions.{says, made_fails, made_reads, message_items_run}
use Rattle.protobuf_parse_syntax.proofs.Versions.{message_in_runs, message_reserved, message_oneof}
use Rattle.protobuf_parse_syntax.proofs.Versions.{message_extend, message_message, message_enum}
use Rattle.protobuf_parse_syntax.proofs.Versions.{message_extensions, message_option, message_field}
use Rattle.protobuf_parse_syntax.proofs.Versions.{message_normal, message_item_runs, puts_some}
use Rattle.protobuf_parse_syntax.specs.declared.tree.Syntax.TheVariants.{Proto2}
use Rattle.protobuf_parse_syntax.proofs.parser.message.+message.Goals as goal
use Rattle.protobuf_parse_syntax.proofs.parser.message.+message.Goals.{other_statement-in-Proto2}
use Rattle.protobuf_parse_syntax.proofs.parser.message.+message.Goals.{other_statement-in_default}
use Rattle.protobuf_parse_syntax.proofs.parser.message.+message.Goals.{other_statement-else-matches-via-then-matches+else-sees_word-6}
use Rattle.protobuf_parse_syntax.proofs.parser.message.+message.Goals.{other_statement-else-matches-via-else-matches}

pub message-returns-then-levels-eq0 : goal.message-returns-then-levels-eq0
message-returns-then-levels-eq0 t c = inr (
  too_deep,
  message_zero c.args.syntax c.args.levels (left c.args.tokens.now) (omega arith),
  inl (refl, refl),
)

pub message-returns : goal.message-returns
message-returns t c =
    rw (message_more c.args.syntax c.args.levels (left c.args.tokens.now) (omega arith))
    c.message_of.ensures

pub message_statements-items-init : goal.message_statements-items-init
message_statements-items-init t c =
    rw c.new-body.ensures.items
    (message_items_run c.args.syntax c.args.levels (left c.args.tokens.now))

pub message_statements-returns-in_err-message_item : goal.message_statements-returns-in_err-message_item
message_statements-returns-in_err-message_item t c =
    let p = err_from_is_err_and c.from_residual.result c.from_residual.ensures.1 in
    rw (p.1, p.2)
    (fails (nest.message_item c.args.syntax c.args.levels).low refl somes shows_somes
    (λ (v : List MessageStatementSyntax). v) (map message_statement_syntax c.items.body.items)
    (left c.items.tokens) (left c.message_item.new.tokens) c.in_err-message_item.field-0.0 _
    (sym c.begins_message_statement.ensures ∙ c.items-test.true) c.in_err-message_item.ensures
    c.items.invariant)

pub message_statements-items-smaller : goal.message_statements-items-smaller
message_statements-items-smaller t c =
    shorter (nest.message_item c.args.syntax c.args.levels).low refl (left c.items.tokens)
    (seen_by message_statement_syntax c.in_ok-message_item.ensures.0)
    (left c.message_item.new.tokens) c.in_ok-message_item.ensures.2

pub message_statements-items-preserved : goal.message_statements-items-preserved
message_statements-items-preserved t c =
    goes_on (nest.message_item c.args.syntax c.args.levels).low refl somes shows_somes
    (λ (v : List MessageStatementSyntax). v) (map message_statement_syntax c.items.body.items) _
    (left c.items.tokens) (seen_by message_statement_syntax c.in_ok-message_item.ensures.0)
    (left c.message_item.new.tokens) _
    (sym c.begins_message_statement.ensures ∙ c.items-test.true) c.in_ok-message_item.ensures.2
    (pushed message_statement_syntax c.items.body.items c.message_item.new.body.items
    c.in_ok-message_item.ensures.0 c.in_ok-message_item.ensures.1) c.items.invariant

pub message_statements-returns : goal.message_statements-returns
message_statements-returns t c =
    stops_here (nest.message_item c.args.syntax c.args.levels).low refl somes shows_somes
    (λ (v : List MessageStatementSyntax). v) (map message_statement_syntax c.items.body.items)
    (left c.items.tokens) _ (sym c.begins_message_statement.ensures ∙ c.items-test.false)
    c.items.invariant

pub other_statement-returns-in_err-reserved : goal.other_statement-returns-in_err-reserved
other_statement-returns-in_err-reserved t c =
    let p = err_from_is_err_and c.from_residual.result c.from_residual.ensures.1 in
    rw (p.1, p.2)
    (made_fails tree.message_reserved c.in_err-reserved.field-0.0 _
    (parse.reserved.run (left c.args.tokens.now)) _
    (message_reserved c.args.syntax c.args.levels (left c.args.tokens.now)
    (sym c.sees_word.ensures ∙ c.if-sees_word.true)) c.in_err-reserved.ensures)

pub other_statement-returns-then-sees_word : goal.other_statement-returns-then-sees_word
other_statement-returns-then-sees_word t c =
    made_reads tree.message_reserved _ _ _ (parse.reserved.run (left c.args.tokens.now)) _
    (message_reserved c.args.syntax c.args.levels (left c.args.tokens.now)
    (sym c.sees_word.ensures ∙ c.if-sees_word.true))
    c.in_ok-reserved.ensures (views_reserved c.in_ok-reserved.field-0)

pub other_statement-returns-in_err-oneof : goal.other_statement-returns-in_err-oneof
other_statement-returns-in_err-oneof t c =
    let p = err_from_is_err_and c.from_residual-in_err-oneof.result
    c.from_residual-in_err-oneof.ensures.1 in
    rw (p.1, p.2)
    (made_fails tree.message_oneof c.in_err-oneof.field-0.0 _
    ((nest.oneof c.args.syntax c.args.levels).low.run (left c.args.tokens.now)) _
    (message_oneof c.args.syntax c.args.levels (left c.args.tokens.now)
    (sym c.sees_word.ensures ∙ c.if-sees_word.false)
    (sym c.sees_word-2.ensures ∙ c.if-sees_word-2.true)) c.in_err-oneof.ensures)

pub other_statement-returns-then-sees_word-2 : goal.other_statement-returns-then-sees_word-2
other_statement-returns-then-sees_word-2 t c =
    made_reads tree.message_oneof _ _ _
    ((nest.oneof c.args.syntax c.args.levels).low.run (left c.args.tokens.now)) _
    (message_oneof c.args.syntax c.args.levels (left c.args.tokens.now)
    (sym c.sees_word.ensures ∙ c.if-sees_word.false)
    (sym c.sees_word-2.ensures ∙ c.if-sees_word-2.true))
    c.in_ok-oneof.ensures (views_oneof c.in_ok-oneof.field-0)

pub other_statement-returns-in_err-extend : goal.other_statement-returns-in_err-extend
other_statement-returns-in_err-extend t c =
    let p = err_from_is_err_and c.from_residual-in_err-extend.result
    c.from_residual-in_err-extend.ensures.1 in
    rw (p.1, p.2)
    (made_fails tree.message_extend c.in_err-extend.field-0.0 _
    ((nest.extend c.args.syntax c.args.levels).low.run (left c.args.tokens.now)) _
    (message_extend c.args.syntax c.args.levels (left c.args.tokens.now)
    (sym c.sees_word.ensures ∙ c.if-sees_word.false)
    (sym c.sees_word-2.ensures ∙ c.if-sees_word-2.false)
    (sym c.sees_word-3.ensures ∙ c.if-sees_word-3.true)) c.in_err-extend.ensures)

pub other_statement-returns-then-sees_word-3 : goal.other_statement-returns-then-sees_word-3
other_statement-returns-then-sees_word-3 t c =
    made_reads tree.message_extend _ _ _
    ((nest.extend c.args.syntax c.args.levels).low.run (left c.args.tokens.now)) _
    (message_extend c.args.syntax c.args.levels (left c.args.tokens.now)
    (sym c.sees_word.ensures ∙ c.if-sees_word.false)
    (sym c.sees_word-2.ensures ∙ c.if-sees_word-2.false)
    (sym c.sees_word-3.ensures ∙ c.if-sees_word-3.true))
    c.in_ok-extend.ensures (views_extend c.in_ok-extend.field-0)

pub other_statement-returns-in_err-message : goal.other_statement-returns-in_err-message
other_statement-returns-in_err-message t c =
    let p = err_from_is_err_and c.from_residual-in_err-message.result
    c.from_residual-in_err-message.ensures.1 in
    rw (p.1, p.2)
    (made_fails tree.nested_message c.in_err-message.field-0.0 _
    ((nest.message c.args.syntax c.args.levels).run (left c.args.tokens.now)) _
    (message_message c.args.syntax c.args.levels (left c.args.tokens.now)
    (sym c.sees_word.ensures ∙ c.if-sees_word.false)
    (sym c.sees_word-2.ensures ∙ c.if-sees_word-2.false)
    (sym c.sees_word-3.ensures ∙ c.if-sees_word-3.false)
    (sym c.sees_word-4.ensures ∙ c.if-sees_word-4.true)) c.in_err-message.ensures)

pub other_statement-returns-then-sees_word-4 : goal.other_statement-returns-then-sees_word-4
other_statement-returns-then-sees_word-4 t c =
    made_reads tree.nested_message _ _ _
    ((nest.message c.args.syntax c.args.levels).run (left c.args.tokens.now)) _
    (message_message c.args.syntax c.args.levels (left c.args.tokens.now)
    (sym c.sees_word.ensures ∙ c.if-sees_word.false)
    (sym c.sees_word-2.ensures ∙ c.if-sees_word-2.false)
    (sym c.sees_word-3.ensures ∙ c.if-sees_word-3.false)
    (sym c.sees_word-4.ensures ∙ c.if-sees_word-4.true))
    c.in_ok-message.ensures (views_message c.in_ok-message.field-0)

pub other_statement-returns-in_err-enumeration : goal.other_statement-returns-in_err-enumeration
other_statement-returns-in_err-enumeration t c =
    let p = err_from_is_err_and c.from_residual-in_err-enumeration.result
    c.from_residual-in_err-enumeration.ensures.1 in
    rw (p.1, p.2)
    (made_fails tree.message_enum c.in_err-enumeration.field-0.0 _
    ((nest.enumeration c.args.levels).low.run (left c.args.tokens.now)) _
    (message_enum c.args.syntax c.args.levels (left c.args.tokens.now)
    (sym c.sees_word.ensures ∙ c.if-sees_word.false)
    (sym c.sees_word-2.ensures ∙ c.if-sees_word-2.false)
    (sym c.sees_word-3.ensures ∙ c.if-sees_word-3.false)
    (sym c.sees_word-4.ensures ∙ c.if-sees_word-4.false)
    (sym c.sees_word-5.ensures ∙ c.if-sees_word-5.true)) c.in_err-enumeration.ensures)

pub other_statement-returns-then-sees_word-5 : goal.other_statement-returns-then-sees_word-5
other_statement-returns-then-sees_word-5 t c =
    made_reads tree.message_enum _ _ _
    ((nest.enumeration c.args.levels).low.run (left c.args.tokens.now)) _
    (message_enum c.args.syntax c.args.levels (left c.args.tokens.now)
    (sym c.sees_word.ensures ∙ c.if-sees_word.false)
    (sym c.sees_word-2.ensures ∙ c.if-sees_word-2.false)
    (sym c.sees_word-3.ensures ∙ c.if-sees_word-3.false)
    (sym c.sees_word-4.ensures ∙ c.if-sees_word-4.false)
    (sym c.sees_word-5.ensures ∙ c.if-sees_word-5.true))
    c.in_ok-enumeration.ensures (views_enum c.in_ok-enumeration.field-0)

pub other_statement-returns-in_err-extensions : goal.other_statement-returns-in_err-extensions
other_statement-returns-in_err-extensions t c =
    let v : c.args.syntax ≡ Proto2 = elim c.match-matches.branch [
      | other_statement-in-Proto2 w ↦ w.in-Proto2.is
      | other_statement-in_default w ↦ absurd
          cc
    ] in
    let p = err_from_is_err_and c.from_residual-in_err-extensions.result
    c.from_residual-in_err-extensions.ensures.1 in
    rw (p.1, p.2)
    (made_fails tree.message_extensions c.in_err-extensions.field-0.0 _
    (parse.extensions.run (left c.args.tokens.now)) _
    (message_extensions c.args.syntax c.args.levels (left c.args.tokens.now)
    (sym c.sees_word.ensures ∙ c.if-sees_word.false)
    (sym c.sees_word-2.ensures ∙ c.if-sees_word-2.false)
    (sym c.sees_word-3.ensures ∙ c.if-sees_word-3.false)
    (sym c.sees_word-4.ensures ∙ c.if-sees_word-4.false)
    (sym c.sees_word-5.ensures ∙ c.if-sees_word-5.false) v
    (sym c.sees_word-then-matches.ensures ∙ c.if-sees_word-6.true)) c.in_err-extensions.ensures)

pub other_statement-returns-then-sees_word-6 : goal.other_statement-returns-then-sees_word-6
other_statement-returns-then-sees_word-6 t c =
    let v : c.args.syntax ≡ Proto2 = elim c.match-matches.branch [
      | other_statement-in-Proto2 w ↦ w.in-Proto2.is
      | other_statement-in_default w ↦ absurd
          cc
    ] in
    made_reads tree.message_extensions _ _ _ (parse.extensions.run (left c.args.tokens.now)) _
    (message_extensions c.args.syntax c.args.levels (left c.args.tokens.now)
    (sym c.sees_word.ensures ∙ c.if-sees_word.false)
    (sym c.sees_word-2.ensures ∙ c.if-sees_word-2.false)
    (sym c.sees_word-3.ensures ∙ c.if-sees_word-3.false)
    (sym c.sees_word-4.ensures ∙ c.if-sees_word-4.false)
    (sym c.sees_word-5.ensures ∙ c.if-sees_word-5.false) v
    (sym c.sees_word-then-matches.ensures ∙ c.if-sees_word-6.true))
    c.in_ok-extensions.ensures (views_extensions c.in_ok-extensions.field-0)

pub other_statement-returns-in_err-option : goal.other_statement-returns-in_err-option
other_statement-returns-in_err-option t c =
    let f : c.args.syntax ≡ Proto2
    → says (codes "extensions") (left c.args.tokens.now) ≡ false = λ e.
    elim c.else-matches.branch [
      | other_statement-else-matches-via-then-matches+else-sees_word-6 w ↦ sym
          w.sees_word-then-matches.ensures ∙ w.if-sees_word-6.false
      | other_statement-else-matches-via-else-matches w ↦ elim c.match-matches.branch [
        | other_statement-in-Proto2 v ↦ absurd cc
        | other_statement-in_default v ↦ absurd
            (v.in_default.not-Proto2 e)
      ]
    ] in
    let p = err_from_is_err_and c.from_residual-in_err-option.result
    c.from_residual-in_err-option.ensures.1 in
    rw (p.1, p.2)
    (made_fails tree.message_option c.in_err-option.field-0.0 _
    ((nest.option c.args.levels).low.run (left c.args.tokens.now)) _
    (message_option c.args.syntax c.args.levels (left c.args.tokens.now)
    (sym c.sees_word.ensures ∙ c.if-sees_word.false)
    (sym c.sees_word-2.ensures ∙ c.if-sees_word-2.false)
    (sym c.sees_word-3.ensures ∙ c.if-sees_word-3.false)
    (sym c.sees_word-4.ensures ∙ c.if-sees_word-4.false)
    (sym c.sees_word-5.ensures ∙ c.if-sees_word-5.false) f
    (sym c.sees_word-6.ensures ∙ c.if-sees_word-7.true)) c.in_err-option.ensures)

pub other_statement-returns-then-sees_word-7 : goal.other_statement-returns-then-sees_word-7
other_statement-returns-then-sees_word-7 t c =
    let f : c.args.syntax ≡ Proto2
    → says (codes "extensions") (left c.args.tokens.now) ≡ false = λ e.
    elim c.else-matches.branch [
      | other_statement-else-matches-via-then-matches+else-sees_word-6 w ↦ sym
          w.sees_word-then-matches.ensures ∙ w.if-sees_word-6.false
      | other_statement-else-matches-via-else-matches w ↦ elim c.match-matches.branch [
        | other_statement-in-Proto2 v ↦ absurd cc
        | other_statement-in_default v ↦ absurd
            (v.in_default.not-Proto2 e)
      ]
    ] in
    made_reads tree.message_option _ _ _
    ((nest.option c.args.levels).low.run (left c.args.tokens.now)) _
    (message_option c.args.syntax c.args.levels (left c.args.tokens.now)
    (sym c.sees_word.ensures ∙ c.if-sees_word.false)
    (sym c.sees_word-2.ensures ∙ c.if-sees_word-2.false)
    (sym c.sees_word-3.ensures ∙ c.if-sees_word-3.false)
    (sym c.sees_word-4.ensures ∙ c.if-sees_word-4.false)
    (sym c.sees_word-5.ensures ∙ c.if-sees_word-5.false) f
    (sym c.sees_word-6.ensures ∙ c.if-sees_word-7.true))
    c.in_ok-option.ensures (views_option c.in_ok-option.field-0)

pub other_statement-returns-in_err-field : goal.other_statement-returns-in_err-field
other_statement-returns-in_err-field t c =
    let f : c.args.syntax ≡ Proto2
    → says (codes "extensions") (left c.args.tokens.now) ≡ false = λ e.
    elim c.else-matches.branch [
      | other_statement-else-matches-via-then-matches+else-sees_word-6 w ↦ sym
          w.sees_word-then-matches.ensures ∙ w.if-sees_word-6.false
      | other_statement-else-matches-via-else-matches w ↦ elim c.match-matches.branch [
        | other_statement-in-Proto2 v ↦ absurd cc
        | other_statement-in_default v ↦ absurd
            (v.in_default.not-Proto2 e)
      ]
    ] in
    let p = err_from_is_err_and c.from_residual-in_err-field.result
    c.from_residual-in_err-field.ensures.1 in
    rw (p.1, p.2)
    (made_fails tree.message_field c.in_err-field.field-0.0 _
    ((nest.field c.args.syntax c.args.levels).run (left c.args.tokens.now)) _
    (message_field c.args.syntax c.args.levels (left c.args.tokens.now)
    (sym c.sees_word.ensures ∙ c.if-sees_word.false)
    (sym c.sees_word-2.ensures ∙ c.if-sees_word-2.false)
    (sym c.sees_word-3.ensures ∙ c.if-sees_word-3.false)
    (sym c.sees_word-4.ensures ∙ c.if-sees_word-4.false)
    (sym c.sees_word-5.ensures ∙ c.if-sees_word-5.false) f
    (sym c.sees_word-6.ensures ∙ c.if-sees_word-7.false)) c.in_err-field.ensures)

pub other_statement-returns : goal.other_statement-returns
other_statement-returns t c =
    let f : c.args.syntax ≡ Proto2
    → says (codes "extensions") (left c.args.tokens.now) ≡ false = λ e.
    elim c.else-matches.branch [
      | other_statement-else-matches-via-then-matches+else-sees_word-6 w ↦ sym
          w.sees_word-then-matches.ensures ∙ w.if-sees_word-6.false
      | other_statement-else-matches-via-else-matches w ↦ elim c.match-matches.branch [
        | other_statement-in-Proto2 v ↦ absurd cc
        | other_statement-in_default v ↦ absurd
            (v.in_default.not-Proto2 e)
      ]
    ] in
    made_reads tree.message_field _ _ _
    ((nest.field c.args.syntax c.args.levels).run (left c.args.tokens.now)) _
    (message_field c.args.syntax c.args.levels (left c.args.tokens.now)
    (sym c.sees_word.ensures ∙ c.if-sees_word.false)
    (sym c.sees_word-2.ensures ∙ c.if-sees_word-2.false)
    (sym c.sees_word-3.ensures ∙ c.if-sees_word-3.false)
    (sym c.sees_word-4.ensures ∙ c.if-sees_word-4.false)
    (sym c.sees_word-5.ensures ∙ c.if-sees_word-5.false) f
    (sym c.sees_word-6.ensures ∙ c.if-sees_word-7.false))
    c.in_ok-field.ensures (views_field c.in_ok-field.field-0)

pub message_of-returns-in_err-word : goal.message_of-returns-in_err-word
message_of-returns-in_err-word t c =
    let p = err_from_is_err_and c.from_residual.result c.from_residual.ensures.1 in
    rw (p.1, p.2, message_in_runs c.args.syntax c.args.levels (left c.args.tokens.now))
    (fails_first c.in_err-word.field-0.0 _ _ _ c.in_err-word.ensures)

pub message_of-returns-in_err-name : goal.message_of-returns-in_err-name
message_of-returns-in_err-name t c =
    let p = err_from_is_err_and c.from_residual-in_err-name.result
    c.from_residual-in_err-name.ensures.1 in
    rw (
      p.1,
      p.2,
      message_in_runs c.args.syntax c.args.levels (left c.args.tokens.now),
      c.in_ok-word.ensures,
    ) (fails_first c.in_err-name.field-0.0 _ _ _ c.in_err-name.ensures)

pub message_of-returns-in_err-symbol : goal.message_of-returns-in_err-symbol
message_of-returns-in_err-symbol t c =
    let p = err_from_is_err_and c.from_residual-in_err-symbol.result
    c.from_residual-in_err-symbol.ensures.1 in
    rw (
      p.1,
      p.2,
      message_in_runs c.args.syntax c.args.levels (left c.args.tokens.now),
      c.in_ok-word.ensures,
      c.in_ok-name.ensures,
    ) (fails_first c.in_err-symbol.field-0.0 _ _ _
    (fails_first c.in_err-symbol.field-0.0 _ _ _ c.in_err-symbol.ensures))

pub message_of-returns-in_err-body : goal.message_of-returns-in_err-body
message_of-returns-in_err-body t c =
    let p = err_from_is_err_and c.from_residual-in_err-body.result
    c.from_residual-in_err-body.ensures.1 in
    rw (
      p.1,
      p.2,
      message_in_runs c.args.syntax c.args.levels (left c.args.tokens.now),
      c.in_ok-word.ensures,
      c.in_ok-name.ensures,
      c.in_ok-symbol.ensures,
    ) (fails_first c.in_err-body.field-0.0 _ _ _
    (fails_first c.in_err-body.field-0.0 _ _ _ c.in_err-body.ensures))

pub message_of-returns-in_err-symbol_or : goal.message_of-returns-in_err-symbol_or
message_of-returns-in_err-symbol_or t c =
    let p = err_from_is_err_and c.from_residual-in_err-symbol_or.result
    c.from_residual-in_err-symbol_or.ensures.1 in
    rw (
      p.1,
      p.2,
      message_in_runs c.args.syntax c.args.levels (left c.args.tokens.now),
      c.in_ok-word.ensures,
      c.in_ok-name.ensures,
      c.in_ok-symbol.ensures,
      c.in_ok-body.ensures,
    ) (fails_first c.in_err-symbol_or.field-0.0 _ _ _
    (fails_first c.in_err-symbol_or.field-0.0 _ _ _ c.in_err-symbol_or.ensures))

pub message_item-returns-then-sees_symbol : goal.message_item-returns-then-sees_symbol
message_item-returns-then-sees_symbol t c = (
  None,
  sym (append-nil c.args.body.now.items),
  message_item_runs c.args.syntax c.args.levels (left c.args.tokens.now)
      ∙ rw (sym c.sees_symbol.ensures ∙ c.if-sees_symbol.true, c.in_ok-symbol.ensures) refl,
)

pub message_item-returns : goal.message_item-returns
message_item-returns t c =
    puts_some message_statement_syntax c.message_statement.result c.args.body.now.items
    c.message_statement.new.body.items (left c.message_statement.new.tokens) _ _
    (message_item_runs c.args.syntax c.args.levels (left c.args.tokens.now)
    ∙ rw (sym c.sees_symbol.ensures ∙ c.if-sees_symbol.false) refl) c.message_statement.ensures

pub message_statement-returns-in_err-field : goal.message_statement-returns-in_err-field
message_statement-returns-in_err-field t c =
    let p = err_from_is_err_and c.from_residual.result c.from_residual.ensures.1 in
    rw (p.1, p.2)
    (made_fails tree.message_field c.in_err-field.field-0.0 _
    ((nest.field c.args.syntax c.args.levels).run (left c.args.tokens.now)) _
    (message_normal c.args.syntax c.args.levels (left c.args.tokens.now)
    (sym c.sees_statement_word.ensures ∙ c.if-sees_statement_word.false))
    c.in_err-field.ensures)

pub message_statement-returns : goal.message_statement-returns
message_statement-returns t c = (
  _,
  c.in_ok-push.ensures.items,
  made_reads tree.message_field _ _ _
      ((nest.field c.args.syntax c.args.levels).run (left c.args.tokens.now)) _
      (message_normal c.args.syntax c.args.levels (left c.args.tokens.now)
      (sym c.sees_statement_word.ensures ∙ c.if-sees_statement_word.false))
      c.in_ok-field.ensures (views_field c.in_ok-field.field),
)
