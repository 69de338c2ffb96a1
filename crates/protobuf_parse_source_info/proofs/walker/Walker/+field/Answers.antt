use Rattle.std.proofs.Common.{refl, ap, ◌∙◌, option_map}
use Rattle.std.proofs.lemmas.List.{append-nil}
use Rattle.protobuf_parse_syntax.specs.Trees.{field_statement_syntax}
use Rattle.protobuf_parse_syntax.proofs.FieldViews.{views_normal}
use Rattle.protobuf_parse_source_info.specs.Walks.{Mark, empties, ◌>>◌}
use Rattle.protobuf_parse_source_info.specs.Fields.{group_message, group_walk, field_statement}
use Rattle.protobuf_parse_source_info.specs.Fields.{field_list, field_body}
use Rattle.protobuf_parse_source_info.specs.Fields.{field_counted}
use Rattle.protobuf_parse_source_info.specs.InnerViews.{doing, owner_view, range_view, mark_view}
use Rattle.protobuf_parse_source_info.proofs.Steps.{takes_then, takes_from, takes_located}
use Rattle.protobuf_parse_source_info.proofs.Steps.{takes_noting, takes_seeing}
use Rattle.protobuf_parse_source_info.proofs.Bodies.{list_step, list_end}
use Rattle.protobuf_parse_source_info.proofs.walker.Walker.+field.Goals as goal

pub field_statement-returns-in-Field : goal.field_statement-returns-in-Field
unfolding field_statement
field_statement-returns-in-Field t c =
    rw (c.in-Field.is, views_normal c.in-Field.field) c.field.ensures

pub fields-statements-preserved : goal.fields-statements-preserved
unfolding field_list
fields-statements-preserved t c =
    let o = owner_view c.args.owner in
    let x = option_map range_view c.args.extendee in
    list_step field_statement_syntax (field_body o x)
    (λ k f. empties >> field_statement o x k f) field_counted (λ k f fs. refl) c.args.body.now
    c.statements.statement-index c.statement-item.result c.statements.counts _
    (doing c.statements.self) _ _ c.statements-test.true c.statement-item.is
    c.field_counted-counts.ensures
    (takes_then c.in_ok-empties.ensures c.in_ok-field_statement.ensures) c.statements.invariant

pub fields-returns : goal.fields-returns
unfolding field_list
fields-returns t c =
    let o = owner_view c.args.owner in
    let x = option_map range_view c.args.extendee in
    list_end field_statement_syntax (field_body o x)
    (λ k f. empties >> field_statement o x k f) field_counted (λ k. refl) c.args.body.now
    c.statements.statement-index c.statements.counts c.args.before (doing c.statements.self) _ _
    c.statements-test.false c.in_ok-empties-2.ensures c.statements.invariant

pub group_message-returns : goal.group_message-returns
unfolding group_message
group_message-returns t c =
    takes_from (mark_view c.args.mark) _ _ c.in_ok-at.ensures.at
    (rw (append-nil c.args.message.now) at c.in_ok-at.ensures.opened) c.in_ok-group_head.ensures
    c.head_ends.ensures
    (takes_then (rw (c.deref.ensures.value, c.message.ensures) at c.in_ok-fields.ensures)
    c.take.ensures)
    c.close.ensures

pub group-returns : goal.group-returns
unfolding field_statement group_walk
group-returns t c =
    let own = c.as_slice-own.ensures.value ∙ c.in_ok-own.ensures in
    let message = c.as_slice-message.ensures.value ∙ c.in_ok-message.ensures in
    let from = ap (λ (m : Mark). m.from) c.in_ok-mark.ensures in
    takes_seeing _ (rw (← c.in_ok-mark.ensures)
    (takes_located _ _ c.in_ok-at.ensures.at (rw from at c.in_ok-at.ensures.opened)
    (takes_then (rw own at c.in_ok-group_front.ensures)
    (takes_noting _ (rw own at c.in_ok-token.ensures) c.front-from.ensures
    (takes_then (takes_then c.take.ensures (rw own at c.in_ok-token-2.ensures))
    (rw (own, message) at c.in_ok-group_message.ensures))))
    c.close.ensures))
