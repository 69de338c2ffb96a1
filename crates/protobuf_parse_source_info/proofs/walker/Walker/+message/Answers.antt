use Rattle.std.proofs.Common.{refl, ◌∙◌}
use Rattle.protobuf_parse_syntax.specs.InnerViews.{message_statement_syntax}
use Rattle.protobuf_parse_syntax.proofs.Messages.{view_parts, views_reserved, views_oneof}
use Rattle.protobuf_parse_syntax.proofs.Messages.{views_extend, views_message}
use Rattle.protobuf_parse_syntax.proofs.Messages.{views_enum, views_extensions, views_option}
use Rattle.protobuf_parse_syntax.proofs.Messages.{views_field}
use Rattle.protobuf_parse_source_info.specs.Walks.{empties, ◌>>◌}
use Rattle.protobuf_parse_source_info.specs.Declarations.{message_body, message_list}
use Rattle.protobuf_parse_source_info.specs.Declarations.{message_statement, message_walk, counted}
use Rattle.protobuf_parse_source_info.specs.Declarations.{no_parts}
use Rattle.protobuf_parse_source_info.specs.InnerViews.{doing}
use Rattle.protobuf_parse_source_info.proofs.Steps.{takes_then, takes_declared}
use Rattle.protobuf_parse_source_info.proofs.Bodies.{list_step, list_end}
use Rattle.protobuf_parse_source_info.proofs.walker.Walker.+message.Goals as goal

pub message-returns : goal.message-returns
unfolding message_walk
message-returns t c =
    let own = c.as_slice-own.ensures.value ∙ c.in_ok-own.ensures in
    rw (view_parts c.args.message.now)
    (takes_declared _ c.in_ok-mark.ensures c.in_ok-at.ensures.at c.in_ok-at.ensures.opened
    (rw own at c.in_ok-head.ensures) c.head_ends.ensures
    (takes_then (rw (own, c.deref.ensures.value) at c.in_ok-message_body.ensures) c.take.ensures)
    c.close.ensures)

pub message_body-statements-preserved : goal.message_body-statements-preserved
unfolding message_list
message_body-statements-preserved t c =
    let p = c.args.path.now in
    list_step message_statement_syntax (message_body p)
    (λ k s. empties >> message_statement p k s) counted (λ k s ss. refl) c.args.body.now
    c.statements.statement-index c.statement-item.result c.statements.counts _
    (doing c.statements.self) _ _ c.statements-test.true c.statement-item.is
    c.message_counted-counts.ensures
    (takes_then c.in_ok-empties.ensures c.in_ok-message_statement.ensures) c.statements.invariant

pub message_body-returns : goal.message_body-returns
unfolding message_list
message_body-returns t c =
    let p = c.args.path.now in
    list_end message_statement_syntax (message_body p)
    (λ k s. empties >> message_statement p k s) counted (λ k. refl) c.args.body.now
    c.statements.statement-index c.statements.counts no_parts (doing c.statements.self) _ _
    c.statements-test.false c.in_ok-empties-2.ensures c.statements.invariant

pub message_statement-returns-in-Reserved : goal.message_statement-returns-in-Reserved
unfolding message_statement
message_statement-returns-in-Reserved t c =
    rw (c.in-Reserved.is, views_reserved c.in-Reserved.statement)
    c.reserved.ensures

pub message_statement-returns-in-OneOf : goal.message_statement-returns-in-OneOf
unfolding message_statement
message_statement-returns-in-OneOf t c =
    rw (c.in-OneOf.is, views_oneof c.in-OneOf.oneof)
    (rw c.fields.ensures at c.oneof.ensures)

pub message_statement-returns-in-Extend : goal.message_statement-returns-in-Extend
unfolding message_statement
message_statement-returns-in-Extend t c =
    rw (c.in-Extend.is, views_extend c.in-Extend.extend)
    (rw (c.extensions_in.ensures, c.extensions.ensures) at c.extend.ensures)

pub message_statement-returns-in-Message : goal.message_statement-returns-in-Message
unfolding message_statement message_walk
message_statement-returns-in-Message t c =
    rw (c.in-Message.is, views_message c.in-Message.message)
    c.message.ensures

pub message_statement-returns-in-Enumeration : goal.message_statement-returns-in-Enumeration
unfolding message_statement
message_statement-returns-in-Enumeration t c =
    rw (c.in-Enumeration.is, views_enum c.in-Enumeration.enumeration)
    c.enumeration.ensures

pub message_statement-returns-in-Extensions : goal.message_statement-returns-in-Extensions
unfolding message_statement
message_statement-returns-in-Extensions t c =
    rw (c.in-Extensions.is, views_extensions c.in-Extensions.extensions)
    c.extensions-in-Extensions.ensures

pub message_statement-returns-in-Option : goal.message_statement-returns-in-Option
unfolding message_statement
message_statement-returns-in-Option t c =
    rw (c.in-Option.is, views_option c.in-Option.option)
    c.option.ensures

pub message_statement-returns-in-Field : goal.message_statement-returns-in-Field
unfolding message_statement
message_statement-returns-in-Field t c =
    rw (c.in-Field.is, views_field c.in-Field.field)
    (rw (c.message-in-Field.ensures, c.fields-in-Field.ensures) at c.field_statement.ensures)
