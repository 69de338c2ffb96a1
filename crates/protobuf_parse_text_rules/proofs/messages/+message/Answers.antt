use Rattle.std.proofs.Common.{◌∙◌, ◌++◌, ap, append_assoc, flat_map, map, sym}
use Rattle.std.proofs.lemmas.Result.{on_ok_weaker}
use Rattle.protobuf_parse_syntax.specs.InnerViews.{message_statement_syntax}
use Rattle.protobuf_parse_syntax.proofs.Messages.{views_enum, views_extend, views_extensions}
use Rattle.protobuf_parse_syntax.proofs.Messages.{views_field, views_message, views_oneof}
use Rattle.protobuf_parse_text_rules.specs.Files.{inside_message, option_in_message, own_breaches}
use Rattle.protobuf_parse_text_rules.specs.Views.{told}
use Rattle.protobuf_parse_text_rules.proofs.Levels.{message_breaches}
use Rattle.protobuf_parse_text_rules.proofs.messages.+message.Goals as goal

pub check_message-returns : goal.check_message-returns
check_message-returns t c =
    let m = c.args.message.now in
    let before = told c.args.found.now in
    let body = map message_statement_syntax m.body.items in
    let own = own_breaches (flat_map option_in_message body) in
    let inner = flat_map inside_message body in
    on_ok_weaker c.check_body.result
    (λ h. h
    ∙ ap (λ xs. told c.check_own.new.found
    ++ flat_map inside_message (map message_statement_syntax xs)) c.deref-2.ensures.value
    ∙ ap (λ ts. ts ++ inner) (c.in_ok-check_own.ensures
    ∙ ap (λ xs. before
    ++ own_breaches (flat_map option_in_message (map message_statement_syntax xs)))
    c.deref.ensures.value)
    ∙ append_assoc before own inner
    ∙ ap (λ bs. before ++ bs) (sym (message_breaches m)))
    c.check_body.ensures

pub check_message_statement-returns-in-Field : goal.check_message_statement-returns-in-Field
check_message_statement-returns-in-Field t c =
    on_ok_weaker c.check_statement.result
    (λ h. h ∙ ap (λ bs. told c.args.found.now ++ bs) (sym (ap inside_message
    (ap message_statement_syntax c.in-Field.is ∙ views_field c.in-Field.field))))
    c.check_statement.ensures

pub check_message_statement-returns-in-OneOf : goal.check_message_statement-returns-in-OneOf
check_message_statement-returns-in-OneOf t c =
    on_ok_weaker c.check_oneof.result
    (λ h. h ∙ ap (λ bs. told c.args.found.now ++ bs) (sym (ap inside_message
    (ap message_statement_syntax c.in-OneOf.is ∙ views_oneof c.in-OneOf.oneof))))
    c.check_oneof.ensures

pub check_message_statement-returns-in-Extend : goal.check_message_statement-returns-in-Extend
check_message_statement-returns-in-Extend t c =
    on_ok_weaker c.check_extend.result
    (λ h. h ∙ ap (λ bs. told c.args.found.now ++ bs) (sym (ap inside_message
    (ap message_statement_syntax c.in-Extend.is ∙ views_extend c.in-Extend.extend))))
    c.check_extend.ensures

pub check_message_statement-returns-in-Enumeration : goal.check_message_statement-returns-in-Enumeration
check_message_statement-returns-in-Enumeration t c =
    on_ok_weaker c.check_enum.result
    (λ h. h ∙ ap (λ bs. told c.args.found.now ++ bs) (sym (ap inside_message
    (ap message_statement_syntax c.in-Enumeration.is ∙ views_enum c.in-Enumeration.each))))
    c.check_enum.ensures

pub check_message_statement-returns-in-Message : goal.check_message_statement-returns-in-Message
check_message_statement-returns-in-Message t c =
    on_ok_weaker c.check_message.result
    (λ h. h ∙ ap (λ bs. told c.args.found.now ++ bs) (sym (ap inside_message
    (ap message_statement_syntax c.in-Message.is ∙ views_message c.in-Message.message))))
    c.check_message.ensures
