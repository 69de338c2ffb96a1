use Rattle.std.proofs.Common.{◌∙◌, ◌++◌, ap, flat_map, map, sym}
use Rattle.std.proofs.lemmas.Result.{on_ok_weaker}
use Rattle.protobuf_parse_syntax.specs.InnerViews.{message_statement_syntax}
use Rattle.protobuf_parse_syntax.proofs.Messages.{views_enum, views_extend, views_field}
use Rattle.protobuf_parse_syntax.proofs.Messages.{views_message, views_oneof}
use Rattle.protobuf_parse_base.specs.DeclaredNames.{name_bytes}
use Rattle.protobuf_parse_model.specs.Declarations.{inside}
use Rattle.protobuf_parse_model.specs.SeenFiles.{name_texts}
use Rattle.protobuf_parse_model.specs.declared.customs.Construct.TheVariants as of
use Rattle.protobuf_parse_text_rules.specs.Files.{option_in_message}
use Rattle.protobuf_parse_text_rules.specs.OptionViews.{options_view}
use Rattle.protobuf_parse_text_rules.specs.Views.{told}
use Rattle.protobuf_parse_name_rules.specs.Lookups.{Viewpoint}
use Rattle.protobuf_parse_name_rules.specs.Options.{option_breaches}
use Rattle.protobuf_parse_name_rules.proofs.Levels.{message_told, within_same}
use Rattle.protobuf_parse_name_rules.specs.Files.{inside_message}
use Rattle.protobuf_parse_name_rules.specs.InnerViews.{viewpoint_view}
use Rattle.protobuf_parse_name_rules.proofs.messages.+message.Goals as goal

pub check_message-returns : goal.check_message-returns
check_message-returns t c =
    let m = c.args.message.now in
    let v = viewpoint_view c.args.at.now in
    let t0 = told c.args.found.now in
    let t1 = told c.check_options.new.found in
    let inner : Viewpoint = record { sight = v.sight; scope = name_texts c.deref-3.result.now } in
    on_ok_weaker c.check_body.result
    (λ h. message_told v inner m t0 t1 (told c.check_body.new.found)
    (c.in_ok-check_options.ensures
    ∙ ap (λ os. t0 ++ option_breaches v of.Message os)
    (ap options_view c.deref-2.ensures.value ∙ c.in_ok-options.ensures
    ∙ ap (λ xs. flat_map option_in_message (map message_statement_syntax xs))
    c.deref.ensures.value))
    (within_same v (name_bytes m.name) (name_texts c.deref-3.result.now)
    (ap name_texts c.deref-3.ensures.value ∙ c.in_ok-scope.ensures
    ∙ ap (inside v.scope) c.as_str.ensures))
    (h ∙ ap (λ xs. t1 ++ flat_map (inside_message inner) (map message_statement_syntax xs))
    c.deref-4.ensures.value))
    c.check_body.ensures

pub check_message_statement-returns-in-Field : goal.check_message_statement-returns-in-Field
check_message_statement-returns-in-Field t c =
    on_ok_weaker c.check_statement.result
    (λ h. h ∙ ap (λ bs. told c.args.found.now ++ bs)
    (sym (ap (inside_message (viewpoint_view c.args.at.now))
    (ap message_statement_syntax c.in-Field.is ∙ views_field c.in-Field.field))))
    c.check_statement.ensures

pub check_message_statement-returns-in-OneOf : goal.check_message_statement-returns-in-OneOf
check_message_statement-returns-in-OneOf t c =
    on_ok_weaker c.check_oneof.result
    (λ h. h ∙ ap (λ bs. told c.args.found.now ++ bs)
    (sym (ap (inside_message (viewpoint_view c.args.at.now))
    (ap message_statement_syntax c.in-OneOf.is ∙ views_oneof c.in-OneOf.oneof))))
    c.check_oneof.ensures

pub check_message_statement-returns-in-Extend : goal.check_message_statement-returns-in-Extend
check_message_statement-returns-in-Extend t c =
    on_ok_weaker c.check_extend.result
    (λ h. h ∙ ap (λ bs. told c.args.found.now ++ bs)
    (sym (ap (inside_message (viewpoint_view c.args.at.now))
    (ap message_statement_syntax c.in-Extend.is ∙ views_extend c.in-Extend.extend))))
    c.check_extend.ensures

pub check_message_statement-returns-in-Enumeration : goal.check_message_statement-returns-in-Enumeration
check_message_statement-returns-in-Enumeration t c =
    on_ok_weaker c.check_enum.result
    (λ h. h ∙ ap (λ bs. told c.args.found.now ++ bs)
    (sym (ap (inside_message (viewpoint_view c.args.at.now))
    (ap message_statement_syntax c.in-Enumeration.is ∙ views_enum c.in-Enumeration.each))))
    c.check_enum.ensures

pub check_message_statement-returns-in-Message : goal.check_message_statement-returns-in-Message
check_message_statement-returns-in-Message t c =
    on_ok_weaker c.check_message.result
    (λ h. h ∙ ap (λ bs. told c.args.found.now ++ bs)
    (sym (ap (inside_message (viewpoint_view c.args.at.now))
    (ap message_statement_syntax c.in-Message.is ∙ views_message c.in-Message.message))))
    c.check_message.ensures
