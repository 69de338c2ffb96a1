use Rattle.std.proofs.Common.{◌∙◌, ◌++◌, ap, flat_map, map, sym}
use Rattle.std.proofs.lemmas.Result.{on_ok_weaker}
use Rattle.protobuf_parse_syntax.specs.InnerViews.{constant_field_syntax}
use Rattle.protobuf_parse_syntax.specs.Trees.{constant_syntax}
use Rattle.protobuf_parse_syntax.proofs.Views.{views_fields, views_list}
use Rattle.protobuf_parse_model.specs.Descriptors.{field_view}
use Rattle.protobuf_parse_text_rules.specs.Views.{told}
use Rattle.protobuf_parse_name_rules.specs.Constants.{value_breaches}
use Rattle.protobuf_parse_name_rules.specs.InnerViews.{message_breaches, viewpoint_view}
use Rattle.protobuf_parse_name_rules.proofs.Levels.{items_listed, message_listed}
use Rattle.protobuf_parse_name_rules.proofs.constants.+constant.Goals as goal

pub check_value-returns-in-List : goal.check_value-returns-in-List
check_value-returns-in-List t c =
    let at = viewpoint_view c.args.at.now in
    let f = field_view c.args.field.now in
    let before = told c.args.found.now in
    let items = c.in-List.items in
    on_ok_weaker c.check_items.result
    (λ h. h
    ∙ ap (λ xs. before ++ flat_map (value_breaches at c.args.place f) (map constant_syntax xs))
    c.deref.ensures.value
    ∙ ap (λ bs. before ++ bs)
    (items_listed at c.args.place f (map constant_syntax items.items)
    ∙ ap (value_breaches at c.args.place f)
    (sym (ap constant_syntax c.in-List.is ∙ views_list items))))
    c.check_items.ensures

pub check_value-returns-in-Message : goal.check_value-returns-in-Message
check_value-returns-in-Message t c =
    let at = viewpoint_view c.args.at.now in
    let f = field_view c.args.field.now in
    let before = told c.args.found.now in
    let fields = c.in-Message.fields in
    on_ok_weaker c.check_message.result
    (λ h. h
    ∙ ap (λ xs. before ++ message_breaches at c.args.place c.type_name_of.result.now
    (map constant_field_syntax xs)) c.deref-in-Message.ensures.value
    ∙ ap (λ m. before ++ message_breaches at c.args.place m
    (map constant_field_syntax fields.items)) c.type_name_of.ensures
    ∙ ap (λ bs. before ++ bs)
    (message_listed at c.args.place f (map constant_field_syntax fields.items)
    ∙ ap (value_breaches at c.args.place f)
    (sym (ap constant_syntax c.in-Message.is ∙ views_fields fields))))
    c.check_message.ensures
