use Rattle.std.proofs.Common.{◌≡◌, ◌++◌, ◌∙◌, List, [], ap, flat_map, map, subst, sym, ℕ}
use Rattle.protobuf_parse_syntax.specs.InnerViews.{constant_field_syntax}
use Rattle.protobuf_parse_model.specs.Descriptors.{field_view, Text}
use Rattle.protobuf_parse_options.specs.Given.{field_faults_of, given_field_bytes}
use Rattle.protobuf_parse_options.specs.Given.{given_field_items}
use Rattle.protobuf_parse_options.specs.Given.{option_scope_view, path_said}
use Rattle.protobuf_parse_options.specs.OptionFields.{type_name_of}
use Rattle.protobuf_parse_options.proofs.ItemBytes.{bytes_flat_map}
use Rattle.protobuf_parse_options.proofs.Parts.{list_given, message_given, no_message_fault}
use Rattle.protobuf_parse_options.proofs.constants.+constant.Goals as goal

pub push_value-returns-in-List : goal.push_value-returns-in-List
push_value-returns-in-List t c =
    list_given (λ u. c.push_list.new.out.items) c.push_list.result
    (option_scope_view c.args.at.now) (path_said c.args.option.now)
    (field_view c.args.field.now) c.args.value.now c.in-List.items c.deref-in-List.result.now
    c.args.out.now.items c.in-List.is c.deref-in-List.ensures.value
    c.push_list.ensures

pub push_value-returns-in-Message : goal.push_value-returns-in-Message
push_value-returns-in-Message t c =
    message_given (λ u. c.push_message.new.out.items) c.push_message.result
    (option_scope_view c.args.at.now) (path_said c.args.option.now)
    (field_view c.args.field.now) c.args.value.now c.in-Message.fields c.deref-in-Message.result.now
    c.args.out.now.items c.in-Message.is c.deref-in-Message.ensures.value
    c.push_message.ensures

pub push_message-returns-in_ok-push_inside-in-Message
    : goal.push_message-returns-in_ok-push_inside-in-Message
push_message-returns-in_ok-push_inside-in-Message t c =
    let s = option_scope_view c.args.at.now in
    let f = field_view c.args.field.now in
    let fs = map constant_field_syntax c.args.fields.now in
    let option = path_said c.args.option.now in
    let given : (flat_map (field_faults_of s option (type_name_of f)) fs ≡ [])
    × (c.push_fields.new.out.items ≡ flat_map (given_field_bytes s (type_name_of f)) fs) =
    subst (λ (message : Text). (flat_map (field_faults_of s option message) fs ≡ [])
    × (c.push_fields.new.out.items ≡ flat_map (given_field_bytes s message) fs))
    c.type_name_of.ensures (
      c.in_ok-push_fields-in-Message.ensures.0,
      c.in_ok-push_fields-in-Message.ensures.1
          ∙ ap (λ (old : List ℕ). old
          ++ flat_map (given_field_bytes s c.type_name_of.result.now) fs)
          c.new-inside.ensures.items,
    ) in (
      no_message_fault f.name f.type_ _ c.in-Message.is given.0,
      c.in_ok-push_inside-in-Message.ensures _ (c.deref.ensures.value ∙ given.1
          ∙ sym (bytes_flat_map (given_field_items s (type_name_of f)) fs)),
    )
