use Rattle.std.proofs.Common.{◌∙◌, ap, map, sym}
use Rattle.std.specs.List.{list_any}
use Rattle.protobuf_parse_syntax.specs.Trees.{enum_statement_syntax, field_statement_syntax}
use Rattle.protobuf_parse_syntax.specs.Trees.{oneof_statement_syntax}
use Rattle.protobuf_parse_syntax.specs.InnerViews.{message_statement_syntax}
use Rattle.protobuf_parse_syntax.proofs.Messages.{views_enum, views_extend, views_oneof}
use Rattle.protobuf_parse_options.specs.CustomParts.{custom_in_enum, custom_in_field}
use Rattle.protobuf_parse_options.specs.CustomParts.{custom_in_message, custom_in_oneof}
use Rattle.protobuf_parse_options.proofs.CustomParts.{enums_any, fields_any, oneofs_any}
use Rattle.protobuf_parse_options.proofs.custom_parts.+message.Goals as goal

pub custom_in_message-returns-in-OneOf : goal.custom_in_message-returns-in-OneOf
custom_in_message-returns-in-OneOf t c =
    let is = ap message_statement_syntax c.in-OneOf.is ∙ views_oneof c.in-OneOf.oneof in
    c.any_custom.ensures ∙ oneofs_any c.deref.result.now
    ∙ ap (λ xs. list_any custom_in_oneof (map oneof_statement_syntax xs)) c.deref.ensures.value
    ∙ sym (ap custom_in_message is)

pub custom_in_message-returns-in-Extend : goal.custom_in_message-returns-in-Extend
custom_in_message-returns-in-Extend t c =
    let is = ap message_statement_syntax c.in-Extend.is ∙ views_extend c.in-Extend.extend in
    c.any_custom-in-Extend.ensures ∙ fields_any c.deref-in-Extend.result.now
    ∙ ap (λ xs. list_any custom_in_field (map field_statement_syntax xs))
    c.deref-in-Extend.ensures.value
    ∙ sym (ap custom_in_message is)

pub custom_in_message-returns-in-Enumeration : goal.custom_in_message-returns-in-Enumeration
custom_in_message-returns-in-Enumeration t c =
    let is = ap message_statement_syntax c.in-Enumeration.is
    ∙ views_enum c.in-Enumeration.inner in
    c.any_custom-in-Enumeration.ensures ∙ enums_any c.deref-in-Enumeration.result.now
    ∙ ap (λ xs. list_any custom_in_enum (map enum_statement_syntax xs))
    c.deref-in-Enumeration.ensures.value
    ∙ sym (ap custom_in_message is)
