-- No public clause rests on this file.
-- Whether a custom option is set in a part of a file, wherever the part stands.
use Rattle.std.specs.Prelude.{Bool, false, ◌||◌}
use Rattle.std.specs.List.{list_any}
use Rattle.protobuf_parse_syntax.specs.Trees.{OptionStatementSyntax, FieldStatementSyntax, field}
use Rattle.protobuf_parse_syntax.specs.Trees.{group, OneofStatementSyntax, oneof_option}
use Rattle.protobuf_parse_syntax.specs.Trees.{oneof_field, EnumStatementSyntax, enum_option}
use Rattle.protobuf_parse_syntax.specs.Trees.{enum_value, enum_reserved, ServiceStatementSyntax}
use Rattle.protobuf_parse_syntax.specs.Trees.{service_method, service_option}
use Rattle.protobuf_parse_syntax.specs.Trees.{MessageStatementSyntax, message_oneof, message_extend}
use Rattle.protobuf_parse_syntax.specs.Trees.{message_message, message_enum, message_option}
use Rattle.protobuf_parse_syntax.specs.Trees.{message_field, MessageStatementList, no_statements}
use Rattle.protobuf_parse_syntax.specs.Trees.{more_statements, StatementSyntax, file_message}
use Rattle.protobuf_parse_syntax.specs.Trees.{file_enum, file_extend, file_service, file_option}
use Rattle.protobuf_parse_syntax.specs.Trees.{nested_message}
use Rattle.protobuf_parse_model.specs.Statements.{group_body}
use Rattle.protobuf_parse_elaboration.specs.CustomSets.{is_custom}

abbrev pub custom_in_grouped : FieldStatementSyntax → Bool
custom_in_grouped (field f) = list_any is_custom f.options
custom_in_grouped (group place label name number fields) = false

abbrev pub custom_in_field : FieldStatementSyntax → Bool
custom_in_field (field f) = list_any is_custom f.options
custom_in_field (group place label name number fields) =
    list_any custom_in_grouped (group_body fields)

abbrev pub custom_in_oneof : OneofStatementSyntax → Bool
custom_in_oneof (oneof_option o) = is_custom o.option
custom_in_oneof (oneof_field f) = custom_in_field f

abbrev pub custom_in_enum : EnumStatementSyntax → Bool
custom_in_enum (enum_option o) = is_custom o.option
custom_in_enum (enum_value v) = list_any is_custom v.options
custom_in_enum (enum_reserved r) = false

abbrev pub custom_in_statement : OptionStatementSyntax → Bool
custom_in_statement o = is_custom o.option

abbrev pub custom_in_service : ServiceStatementSyntax → Bool
custom_in_service (service_method m) = list_any custom_in_statement m.options
custom_in_service (service_option o) = is_custom o.option

abbrev mutual
  -- in a statement of a message's body
  pub custom_in_message : MessageStatementSyntax → Bool
  custom_in_message (message_field f) = custom_in_field f
  custom_in_message (message_oneof o) = list_any custom_in_oneof o.body
  custom_in_message (message_extend e) = list_any custom_in_field e.fields
  custom_in_message (message_message place name body) = custom_in_body body
  custom_in_message (message_enum e) = list_any custom_in_enum e.body
  custom_in_message (message_option o) = is_custom o.option
  custom_in_message _ = false

  pub custom_in_body : MessageStatementList → Bool
  custom_in_body no_statements = false
  custom_in_body (more_statements s ss) = custom_in_message s || custom_in_body ss

-- in a statement of a file
abbrev pub custom_in_file : StatementSyntax → Bool
custom_in_file (file_option o) = is_custom o.option
custom_in_file (file_message m) = custom_in_message (nested_message m)
custom_in_file (file_enum e) = list_any custom_in_enum e.body
custom_in_file (file_extend e) = list_any custom_in_field e.fields
custom_in_file (file_service s) = list_any custom_in_service s.body
custom_in_file _ = false
