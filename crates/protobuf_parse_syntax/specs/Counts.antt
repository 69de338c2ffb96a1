-- How many statements a tree has, those of all bodies inside counted: of messages, groups, oneofs,
-- extends, enums, services and methods. No body is longer than the count of what it stands in.
use Rattle.std.specs.Prelude.{ℕ, suc, ◌+◌, length, sum_by}
use Rattle.protobuf_parse_syntax.specs.Trees as tree
use Rattle.protobuf_parse_syntax.specs.Trees.{FieldStatementSyntax, FieldStatementList}
use Rattle.protobuf_parse_syntax.specs.Trees.{OneofStatementSyntax, OneofSyntax}
use Rattle.protobuf_parse_syntax.specs.Trees.{ExtendSyntax, EnumSyntax, MessageStatementSyntax}
use Rattle.protobuf_parse_syntax.specs.Trees.{MessageStatementList}
use Rattle.protobuf_parse_syntax.specs.Trees.{MessageSyntax, MethodSyntax, ServiceStatementSyntax}
use Rattle.protobuf_parse_syntax.specs.Trees.{ServiceSyntax}
use Rattle.protobuf_parse_syntax.specs.Trees.{StatementSyntax, FileSyntax}

-- A statement's count is one and what stands in it; `in_X` is what stands in an X.

abbrev mutual
  -- of a field or a group
  pub field_count : FieldStatementSyntax → ℕ
  field_count (tree.field f) = 1
  field_count (tree.group place label name number fields) = suc (in_group fields)

  -- of a group's fields
  pub in_group : FieldStatementList → ℕ
  in_group tree.no_field_statements = 0
  in_group (tree.more_field_statements f fs) = field_count f + in_group fs

-- of a statement of a oneof
abbrev pub oneof_statement_count : OneofStatementSyntax → ℕ
oneof_statement_count (tree.oneof_option o) = 1
oneof_statement_count (tree.oneof_field f) = field_count f

-- of a oneof's statements
abbrev pub in_oneof : OneofSyntax → ℕ
in_oneof o = sum_by oneof_statement_count o.body

-- of an `extend`'s fields
abbrev pub in_extend : ExtendSyntax → ℕ
in_extend e = sum_by field_count e.fields

-- of an enum's statements
abbrev pub in_enum : EnumSyntax → ℕ
in_enum e = length e.body

abbrev mutual
  -- of a statement of a message
  pub message_statement_count : MessageStatementSyntax → ℕ
  message_statement_count (tree.message_reserved r) = 1
  message_statement_count (tree.message_oneof o) = suc (in_oneof o)
  message_statement_count (tree.message_extend e) = suc (in_extend e)
  message_statement_count (tree.message_message place name body) = suc (in_body body)
  message_statement_count (tree.message_enum e) = suc (in_enum e)
  message_statement_count (tree.message_extensions e) = 1
  message_statement_count (tree.message_option o) = 1
  message_statement_count (tree.message_field f) = field_count f

  -- of the body of a message inside another
  pub in_body : MessageStatementList → ℕ
  in_body tree.no_statements = 0
  in_body (tree.more_statements s ss) = message_statement_count s + in_body ss

-- of a message's statements
abbrev pub in_message : MessageSyntax → ℕ
in_message m = sum_by message_statement_count m.body

-- of a method's options
abbrev pub in_method : MethodSyntax → ℕ
in_method m = length m.options

-- of a statement of a service
abbrev pub service_statement_count : ServiceStatementSyntax → ℕ
service_statement_count (tree.service_method m) = suc (in_method m)
service_statement_count (tree.service_option o) = 1

-- of a service's statements
abbrev pub in_service : ServiceSyntax → ℕ
in_service s = sum_by service_statement_count s.body

-- of a statement of a file
abbrev pub statement_count : StatementSyntax → ℕ
statement_count (tree.file_import i) = 1
statement_count (tree.file_package p) = 1
statement_count (tree.file_option o) = 1
statement_count (tree.file_message m) = suc (in_message m)
statement_count (tree.file_enum e) = suc (in_enum e)
statement_count (tree.file_extend e) = suc (in_extend e)
statement_count (tree.file_service s) = suc (in_service s)

-- the statements of a whole file
abbrev pub statements_in : FileSyntax → ℕ
statements_in t = sum_by statement_count t.statements
