-- No public clause rests on this file.
-- What stands inside trees, without where it lies in memory.
use Rattle.std.specs.Prelude.{map}
use Rattle.protobuf_parse_base.specs.DeclaredNames.{name_bytes}
use Rattle.protobuf_parse_syntax.specs.declared.tree.constant.ConstantField.{ConstantField}
use Rattle.protobuf_parse_syntax.specs.declared.tree.field.Group.{Group}
use Rattle.protobuf_parse_syntax.specs.declared.tree.declaration.MessageStatement.{MessageStatement}
use Rattle.protobuf_parse_syntax.specs.declared.tree.declaration.MessageStatement.{fold-MessageStatement}
use Rattle.protobuf_parse_syntax.specs.Trees.{ConstantFieldSyntax, GroupSyntax}
use Rattle.protobuf_parse_syntax.specs.Trees.{MessageStatementSyntax, MessageSyntax}
use Rattle.protobuf_parse_syntax.specs.Trees.{constant_name_syntax, constant_syntax}
use Rattle.protobuf_parse_syntax.specs.Trees.{field_statement_syntax, message_statement_step}
use Rattle.protobuf_parse_syntax.specs.Trees.{message_step}

abbrev pub constant_field_syntax : ConstantField → ConstantFieldSyntax
constant_field_syntax f =
    record { name = constant_name_syntax f.name; value = constant_syntax f.value }

abbrev pub group_syntax : Group → GroupSyntax
group_syntax g = record {
  place = g.place;
  label = g.label;
  name = name_bytes g.name;
  number = g.number;
  fields = map field_statement_syntax g.fields.items;
}

abbrev pub message_statement_syntax : MessageStatement → MessageStatementSyntax
message_statement_syntax =
    fold-MessageStatement MessageStatementSyntax MessageSyntax message_statement_step message_step
