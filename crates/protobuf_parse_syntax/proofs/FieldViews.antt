-- What the views of types and fields say of each variant.
use Rattle.std.proofs.Common.{◌≡◌, ap, sym, ◌∙◌, String, string_bytes, Global}
use Rattle.protobuf_parse_syntax.specs.Trees as tree
use Rattle.protobuf_parse_syntax.specs.InnerViews.{group_syntax}
use Rattle.protobuf_parse_syntax.specs.Trees.{TypeSyntax, FieldStatementSyntax, GroupSyntax}
use Rattle.protobuf_parse_syntax.specs.declared.tree.field.Type.{fold-roll-Type}
use Rattle.protobuf_parse_syntax.specs.declared.tree.field.Type.TheOpen as type_layer
use Rattle.protobuf_parse_syntax.specs.declared.tree.field.Type.TheVariants as type_
use Rattle.protobuf_parse_syntax.specs.declared.tree.field.Field.{Field}
use Rattle.protobuf_parse_syntax.specs.declared.tree.field.Group.{Group, fold-Group, fold_out-Group}
use Rattle.protobuf_parse_syntax.specs.declared.tree.field.FieldStatement.{fold-roll-FieldStatement}
use Rattle.protobuf_parse_syntax.specs.declared.tree.field.FieldStatement.TheOpen as statement_layer
use Rattle.protobuf_parse_syntax.specs.declared.tree.field.FieldStatement.TheVariants as statement

pub views_named : (n : String Global) → tree.type_syntax (type_.Named n)
    ≡ tree.named (string_bytes n)
views_named n = ap tree.type_syntax (sym (type_.rolls-Named n))
    ∙ fold-roll-Type TypeSyntax tree.type_step (type_layer.Named n)

pub views_normal : (f : Field)
    → tree.field_statement_syntax (statement.Field f) ≡ tree.field (tree.field_syntax f)
views_normal f = ap tree.field_statement_syntax (sym (statement.rolls-Field f))
    ∙ fold-roll-FieldStatement FieldStatementSyntax GroupSyntax tree.field_statement_step
    tree.group_step (statement_layer.Field f)

views_inner : (g : Group)
    → fold-Group FieldStatementSyntax GroupSyntax tree.field_statement_step tree.group_step g
    ≡ group_syntax g
views_inner g =
    fold_out-Group FieldStatementSyntax GroupSyntax tree.field_statement_step tree.group_step g

pub views_group : (g : Group)
    → tree.field_statement_syntax (statement.Group g) ≡ tree.group_of (group_syntax g)
views_group g = ap tree.field_statement_syntax (sym (statement.rolls-Group g))
    ∙ fold-roll-FieldStatement FieldStatementSyntax GroupSyntax tree.field_statement_step
    tree.group_step (statement_layer.Group g) ∙ ap tree.group_of (views_inner g)
