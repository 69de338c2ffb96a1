-- What the views of messages and of each of their statements say.
use Rattle.std.proofs.Common.{◌≡◌, map, ap, sym, ◌∙◌}
use Rattle.protobuf_parse_base.specs.DeclaredNames.{name_bytes}
use Rattle.protobuf_parse_syntax.specs.Trees as tree
use Rattle.protobuf_parse_syntax.specs.InnerViews.{message_statement_syntax}
use Rattle.protobuf_parse_syntax.specs.Trees.{MessageSyntax, MessageStatementSyntax}
use Rattle.protobuf_parse_syntax.specs.declared.tree.declaration.ReservedStatement.{ReservedStatement}
use Rattle.protobuf_parse_syntax.specs.declared.tree.declaration.OneOf.{OneOf}
use Rattle.protobuf_parse_syntax.specs.declared.tree.declaration.Extend.{Extend}
use Rattle.protobuf_parse_syntax.specs.declared.tree.declaration.Message.{Message, fold_out-Message}
use Rattle.protobuf_parse_syntax.specs.declared.tree.declaration.Enumeration.{Enumeration}
use Rattle.protobuf_parse_syntax.specs.declared.tree.declaration.Extensions.{Extensions}
use Rattle.protobuf_parse_syntax.specs.declared.tree.option.OptionStatement.{OptionStatement}
use Rattle.protobuf_parse_syntax.specs.declared.tree.field.FieldStatement.{FieldStatement}
use Rattle.protobuf_parse_syntax.specs.declared.tree.declaration.MessageStatement.{fold-roll-MessageStatement}
use Rattle.protobuf_parse_syntax.specs.declared.tree.declaration.MessageStatement.TheOpen as layer
use Rattle.protobuf_parse_syntax.specs.declared.tree.declaration.MessageStatement.TheVariants as statement

pub view_parts : (m : Message)
    → tree.message_syntax m
    ≡ record {
      place = m.place;
      name = name_bytes m.name;
      body =
          map message_statement_syntax m.body.items;
    }
view_parts m =
    fold_out-Message MessageStatementSyntax MessageSyntax tree.message_statement_step
    tree.message_step m

pub views_reserved : (x : ReservedStatement)
    → message_statement_syntax (statement.Reserved x)
    ≡ tree.message_reserved (tree.reserved_statement_syntax x)
views_reserved x = ap message_statement_syntax (sym (statement.rolls-Reserved x))
    ∙ fold-roll-MessageStatement MessageStatementSyntax MessageSyntax tree.message_statement_step
    tree.message_step (layer.Reserved x)

pub views_oneof : (x : OneOf)
    → message_statement_syntax (statement.OneOf x) ≡ tree.message_oneof (tree.oneof_syntax x)
views_oneof x = ap message_statement_syntax (sym (statement.rolls-OneOf x))
    ∙ fold-roll-MessageStatement MessageStatementSyntax MessageSyntax tree.message_statement_step
    tree.message_step (layer.OneOf x)

pub views_extend : (x : Extend)
    → message_statement_syntax (statement.Extend x)
    ≡ tree.message_extend (tree.extend_syntax x)
views_extend x = ap message_statement_syntax (sym (statement.rolls-Extend x))
    ∙ fold-roll-MessageStatement MessageStatementSyntax MessageSyntax tree.message_statement_step
    tree.message_step (layer.Extend x)

pub views_message : (x : Message)
    → message_statement_syntax (statement.Message x)
    ≡ tree.nested_message (tree.message_syntax x)
views_message x = ap message_statement_syntax (sym (statement.rolls-Message x))
    ∙ fold-roll-MessageStatement MessageStatementSyntax MessageSyntax tree.message_statement_step
    tree.message_step (layer.Message x)

pub views_enum : (x : Enumeration)
    → message_statement_syntax (statement.Enumeration x)
    ≡ tree.message_enum (tree.enum_syntax x)
views_enum x = ap message_statement_syntax (sym (statement.rolls-Enumeration x))
    ∙ fold-roll-MessageStatement MessageStatementSyntax MessageSyntax tree.message_statement_step
    tree.message_step (layer.Enumeration x)

pub views_extensions : (x : Extensions)
    → message_statement_syntax (statement.Extensions x)
    ≡ tree.message_extensions (tree.extensions_syntax x)
views_extensions x = ap message_statement_syntax (sym (statement.rolls-Extensions x))
    ∙ fold-roll-MessageStatement MessageStatementSyntax MessageSyntax tree.message_statement_step
    tree.message_step (layer.Extensions x)

pub views_option : (x : OptionStatement)
    → message_statement_syntax (statement.Option x)
    ≡ tree.message_option (tree.option_statement_syntax x)
views_option x = ap message_statement_syntax (sym (statement.rolls-Option x))
    ∙ fold-roll-MessageStatement MessageStatementSyntax MessageSyntax tree.message_statement_step
    tree.message_step (layer.Option x)

pub views_field : (x : FieldStatement)
    → message_statement_syntax (statement.Field x)
    ≡ tree.message_field (tree.field_statement_syntax x)
views_field x = ap message_statement_syntax (sym (statement.rolls-Field x))
    ∙ fold-roll-MessageStatement MessageStatementSyntax MessageSyntax tree.message_statement_step
    tree.message_step (layer.Field x)
