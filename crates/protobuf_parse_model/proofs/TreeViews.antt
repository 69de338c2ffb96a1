-- What the views of recursive trees say of each variant.
use Rattle.std.proofs.Common.{◌≡◌, ap, sym, ◌∙◌, rules, map, string_bytes}
use Rattle.std.specs.Prelude.{String}
use Rattle.std.specs.Global.{Global}
use Rattle.protobuf_parse_syntax.specs.Trees as tree
use Rattle.protobuf_parse_syntax.specs.InnerViews.{message_statement_syntax}
use Rattle.protobuf_parse_syntax.specs.Trees.{ConstantSyntax, ConstantFieldSyntax}
use Rattle.protobuf_parse_syntax.specs.Trees.{MessageStatementSyntax, MessageSyntax}
use Rattle.protobuf_parse_syntax.specs.declared.tree.constant.ProtobufConstant.{fold-roll-ProtobufConstant}
use Rattle.protobuf_parse_syntax.specs.declared.tree.constant.ProtobufConstant.TheOpen as constant_layer
use Rattle.protobuf_parse_syntax.specs.declared.tree.constant.ProtobufConstant.TheVariants.{rolls-Ident}
use Rattle.protobuf_parse_syntax.specs.declared.tree.constant.ProtobufConstant.TheVariants.{Ident as is_ident}
use Rattle.protobuf_parse_syntax.specs.declared.tree.declaration.Message.{Message, fold_out-Message}
use Rattle.protobuf_parse_syntax.specs.declared.tree.declaration.Message.{the_lemmas}
use Rattle.protobuf_parse_syntax.specs.declared.tree.declaration.MessageStatement.{fold-roll-MessageStatement}
use Rattle.protobuf_parse_syntax.specs.declared.tree.declaration.MessageStatement.TheOpen as layer
use Rattle.protobuf_parse_syntax.specs.declared.tree.declaration.MessageStatement.TheVariants.{rolls-Extend}
use Rattle.protobuf_parse_syntax.specs.declared.tree.declaration.MessageStatement.TheVariants.{Extend as is_extend}
use Rattle.protobuf_parse_syntax.specs.declared.tree.declaration.MessageStatement.TheVariants.{rolls-Message}
use Rattle.protobuf_parse_syntax.specs.declared.tree.declaration.MessageStatement.TheVariants.{Message as is_message}
use Rattle.protobuf_parse_syntax.specs.declared.tree.declaration.Extend.{Extend}

pub views_message : (m : Message)
    → (tree.message_syntax m).body ≡ map message_statement_syntax m.body.items
views_message m = search (rules, the_lemmas, fold_out-Message)

pub views_nested : (m : Message)
    → message_statement_syntax (is_message m) ≡ tree.nested_message (tree.message_syntax m)
views_nested m = ap message_statement_syntax (sym (rolls-Message m))
    ∙ fold-roll-MessageStatement MessageStatementSyntax MessageSyntax tree.message_statement_step
    tree.message_step (layer.MessageStatement-F.Message m)

pub views_extend : (e : Extend)
    → message_statement_syntax (is_extend e) ≡ tree.message_extend (tree.extend_syntax e)
views_extend e = ap message_statement_syntax (sym (rolls-Extend e))
    ∙ fold-roll-MessageStatement MessageStatementSyntax MessageSyntax tree.message_statement_step
    tree.message_step (layer.MessageStatement-F.Extend e)

pub views_ident : (name : String Global)
    → tree.constant_syntax (is_ident name) ≡ tree.dotted (string_bytes name)
views_ident name = ap tree.constant_syntax (sym (rolls-Ident name))
    ∙ fold-roll-ProtobufConstant ConstantSyntax ConstantFieldSyntax tree.constant_step
    tree.constant_field_step (constant_layer.ProtobufConstant-F.Ident name)
