-- What the views of recursive trees say of each variant.
use Rattle.std.proofs.Common.{◌≡◌, ℕ, ℤ, pos, Vec, map, ap, sym, ◌∙◌, String, string_bytes, Global}
use Rattle.protobuf_parse_lexer.specs.declared.lexer.str_lit.StrLit.{StrLit}
use Rattle.protobuf_parse_syntax.specs.Trees as tree
use Rattle.protobuf_parse_syntax.specs.InnerViews.{constant_field_syntax}
use Rattle.protobuf_parse_syntax.specs.Trees.{ConstantSyntax, ConstantFieldSyntax}
use Rattle.protobuf_parse_syntax.specs.declared.tree.constant.ConstantField.{ConstantField}
use Rattle.protobuf_parse_syntax.specs.declared.tree.constant.ConstantField.{fold-ConstantField}
use Rattle.protobuf_parse_syntax.specs.declared.tree.constant.ConstantField.{fold_out-ConstantField}
use Rattle.protobuf_parse_syntax.specs.declared.tree.constant.ProtobufConstant.{ProtobufConstant}
use Rattle.protobuf_parse_syntax.specs.declared.tree.constant.ProtobufConstant.{fold-roll-ProtobufConstant}
use Rattle.protobuf_parse_syntax.specs.declared.tree.constant.ProtobufConstant.TheOpen as layer
use Rattle.protobuf_parse_syntax.specs.declared.tree.constant.ProtobufConstant.TheVariants.{U64}
use Rattle.protobuf_parse_syntax.specs.declared.tree.constant.ProtobufConstant.TheVariants.{I64}
use Rattle.protobuf_parse_syntax.specs.declared.tree.constant.ProtobufConstant.TheVariants.{Ident}
use Rattle.protobuf_parse_syntax.specs.declared.tree.constant.ProtobufConstant.TheVariants.{String as Text}
use Rattle.protobuf_parse_syntax.specs.declared.tree.constant.ProtobufConstant.TheVariants.{List as Constants}
use Rattle.protobuf_parse_syntax.specs.declared.tree.constant.ProtobufConstant.TheVariants.{Message as Fields}
use Rattle.protobuf_parse_syntax.specs.declared.tree.constant.ProtobufConstant.TheVariants.{rolls-U64}
use Rattle.protobuf_parse_syntax.specs.declared.tree.constant.ProtobufConstant.TheVariants.{rolls-I64}
use Rattle.protobuf_parse_syntax.specs.declared.tree.constant.ProtobufConstant.TheVariants.{rolls-Ident}
use Rattle.protobuf_parse_syntax.specs.declared.tree.constant.ProtobufConstant.TheVariants.{rolls-String}
use Rattle.protobuf_parse_syntax.specs.declared.tree.constant.ProtobufConstant.TheVariants.{rolls-List}
use Rattle.protobuf_parse_syntax.specs.declared.tree.constant.ProtobufConstant.TheVariants.{rolls-Message}

pub views_ident : (n : String Global) → tree.constant_syntax (Ident n)
    ≡ tree.dotted (string_bytes n)
views_ident n = ap tree.constant_syntax (sym (rolls-Ident n))
    ∙ fold-roll-ProtobufConstant ConstantSyntax ConstantFieldSyntax tree.constant_step
    tree.constant_field_step (layer.Ident n)

pub views_number : (n : ℕ) → tree.constant_syntax (U64 n) ≡ tree.integer (pos n)
views_number n = ap tree.constant_syntax (sym (rolls-U64 n))
    ∙ fold-roll-ProtobufConstant ConstantSyntax ConstantFieldSyntax tree.constant_step
    tree.constant_field_step (layer.U64 n)

pub views_signed : (z : ℤ) → tree.constant_syntax (I64 z) ≡ tree.integer z
views_signed z = ap tree.constant_syntax (sym (rolls-I64 z))
    ∙ fold-roll-ProtobufConstant ConstantSyntax ConstantFieldSyntax tree.constant_step
    tree.constant_field_step (layer.I64 z)

pub views_text : (t : StrLit) → tree.constant_syntax (Text t) ≡ tree.string (tree.pieces_of t)
views_text t = ap tree.constant_syntax (sym (rolls-String t))
    ∙ fold-roll-ProtobufConstant ConstantSyntax ConstantFieldSyntax tree.constant_step
    tree.constant_field_step (layer.String t)

pub views_list : (v : Vec ProtobufConstant Global)
    → tree.constant_syntax (Constants v) ≡ tree.list (tree.constants
    (map tree.constant_syntax v.items))
views_list v = ap tree.constant_syntax (sym (rolls-List v))
    ∙ fold-roll-ProtobufConstant ConstantSyntax ConstantFieldSyntax tree.constant_step
    tree.constant_field_step (layer.List v)

views_field : (f : ConstantField)
    → fold-ConstantField ConstantSyntax ConstantFieldSyntax tree.constant_step
    tree.constant_field_step f ≡ constant_field_syntax f
views_field f =
    fold_out-ConstantField ConstantSyntax ConstantFieldSyntax tree.constant_step
    tree.constant_field_step f

pub views_fields : (v : Vec ConstantField Global)
    → tree.constant_syntax (Fields v)
    ≡ tree.fields (tree.constant_fields (map constant_field_syntax v.items))
views_fields v = ap tree.constant_syntax (sym (rolls-Message v))
    ∙ fold-roll-ProtobufConstant ConstantSyntax ConstantFieldSyntax tree.constant_step
    tree.constant_field_step (layer.Message v)
    ∙ (λ i. tree.fields (tree.constant_fields (map (λ f. views_field f i) v.items)))
