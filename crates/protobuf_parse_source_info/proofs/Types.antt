-- What the views of types say of each variant.
use Rattle.std.proofs.Common.{◌≡◌, ap, sym, ◌∙◌, Box, Global}
use Rattle.protobuf_parse_syntax.specs.Trees as tree
use Rattle.protobuf_parse_syntax.specs.Trees.{TypeSyntax}
use Rattle.protobuf_parse_syntax.specs.declared.tree.field.Scalar.{Scalar}
use Rattle.protobuf_parse_syntax.specs.declared.tree.field.Type.{«Type», fold-roll-Type}
use Rattle.protobuf_parse_syntax.specs.declared.tree.field.Type.TheOpen as layer
use Rattle.protobuf_parse_syntax.specs.declared.tree.field.Type.TheVariants as type_

pub views_scalar : (s : Scalar) → tree.type_syntax (type_.Scalar s) ≡ tree.scalar s
views_scalar s = ap tree.type_syntax (sym (type_.rolls-Scalar s))
    ∙ fold-roll-Type TypeSyntax tree.type_step (layer.Scalar s)

pub views_map : (k v : Box «Type» Global)
    → tree.type_syntax (type_.Map k v)
    ≡ tree.map_of (tree.type_syntax k.value) (tree.type_syntax v.value)
views_map k v = ap tree.type_syntax (sym (type_.rolls-Map k v))
    ∙ fold-roll-Type TypeSyntax tree.type_step (layer.Map k v)
