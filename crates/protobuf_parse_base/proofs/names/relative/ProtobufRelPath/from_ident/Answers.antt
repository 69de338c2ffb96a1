-- An identifier is a path of one.
use Rattle.std.proofs.Common.{◌∷◌, [], string_bytes, ap, ◌∙◌}
use Rattle.protobuf_parse_base.proofs.NameTexts.{ident-relative}
use Rattle.protobuf_parse_base.proofs.names.relative.ProtobufRelPath.from_ident.Goals as goal

pub invariant_of-result : goal.invariant_of-result
invariant_of-result c =
    record {
      well_formed =
          (ident-relative (string_bytes c.into_string.result) c.into_string.ensures.ident).0;
    }

pub returns : goal.returns
returns c = (ident-relative (string_bytes c.into_string.result) c.into_string.ensures.ident).1
    ∙ ap (λ text. text ∷ []) c.into_string.ensures.text
