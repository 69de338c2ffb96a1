-- An identifier is a path of one.
use Rattle.std.proofs.Common.{◌≡◌, ◌∷◌, ◌++◌, [], ap, ◌∙◌}
use Rattle.std.proofs.lemmas.Result.{IfOk-weaker}
use Rattle.protobuf_parse_base.specs.Names.{relative_idents}
use Rattle.protobuf_parse_base.specs.NameViews.{rel_ref_idents, ident_ref_text}
use Rattle.protobuf_parse_base.proofs.NameTexts.{ident-relative}
use Rattle.protobuf_parse_base.proofs.names.relative.ProtobufRelPathRef.append_ident.Goals as goal

pub new-requires : goal.new-requires
new-requires c = (ident-relative c.as_str.result.now c.as_str.ensures.ident).0

pub returns : goal.returns
returns c =
    let one : rel_ref_idents c.new.result ≡ ident_ref_text c.args.ident ∷ [] =
    ap relative_idents c.new.ensures
    ∙ ((ident-relative c.as_str.result.now c.as_str.ensures.ident).1
    ∙ ap (λ text. text ∷ []) c.as_str.ensures.text) in
    IfOk-weaker c.append.result _ _
    (λ path gives. gives ∙ ap (λ ids. rel_ref_idents c.args.self ++ ids) one) c.append.ensures
