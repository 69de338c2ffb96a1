-- An identifier is a path of one.
use Rattle.std.proofs.Common.{◌≡◌, ◌∷◌, ◌++◌, [], ap, ◌∙◌}
use Rattle.std.proofs.lemmas.Result.{on_ok_weaker}
use Rattle.protobuf_parse_base.specs.Names.{relative_idents}
use Rattle.protobuf_parse_base.specs.NameViews.{abs_idents, rel_ref_idents, ident_ref_text}
use Rattle.protobuf_parse_base.proofs.NameTexts.{ident-relative}
use Rattle.protobuf_parse_base.proofs.names.absolute.ProtobufAbsPath.push_simple.Goals as goal

pub new-requires : goal.new-requires
new-requires c = (ident-relative c.as_str.result.now c.as_str.ensures.ident).0

pub returns-clause-ok : goal.returns-clause-ok
returns-clause-ok c =
    let one : rel_ref_idents c.new.result ≡ ident_ref_text c.args.simple ∷ [] =
    ap relative_idents c.new.ensures
    ∙ ((ident-relative c.as_str.result.now c.as_str.ensures.ident).1
    ∙ ap (λ text. text ∷ []) c.as_str.ensures.text) in
    on_ok_weaker c.push_relative.result
    (λ gives. gives ∙ ap (λ ids. abs_idents c.args.self.now ++ ids) one)
    c.push_relative.ensures.ok
