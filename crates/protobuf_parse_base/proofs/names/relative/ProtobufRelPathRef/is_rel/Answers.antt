-- The test of the parts is that of the path, if the path is not empty.
use Rattle.std.proofs.Common.{◌≡◌, sym, ap, ◌∙◌}
use Rattle.protobuf_parse_base.specs.Names.{are_idents, is_relative}
use Rattle.protobuf_parse_base.proofs.NameTexts.{IsRelative-from_test, is_relative-from_fact}
use Rattle.protobuf_parse_base.proofs.NameTexts.{nonempty-from_test, relative-parts}
use Rattle.protobuf_parse_base.proofs.names.relative.ProtobufRelPathRef.is_rel.Goals as goal

pub returns-else-is_empty-clause-meaning : goal.returns-else-is_empty-clause-meaning
returns-else-is_empty-clause-meaning c =
    let test : c.parts_are_idents.result ≡ is_relative c.args.text.now =
    c.parts_are_idents.ensures
    ∙ ap are_idents
    (sym (relative-parts c.args.text.now (nonempty-from_test _ c.if-is_empty.ensures))) in (
      λ accepted. IsRelative-from_test c.args.text.now (sym test ∙ accepted),
      λ fact. test
          ∙ is_relative-from_fact c.args.text.now fact,
    )
