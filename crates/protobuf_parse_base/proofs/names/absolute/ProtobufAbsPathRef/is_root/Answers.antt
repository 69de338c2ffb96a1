-- The root is the empty text.
use Rattle.std.proofs.Common.{ap, ◌∙◌, length, ◌==◌, sym}
use Rattle.std.proofs.lemmas.Bool.{eqb-true}
use Rattle.std.proofs.lemmas.List.{nil_from_length}
use Rattle.protobuf_parse_base.specs.Names.{absolute_idents}
use Rattle.protobuf_parse_base.proofs.NameTexts.{absolute-empty}
use Rattle.protobuf_parse_base.proofs.names.absolute.ProtobufAbsPathRef.is_root.Goals as goal

pub returns : goal.returns
returns c = (
  λ empty.
      ap absolute_idents
      (nil_from_length c.args.self.text.now (eqb-true _ 0 (sym c.is_empty.ensures ∙ empty))),
  λ none. c.is_empty.ensures
      ∙ ap (λ text. length text == 0) (absolute-empty c.args.self.text.now none),
)
