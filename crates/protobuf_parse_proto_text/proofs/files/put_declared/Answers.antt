use Rattle.std.proofs.Common.{◌∙◌, ap, map, subst, sym}
use Rattle.protobuf_parse_model.specs.Descriptors.{Text, file_view}
use Rattle.protobuf_parse_proto_text.specs.Made.{text_in_file}
use Rattle.protobuf_parse_proto_text.specs.Puts.{Puts}
use Rattle.protobuf_parse_proto_text.proofs.Inside.{declared_in_order}
use Rattle.protobuf_parse_proto_text.proofs.files.put_declared.Goals as goal

pub returns : goal.returns
returns c =
    let files = map file_view c.args.index.now in
    let puts : Text → Type 0 =
    λ words. Puts c.put_in_scope.result c.args.text.now c.put_in_scope.new.text words in
    subst puts
    (ap (λ (scope : Text). text_in_file files scope c.args.file.now)
    (c.deref.ensures ∙ c.in_ok-scope.ensures) ∙ sym (declared_in_order files c.args.file.now))
    c.put_in_scope.ensures
