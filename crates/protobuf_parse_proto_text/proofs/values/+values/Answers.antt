use Rattle.std.proofs.Common.{◌∙◌, ◌++◌, List, ap, map, string_bytes, sym, ℕ}
use Rattle.protobuf_parse_model.specs.Descriptors.{file_view}
use Rattle.protobuf_parse_wire.specs.Views.{read_field_view}
use Rattle.protobuf_parse_proto_text.proofs.Growing.{grown_all}
use Rattle.protobuf_parse_proto_text.proofs.ValueTexts.{field_text, inner_text_is}
use Rattle.protobuf_parse_proto_text.proofs.values.+values.Goals as goal

pub put_inner-returns : goal.put_inner-returns
put_inner-returns t c =
    let files = map file_view c.args.index.now in
    grown_all (field_text files c.args.message.now) read_field_view _ _ _ _ c.fields-test.false
    c.fields.invariant
    ∙ ap (λ (x : List ℕ). string_bytes c.args.text.now ++ x)
    (sym (inner_text_is files c.args.message.now (map read_field_view c.args.fields.now)))
