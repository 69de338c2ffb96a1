use Rattle.std.proofs.Common.{◌∙◌, Some, None, cond, ap, sym}
use Rattle.std.specs.Prelude.{bytes_eq}
use Rattle.std.specs.BTreeMap.{get_by_text}
use Rattle.std.specs.Option.{option_or}
use Rattle.protobuf_parse_model.specs.Descriptors.{Text, file_view}
use Rattle.protobuf_parse_model.specs.declared.descriptor.FileDescriptorProto.{FileDescriptorProto}
use Rattle.protobuf_parse_index.specs.Walk.{path_of}
use Rattle.protobuf_parse_index.proofs.Positions.{first_at-more}
use Rattle.protobuf_parse_index.proofs.names.paths_of.Goals as goal

pub files-preserved : goal.files-preserved
files-preserved c = λ q.
    let item = c.index-files-at.result in
    c.in_ok-put_position.ensures q
    ∙ ap (λ (t : Text). option_or (get_by_text c.files.positions q)
    (cond (bytes_eq q t) (Some c.files.at) None)) c.path_of.ensures
    ∙ ap (λ o. option_or o (cond (bytes_eq q (path_of (file_view item)))
    (Some c.files.at) None)) (c.files.invariant q)
    ∙ sym (first_at-more (λ (f : FileDescriptorProto). bytes_eq q (path_of (file_view f)))
    c.args.files.now c.files.at item c.files-test.true c.index-files-at.is)
