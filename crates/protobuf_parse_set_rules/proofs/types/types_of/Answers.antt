use Rattle.std.proofs.Common.{◌∙◌, ◌++◌, ap, sym}
use Rattle.protobuf_parse_model.specs.Descriptors.{file_view}
use Rattle.protobuf_parse_set_rules.specs.Types.{file_types}
use Rattle.protobuf_parse_set_rules.proofs.Lists.{positioned_more}
use Rattle.protobuf_parse_set_rules.proofs.types.types_of.Goals as goal

pub files-preserved : goal.files-preserved
files-preserved c =
    let this = c.index-files-position.result in
    c.in_ok-add_file.ensures
    ∙ ap (λ z. z ++ file_types c.files.position (file_view this)) c.files.invariant
    ∙ sym (positioned_more file_types file_view c.args.files.now c.files.position this
    c.files-test.true c.index-files-position.is)
