use Rattle.std.proofs.Common.{◌∙◌, ◌++◌, ap, sym}
use Rattle.protobuf_parse_model.specs.Descriptors.{file_view}
use Rattle.protobuf_parse_set_rules.specs.Rules.{file_breaches}
use Rattle.protobuf_parse_set_rules.specs.Held.{known_view}
use Rattle.protobuf_parse_set_rules.proofs.Lists.{positioned_more}
use Rattle.protobuf_parse_set_rules.proofs.files.check_files.Goals as goal

pub files-preserved : goal.files-preserved
files-preserved c =
    let this = c.index-files-position.result in
    let told_of = file_breaches (known_view c.args.known.now) in
    c.in_ok-check_file.ensures
    ∙ ap (λ z. z ++ told_of c.files.position (file_view this)) c.files.invariant
    ∙ sym (positioned_more told_of file_view c.args.files.now c.files.position this
    c.files-test.true c.index-files-position.is)
