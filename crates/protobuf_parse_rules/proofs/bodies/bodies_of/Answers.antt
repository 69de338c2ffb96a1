use Rattle.std.proofs.Common.{◌++◌, List, sym, ap, ◌∙◌}
use Rattle.protobuf_parse_model.specs.Descriptors.{file_view}
use Rattle.protobuf_parse_rules.specs.Bodies.{BodyParts, bodies_in}
use Rattle.protobuf_parse_rules.proofs.Lists.{joined_one_more}
use Rattle.protobuf_parse_rules.proofs.bodies.bodies_of.Goals as goal

pub files-preserved : goal.files-preserved
files-preserved c =
    c.in_ok-add_file.ensures
    ∙ ap (λ (ps : List BodyParts). ps ++ bodies_in (file_view c.file-item.result)) c.files.invariant
    ∙ sym (joined_one_more bodies_in file_view c.args.files.now c.files.file-index
    c.file-item.result c.files-test.true c.file-item.is)
