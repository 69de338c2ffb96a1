use Rattle.std.proofs.Common.{◌∙◌, ◌++◌, ap, append_assoc, flat_map, map}
use Rattle.protobuf_parse_syntax.specs.Trees.{statement_syntax}
use Rattle.protobuf_parse_model.specs.SeenFiles.{environment_in}
use Rattle.protobuf_parse_model.specs.Faults.{found}
use Rattle.protobuf_parse_elaboration.specs.FileDescriptor.{file_duplicates, file_faults_of}
use Rattle.protobuf_parse_elaboration.proofs.constructs.contents.contents_of.Goals as goal

pub returns-clause-faults : goal.returns-clause-faults
returns-clause-faults g c =
    let env = environment_in (g.C.CustomOptions.customs c.args.at.now.custom.now)
    c.args.at.now.context in
    let ss = map statement_syntax c.args.statements.now in
    c.in_ok-tell_file_names.ensures ss env c.in_ok-contents.ensures.value c.in_ok-places.ensures
    ∙ ap (λ fs. fs ++ file_duplicates ss) c.in_ok-contents.ensures.faults
    ∙ append_assoc (found c.args.faults.now) (flat_map (file_faults_of env) ss)
    (file_duplicates ss)
