use Rattle.std.proofs.Common.{◌∙◌, ◌++◌, List, ap, append_assoc, flat_map, map, subst}
use Rattle.protobuf_parse_syntax.specs.Trees.{statement_syntax}
use Rattle.protobuf_parse_syntax.specs.declared.tree.FileStatement.{FileStatement}
use Rattle.protobuf_parse_model.specs.SeenFiles.{environment_in}
use Rattle.protobuf_parse_model.specs.Faults.{found}
use Rattle.protobuf_parse_elaboration.specs.FileDescriptor.{file_duplicates, file_faults_of}
use Rattle.protobuf_parse_elaboration.specs.FileParts.{AreFilePlaces}
use Rattle.protobuf_parse_elaboration.proofs.constructs.contents.contents_of_owned.Goals as goal

pub tell_file_names-requires : goal.tell_file_names-requires
tell_file_names-requires g c =
    let env = environment_in (g.C.CustomOptions.customs c.args.at.now.custom.now)
    c.args.at.now.context in (
      map statement_syntax c.args.statements.items,
      env,
      c.in_ok-contents.ensures.value,
      subst (λ (xs : List FileStatement). AreFilePlaces c.in_ok-places.places
          (map statement_syntax xs)) c.deref.ensures.value c.in_ok-places.ensures,
    )

pub returns-clause-faults : goal.returns-clause-faults
returns-clause-faults g c =
    let env = environment_in (g.C.CustomOptions.customs c.args.at.now.custom.now)
    c.args.at.now.context in
    let ss = map statement_syntax c.args.statements.items in
    let are = subst (λ (xs : List FileStatement). AreFilePlaces c.in_ok-places.places
    (map statement_syntax xs)) c.deref.ensures.value c.in_ok-places.ensures in
    c.in_ok-tell_file_names.ensures ss env c.in_ok-contents.ensures.value are
    ∙ ap (λ fs. fs ++ file_duplicates ss) c.in_ok-contents.ensures.faults
    ∙ append_assoc (found c.args.faults.now) (flat_map (file_faults_of env) ss)
    (file_duplicates ss)
