use Rattle.std.proofs.Common.{◌≡◌, ◌++◌, map, flat_map}
use Rattle.protobuf_parse_syntax.specs.Trees.{statement_syntax}
use Rattle.protobuf_parse_model.specs.SeenFiles.{environment_in}
use Rattle.protobuf_parse_model.specs.Faults.{found}
use Rattle.protobuf_parse_elaboration.specs.FileDescriptor.{file_faults_of}
use Rattle.protobuf_parse_elaboration.specs.FileParts.{parts_of_file, parts_view}
use Rattle.protobuf_parse_elaboration.proofs.constructs.contents.declared_by_owned.Given as goal

abbrev pub invariant-loop-statement : goal.invariant-loop-statement
invariant-loop-statement g l =
    let env = environment_in (g.C.CustomOptions.customs l.at.custom.now) l.at.context in
    let seen = map statement_syntax l.yielded in
    record {
      told : found l.faults ≡ found l.initial.faults ++ flat_map (file_faults_of env) seen;
      all : parts_view l.contents ≡ parts_of_file env seen;
    }
