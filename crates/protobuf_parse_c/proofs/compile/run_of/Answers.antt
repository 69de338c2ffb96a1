use Rattle.std.proofs.Common.{ℕ, List, map, subst}
use Rattle.protobuf_parse_model.specs.Descriptors.{file_view}
use Rattle.protobuf_parse_model.specs.declared.descriptor.FileDescriptorProto.{FileDescriptorProto}
use Rattle.protobuf_parse_run.specs.Run.{input_view}
use Rattle.protobuf_parse_c.specs.Answers.{IsOfNobody, IsSpelled}
use Rattle.protobuf_parse_c.specs.ByPath.{content_at}
use Rattle.protobuf_parse_c.specs.Handed.{IsOfHanded}
use Rattle.protobuf_parse_c.proofs.Making.{answer_more, run_ended}
use Rattle.protobuf_parse_c.proofs.compile.run_of.Goals as goal

pub returns-in-Ok : goal.returns-in-Ok
returns-in-Ok c =
    let run = c.run_inputs-log in
    let content = content_at c.args.handed.now.by_path in
    answer_more _ _ (λ set spelled. record {
      descriptors = c.in-Ok.files;
      run = run_ended (λ path answer. IsOfHanded (content path) answer) IsOfNobody
          (map input_view c.args.inputs.now) _ run.result.reads.items run.result.result c.in-Ok.files
          c.google_files.ensures c.in-Ok.is run.ensures.trees run.ensures.lists run.ensures.told
          run.ensures.once run.ensures.options run.ensures.readable;
      spelled = subst (λ (fs : List FileDescriptorProto). IsSpelled (map file_view fs) set.items)
          c.deref-in-Ok.ensures.value spelled;
    }) c.ruled.result c.ruled.ensures
