use Rattle.std.proofs.Common.{◌∙◌, ◌++◌, ap, map}
use Rattle.protobuf_parse_syntax.specs.Trees.{file_syntax}
use Rattle.protobuf_parse_model.specs.Descriptors as described
use Rattle.protobuf_parse_model.specs.Faults.{fault_view, found}
use Rattle.protobuf_parse_model.specs.Tables.{picked}
use Rattle.protobuf_parse_elaboration.specs.FileDescriptor.{environment, file_faults, file_of}
use Rattle.protobuf_parse_elaboration.proofs.Gathering.{elaborated}
use Rattle.protobuf_parse_elaboration.proofs.constructs.elaborate.Goals as goal

pub returns : goal.returns
returns g c files told =
    let t = file_syntax c.args.tree.now in
    let env = environment (picked files c.args.seen.now.sight.now)
    (g.C.CustomOptions.customs c.args.custom.now) t in
    elaborated described.file_view c.unless_told.result (found c.elaborate_all.new.faults)
    (file_faults env t) c.in_ok-descriptor.descriptor (file_of env c.args.name.now t)
    (c.in_ok-descriptor.ensures.faults files told
    ∙ ap (λ fs. map fault_view fs ++ file_faults env t) c.new-faults.ensures.items)
    (c.in_ok-descriptor.ensures.value files told) c.unless_told.ensures
