use Rattle.std.proofs.Common.{inr, refl, Some}
use Rattle.protobuf_parse_syntax.specs.Trees.{file_syntax}
use Rattle.protobuf_parse_model.specs.Faults.{fault_view}
use Rattle.protobuf_parse_run.specs.Run.{origin_given}
use Rattle.protobuf_parse_run.specs.Loading.{IsToldOver, descriptors_over}
use Rattle.protobuf_parse_run.proofs.Leaving.{elab-stands}
use Rattle.protobuf_parse_run.proofs.loader.descriptor_of.Goals as goal

pub returns-in-Ok-clause-ok : goal.returns-in-Ok-clause-ok
returns-in-Ok-clause-ok c = c.in-Ok.ensures.elaborates

pub returns-in-Err-Memory-clause-err : goal.returns-in-Err-Memory-clause-err
returns-in-Err-Memory-clause-err c files told e found named = inr refl

pub returns-in-Err-Fault-clause-err : goal.returns-in-Err-Fault-clause-err
returns-in-Err-Fault-clause-err c files told e found named =
    let t = file_syntax c.args.tree in
    let sight = c.args.sights.now.sight.items in
    let descriptors =
    descriptors_over c.args.loader.now.loaded.entries files sight c.args.path.now t in
    elab-stands (origin_given c.args.path.now (Some e.outcome))
    (IsToldOver c.args.loader.now.loaded.entries files descriptors
    c.args.sights.now.reach.items sight t)
    (fault_view c.in-Err-Fault.error) c.refused.result
    (rw c.in-Err-Fault.field-0-is at (c.in-Err-Fault.ensures.elaborates files told))
    (c.refused.ensures e (rw c.deref.ensures.value found) named)
