use Rattle.std.proofs.Common.{arith, map, subst, sym}
use Rattle.std.proofs.Common.{take}
use Rattle.std.proofs.lemmas.List.{take_all}
use Rattle.protobuf_parse_run.specs.Run.{input_view}
use Rattle.protobuf_parse_load.specs.Loads.{steps_view}
use Rattle.protobuf_parse_check.specs.Reports.{AreClashes, clashes_in}
use Rattle.protobuf_parse_check.proofs.Clashing.{clashes-more, holds-at}
use Rattle.protobuf_parse_check.proofs.clashes.clashes_of.Goals as goal

pub loop-step-preserved : goal.loop-step-preserved
loop-step-preserved c files has holds =
    let inputs = map input_view c.args.given.now.inputs.now in
    let log = c.args.given.now.reads.now in
    let loaded = c.args.given.now.loaded.now.entries in
    let steps = c.args.steps.now in
    let i = c.loop-step.step-index in
    let x = c.step-item.result in
    subst (λ cs. AreClashes files inputs cs c.add_clash.new.clashes.items)
    (sym (clashes-more files steps i x c.loop-step-test.true c.step-item.is))
    (c.in_ok-add_clash.ensures files (clashes_in files (steps_view (take i steps))) has
    (holds-at inputs log loaded steps i x c.loop-step-test.true c.step-item.is holds)
    (c.loop-step.invariant files has holds))

pub returns : goal.returns
returns c files has holds =
    let steps = c.args.steps.now in
    subst (λ xs. AreClashes files (map input_view c.args.given.now.inputs.now)
    (clashes_in files (steps_view xs)) c.loop-step.clashes.items)
    (take_all c.loop-step.step-index steps (omega (arith, c.loop-step-test.false)))
    (c.loop-step.invariant files has holds)
