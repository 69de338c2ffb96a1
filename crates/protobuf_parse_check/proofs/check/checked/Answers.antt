use Rattle.std.proofs.Common.{◌≡◌, ◌∙◌, List, ap, map, subst, sym}
use Rattle.protobuf_parse_run.specs.Run.{input_view}
use Rattle.protobuf_parse_run.specs.declared.log.ReadEntry.{ReadEntry}
use Rattle.protobuf_parse_load.specs.Loads.{steps_view}
use Rattle.protobuf_parse_load.specs.Steps.{Step, closed_paths}
use Rattle.protobuf_parse_check.specs.Judging.{HoldSteps}
use Rattle.protobuf_parse_check.specs.Reports.{AreClashes, AreReports, clashes_in, files_of}
use Rattle.protobuf_parse_check.specs.SoFar.{HoldReads}
use Rattle.protobuf_parse_check.proofs.Finishing.{are-reports, hold-steps}
use Rattle.protobuf_parse_check.proofs.check.checked.Goals as goal

pub returns-clause-clashes : goal.returns-clause-clashes
returns-clause-clashes c k ordered is has holds =
    let inputs = map input_view c.args.inputs.now in
    let judge = c.in_ok-judge.judge in
    let so_far = c.in_ok-judge.ensures k ordered
    (ap steps_view c.deref.ensures.value ∙ is.steps) is.files in
    let held_so = hold-steps k inputs (closed_paths k.steps) judge.loaded.entries
    judge.verdicts.items so_far.verdicts k.steps
    (subst (λ (log : List ReadEntry). HoldReads inputs log (closed_paths k.steps) k.steps)
    (sym has.reads_are) holds) in
    let steps : steps_view c.deref-2.result.now ≡ k.steps =
    ap steps_view c.deref-2.ensures.value ∙ is.steps in
    subst (λ (ss : List Step). AreClashes (files_of k) inputs (clashes_in (files_of k) ss)
    c.in_ok-clashes.clashes.items) steps
    (c.in_ok-clashes.ensures (files_of k) has
    (subst (λ (log : List ReadEntry). HoldSteps inputs log judge.loaded.entries
    (steps_view c.deref-2.result.now)) has.reads_are
    (subst (λ (ss : List Step). HoldSteps inputs k.reads judge.loaded.entries ss) (sym steps)
    held_so)))

pub returns-clause-files : goal.returns-clause-files
returns-clause-files c k ordered is =
    let so_far = c.in_ok-judge.ensures k ordered
    (ap steps_view c.deref.ensures.value ∙ is.steps) is.files in
    subst (AreReports k (closed_paths k.steps)) (sym c.in_ok-files.ensures)
    (are-reports k (closed_paths k.steps) c.in_ok-judge.judge.loaded.entries
    c.in_ok-judge.judge.verdicts.items so_far.verdicts)
