use Rattle.std.proofs.Common.{map, take}
use Rattle.protobuf_parse_run.specs.Run.{Files, input_view, rows}
use Rattle.protobuf_parse_load.specs.Loads.{steps_view}
use Rattle.protobuf_parse_check.specs.Judging.{HasReads, HoldSteps}
use Rattle.protobuf_parse_check.specs.Reports.{AreClashes, clashes_in}
use Rattle.protobuf_parse_check.proofs.clashes.clashes_of.Given as goal

abbrev pub invariant-loop-step : goal.invariant-loop-step
invariant-loop-step l = (files : Files) → HasReads files (rows l.given.bundled.now) l.given.reads.now
    → HoldSteps (map input_view l.given.inputs.now) l.given.reads.now l.given.loaded.now.entries
    (steps_view l.steps)
    → AreClashes files (map input_view l.given.inputs.now)
    (clashes_in files (steps_view (take l.step-index l.steps))) l.clashes.items
