use Rattle.std.proofs.Common.{take}
use Rattle.protobuf_parse_load.specs.Loads.{steps_view}
use Rattle.protobuf_parse_check.specs.Judging.{HasCuts}
use Rattle.protobuf_parse_check.proofs.cuts.cuts_of.Given as goal

abbrev pub invariant-loop-step : goal.invariant-loop-step
invariant-loop-step l = HasCuts (steps_view (take l.step-index l.steps)) l.cuts
