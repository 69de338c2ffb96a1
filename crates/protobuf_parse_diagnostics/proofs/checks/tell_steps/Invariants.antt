use Rattle.std.proofs.Common.{take}
use Rattle.std.specs.Prelude.{flat_map}
use Rattle.protobuf_parse_diagnostics.specs.Told.{step_lines}
use Rattle.protobuf_parse_diagnostics.specs.Telling.{Tells}
use Rattle.protobuf_parse_diagnostics.proofs.checks.tell_steps.Given as goal

abbrev pub invariant-loop-step : goal.invariant-loop-step
invariant-loop-step g l = Tells (flat_map (step_lines l.given.sources.now l.given.unread.now) (take l.step-index l.steps))
    l.initial.told.items l.told.items
