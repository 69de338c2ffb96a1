use Rattle.std.proofs.Common.{take}
use Rattle.std.specs.Prelude.{flat_map}
use Rattle.protobuf_parse_diagnostics.specs.Told.{report_lines}
use Rattle.protobuf_parse_diagnostics.specs.Telling.{Tells}
use Rattle.protobuf_parse_diagnostics.proofs.meaning.tell_reports.Given as goal

abbrev pub invariant-loop-report : goal.invariant-loop-report
invariant-loop-report l = Tells (flat_map (report_lines l.sources) (take l.report-index l.reports))
    l.initial.told.items l.told.items
