use Rattle.std.proofs.Common.{◌-◌, ◌≤◌, length, map, slice_range}
use Rattle.protobuf_parse_merged.specs.Inside.{AreOf, occurrence_view}
use Rattle.protobuf_parse_merged.proofs.runs.run_end.Given as goal

abbrev pub invariant-run : goal.invariant-run
invariant-run l =
    (l.start ≤ l.end) × (l.end ≤ length l.occurrences)
    × AreOf l.number (map occurrence_view (slice_range l.occurrences l.start l.end))

abbrev pub decreases-run : goal.decreases-run
decreases-run l = length l.occurrences - l.end
