use Rattle.std.proofs.Common.{◌≡◌, ◌≤◌, length, drop, map, reverse}
use Rattle.protobuf_parse_merged.specs.Oneofs as spec
use Rattle.protobuf_parse_merged.specs.Behind.{HasMembers}
use Rattle.protobuf_parse_merged.specs.Inside.{occurrence_view}
use Rattle.protobuf_parse_merged.proofs.oneofs.counting.Given as goal

abbrev pub invariant-back : goal.invariant-back
invariant-back l =
    (l.at ≤ length l.occurrences)
    × HasMembers l.behind (map occurrence_view (drop l.at l.occurrences))
    × (reverse (map occurrence_view l.kept.items)
    ≡ spec.counting (map occurrence_view (drop l.at l.occurrences)))

abbrev pub decreases-back : goal.decreases-back
decreases-back l = l.at
