use Rattle.std.proofs.Common.{◌≡◌, ◌+◌, ◌-◌, ◌≤◌, length, take}
use Rattle.protobuf_parse_lexer.specs.Place.{after}
use Rattle.protobuf_parse_lexer.proofs.lexer.place.place_after_runs.Given as goal

abbrev pub invariant-loop-at : goal.invariant-loop-at
invariant-loop-at l =
    (l.now ≡ after l.fn.place (take l.at l.bytes)) × (l.at ≤ length l.bytes)
    × (l.now.line ≤ l.fn.place.line + l.at) × (l.now.col ≤ l.fn.place.col + l.at)

abbrev pub decreases-loop-at : goal.decreases-loop-at
decreases-loop-at l = length l.bytes - l.at
