use Rattle.std.proofs.Common.{◌≡◌, ℕ, ◌-◌, ◌<◌, ◌≤◌, length, slice_index}
use Rattle.protobuf_parse_lexer.proofs.lexer.place.spaces_end.Given as goal

abbrev pub invariant-loop-end : goal.invariant-loop-end
invariant-loop-end l =
    (l.at ≤ l.end) × (l.end ≤ length l.bytes)
    × ((k : ℕ) → l.at ≤ k → k < l.end → slice_index l.bytes k ≡ 32)

abbrev pub decreases-loop-end : goal.decreases-loop-end
decreases-loop-end l = length l.bytes - l.end
