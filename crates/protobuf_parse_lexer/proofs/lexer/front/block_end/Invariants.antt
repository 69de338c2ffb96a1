use Rattle.std.proofs.Common.{ℕ, length, ◌-◌, ◌≤◌, ◌<◌}
use Rattle.protobuf_parse_lexer.specs.Text.{Closes}
use Rattle.protobuf_parse_lexer.proofs.lexer.front.block_end.Given as goal

abbrev pub invariant-loop-at : goal.invariant-loop-at
invariant-loop-at l = (2 ≤ l.at) × (l.at ≤ length l.text)
    × ((k : ℕ) → 2 ≤ k → k < l.at → Closes l.text k → ⊥)

abbrev pub decreases-loop-at : goal.decreases-loop-at
decreases-loop-at l = length l.text - l.at
