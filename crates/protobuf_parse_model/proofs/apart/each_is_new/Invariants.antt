-- The keys so far differ, and have taken their slots.
use Rattle.std.proofs.Common.{◌≡◌, ℕ, ◌<◌, length}
use Rattle.protobuf_parse_model.proofs.Slots.{DifferAt, SlotsTaken}
use Rattle.protobuf_parse_model.proofs.apart.each_is_new.Given as goal

abbrev pub invariant-loop-i : goal.invariant-loop-i
invariant-loop-i l = ((j k : ℕ) → j < k → k < l.i → DifferAt l.keys j k)
    × SlotsTaken l.taken l.keys l.i
    × (length l.taken ≡ 256)
