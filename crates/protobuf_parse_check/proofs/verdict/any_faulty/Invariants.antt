use Rattle.std.proofs.Common.{◌≡◌, ℕ, drop, slice_get}
use Rattle.std.specs.List.{list_any}
use Rattle.protobuf_parse_check.specs.Judging.{has_fault}
use Rattle.protobuf_parse_check.proofs.verdict.any_faulty.Given as goal

abbrev pub invariant-loop-number : goal.invariant-loop-number
invariant-loop-number l =
    list_any (λ (n : ℕ). has_fault (slice_get l.verdicts n)) (drop l.number-index l.numbers)
    ≡ list_any (λ (n : ℕ). has_fault (slice_get l.verdicts n)) l.numbers
