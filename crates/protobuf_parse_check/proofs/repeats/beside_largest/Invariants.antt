use Rattle.std.proofs.Common.{◌≡◌, ℕ, true, false, nat_eq, take}
use Rattle.std.specs.List.{list_any}
use Rattle.std.specs.List.Sorted.{IsStrictlyIncreasing}
use Rattle.protobuf_parse_check.proofs.repeats.beside_largest.Given as goal

abbrev pub invariant-loop-file : goal.invariant-loop-file
invariant-loop-file l = IsStrictlyIncreasing l.below → (n : ℕ)
    → list_any (nat_eq n) (take l.file-index l.reach) ≡ true
    → list_any (nat_eq n) l.below ≡ false → list_any (nat_eq n) l.files.items ≡ true
