-- Numbers that ascend once they are sorted differ.
use Rattle.std.proofs.Common.{◌≡◌, ℕ, ◌<◌, false, List, arith, get_or}
use Rattle.std.proofs.Math.Dec.{eqb}
use Rattle.std.specs.List.{IsDistinct}
use Rattle.std.specs.List.Sorted.{IsStrictlyIncreasing, IsPermutation}
use Rattle.std.proofs.lemmas.Bool.Decides.{nat_tests}
use Rattle.std.proofs.lemmas.Map.Keys.{IsDistinct-from_apart, IsDistinct-IsPermutation}
use Rattle.std.proofs.lemmas.Map.Keys.{below_from_sorted, sorted_from_strictly_increasing}
use Rattle.std.proofs.lemmas.List.Sorted.{IsPermutation-sym}

lt_apart : (a b : ℕ) → a < b → eqb a b ≡ false
lt_apart a b h = grind (arith, nat_tests)

pub eqb_comm : (a b : ℕ) → eqb a b ≡ eqb b a
eqb_comm a b = grind (arith, nat_tests)

apart : (sorted : List ℕ) → IsStrictlyIncreasing sorted → IsDistinct eqb sorted
apart sorted h =
    IsDistinct-from_apart eqb sorted (λ i j d l m. lt_apart (get_or sorted i d) (get_or sorted j d)
    (below_from_sorted sorted i j d (sorted_from_strictly_increasing sorted h) l m))

pub apart_sorted : (keys sorted : List ℕ) → IsPermutation keys sorted
    → IsStrictlyIncreasing sorted → IsDistinct eqb keys
apart_sorted keys sorted moved ascending =
    IsDistinct-IsPermutation eqb eqb_comm sorted keys (IsPermutation-sym keys sorted moved)
    (apart sorted ascending)
