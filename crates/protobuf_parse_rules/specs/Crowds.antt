-- No public clause rests on this file.
-- How many numbers of a list share a slot.
use Rattle.std.specs.Prelude.{◌≡◌, ℕ, ◌+◌, ◌*◌, ◌/◌, ◌%◌, ◌^◌, ◌<◌, Bool, cond, List, [], ◌∷◌, map}
use Rattle.std.specs.Prelude.{length, min, nat_lt, slice_index_or, nat_eq, ◌≤◌}

abbrev pub one_if : Bool → ℕ
one_if b = cond b 1 0

-- how often a number stands in a list
abbrev pub how_many : ℕ → List ℕ → ℕ
how_many k [] = 0
how_many k (x ∷ xs) = one_if (nat_eq x k) + how_many k xs

-- the slot of a number, of so many: the upper half of its product with another number, spread
abbrev pub slot_among : ℕ → ℕ → ℕ → ℕ
slot_among spread n k = k * spread % 2 ^ 64 / 2 ^ 32 * n / 2 ^ 32

abbrev pub slots_of : ℕ → ℕ → List ℕ → List ℕ
slots_of spread n keys = map (slot_among spread n) keys

-- For each slot it is said how many of the numbers have it, where two stand for more.
abbrev pub Counts : ℕ → List ℕ → List ℕ → Type 0
Counts spread keys counts = (p : ℕ) → p < length counts
    → slice_index_or counts p 0 ≡ min 2 (how_many p (slots_of spread (length counts) keys))

-- others may have its slot
abbrev pub is_crowded : ℕ → List ℕ → ℕ → Bool
is_crowded spread counts k =
    nat_lt 1 (slice_index_or counts (slot_among spread (length counts) k) 0)

-- What stands twice in the one list stands as often in the other.
abbrev pub HasTwice : (keys found : List ℕ) → Type 0
HasTwice keys found = (k : ℕ) → 2 ≤ how_many k keys → how_many k keys ≤ how_many k found
