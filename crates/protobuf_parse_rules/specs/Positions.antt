-- Positions in a list, from 0 on, which numbers may name.
use Rattle.std.specs.Prelude.{ℕ, ◌+◌, ℤ, pos, negsuc, ◌==◌, Bool, false, List, [], ◌∷◌, ◌++◌}
use Rattle.std.specs.List.{list_any}

-- whether the number names the position
abbrev pub names_position : ℕ → ℤ → Bool
names_position n (pos i) = i == n
names_position n (negsuc i) = false

-- whether one of the numbers names the position
abbrev pub is_named : List ℤ → ℕ → Bool
is_named numbers n = list_any (names_position n) numbers

-- what is said of each element by its position, where the first one has that
abbrev pub by_position : {X Y : Type 0} → (ℕ → X → List Y) → (first : ℕ) → List X → List Y
by_position f n [] = []
by_position f n (x ∷ xs) = f n x ++ by_position f (n + 1) xs
