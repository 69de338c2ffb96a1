-- Positions in a list, from 0 on.
use Rattle.std.specs.Prelude.{ℕ, ◌+◌, ℤ, pos, negsuc, nat_lt, bytes_eq, Bool, false, List, [], ◌∷◌}
use Rattle.std.specs.Prelude.{◌++◌, if◌then◌else◌, Option, Some, None, slice_get}
use Rattle.protobuf_parse_model.specs.Descriptors.{Text}

-- what is said of each element by its position, where the first one has that
abbrev pub by_position : {X Y : Type 0} → (ℕ → X → List Y) → (first : ℕ) → List X → List Y
by_position f n [] = []
by_position f n (x ∷ xs) = f n x ++ by_position f (n + 1) xs

-- the position of the first of the texts that is this one, where the first of all has that
abbrev pub position_from : (first : ℕ) → List Text → Text → Option ℕ
position_from n [] text = None
position_from n (t ∷ ts) text = if bytes_eq t text then Some n else position_from (n + 1) ts text

-- the position of the first of the texts that is this one
abbrev pub position_in : List Text → Text → Option ℕ
position_in texts text = position_from 0 texts text

-- whether the number is a position among so many
abbrev pub is_position : ℕ → ℤ → Bool
is_position count (pos n) = nat_lt n count
is_position count (negsuc n) = false

-- what stands at the position, if it is one
abbrev pub at_index : {X : Type 0} → List X → ℤ → Option X
at_index xs (pos n) = slice_get xs n
at_index xs (negsuc n) = None
