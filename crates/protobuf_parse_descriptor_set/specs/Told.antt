-- No public clause rests on this file.
-- How the code keeps the order of oneofs.
use Rattle.std.specs.Prelude.{◌≡◌, ℕ, ℤ, pos, negsuc, ◌<◌, nat_lt, Bool, true, false, List, [], ◌∷◌}
use Rattle.std.specs.Prelude.{length, Option, Some, None, if◌then◌else◌}
use Rattle.std.specs.List.{slice_index_or}
use Rattle.protobuf_parse_model.specs.Descriptors.{FieldDescriptor}
use Rattle.protobuf_parse_descriptor_set.specs.OneofOrder.{members, marked, unmarked}

-- At each index below a number stands what the function gives.
pub record Tells {X : Type 0} (f : ℕ → X) (n : ℕ) (xs : List X) : Type 0 where
  pub count : length xs ≡ n
  pub each : (i : ℕ) (d : X) → i < n → slice_index_or xs i d ≡ f i

-- the index, if it is that of one of so many
abbrev pub index_among : ℕ → Option ℤ → Option ℕ
index_among count None = None
index_among count (Some (pos i)) = if nat_lt i count then Some i else None
index_among count (Some (negsuc i)) = None

abbrev pub are_any : {X : Type 0} → List X → Bool
are_any [] = false
are_any (x ∷ xs) = true

-- whether any field is in the oneof at an index
abbrev pub has_members : List FieldDescriptor → ℕ → Bool
has_members fields index = are_any (members fields index)

-- the index by a list of new indices
abbrev pub index_by : List ℕ → Option ℤ → Option ℤ
index_by indices None = None
index_by indices (Some (pos i)) =
    Some (pos (if nat_lt i (length indices) then slice_index_or indices i 0 else i))
index_by indices (Some (negsuc i)) = Some (negsuc i)

-- the elements that are marked, or the others
abbrev pub of_kind : {X : Type 0} → Bool → List Bool → List X → List X
of_kind true marks xs = marked marks xs
of_kind false marks xs = unmarked marks xs
