-- No public clause rests on this file.
-- Marks of synthetic oneofs.
use Rattle.std.specs.Prelude.{◌≡◌, ℕ, ℤ, pos, negsuc, ◌<◌, nat_lt, Bool, List, length}
use Rattle.std.specs.Prelude.{Option, Some, None, if◌then◌else◌}
use Rattle.std.specs.List.{slice_index_or}
use Rattle.protobuf_parse_model.specs.Descriptors.{FieldDescriptor}

-- At each index below a number stands what the function gives.
pub record Marks (f : ℕ → Bool) (n : ℕ) (marks : List Bool) : Type 0 where
  pub count : length marks ≡ n
  pub each : (i : ℕ) (d : Bool) → i < n → slice_index_or marks i d ≡ f i

-- the index, if it is one of so many
abbrev pub below : ℕ → Option ℤ → Option ℕ
below count None = None
below count (Some (pos i)) = if nat_lt i count then Some i else None
below count (Some (negsuc i)) = None

-- the index of the synthetic oneof that a field is in, if it is one of so many
abbrev pub index_among : ℕ → FieldDescriptor → Option ℕ
index_among count f = if f.proto3_optional then below count f.oneof_index else None
