-- No public clause rests on this file.
-- How the code keeps which positions numbers name.
use Rattle.std.specs.Prelude.{◌≡◌, ℕ, ℤ, pos, negsuc, ◌<◌, nat_lt, Bool, List, length, Option, Some}
use Rattle.std.specs.Prelude.{None, if◌then◌else◌}
use Rattle.std.specs.List.{slice_index_or}
use Rattle.protobuf_parse_rules.specs.Positions.{is_named}

-- Of each of so many positions it is told whether one of the numbers names it.
pub record Marks (numbers : List ℤ) (count : ℕ) (marks : List Bool) : Type 0 where
  pub long : length marks ≡ count
  pub each : (i : ℕ) (d : Bool) → i < count → slice_index_or marks i d ≡ is_named numbers i

-- the position that a number names, among so many
abbrev pub named_among : ℕ → ℤ → Option ℕ
named_among count (pos i) = if nat_lt i count then Some i else None
named_among count (negsuc i) = None
