-- Of the members of a oneof only the one that stands last counts. Protocol Buffers Encoding
-- (https://protobuf.dev/programming-guides/encoding/), "Oneofs".
use Rattle.std.specs.Prelude.{ℕ, ◌==◌, Bool, false, not, ◌&&◌, List, [], ◌∷◌, Option, Some, None}
use Rattle.std.specs.Prelude.{if◌then◌else◌}
use Rattle.std.specs.List.{list_any}
use Rattle.protobuf_parse_merged.specs.Occurrences.{Occurrence}

-- whether fields are members of one oneof
abbrev pub same_oneof : Option ℕ → Option ℕ → Bool
same_oneof None other = false
same_oneof (Some k) None = false
same_oneof (Some k) (Some j) = k == j

-- whether a value takes the place of one in front of it: it is that of another member
abbrev pub replaces : (front behind : Occurrence) → Bool
replaces front behind =
    same_oneof front.oneof behind.oneof && not (behind.number == front.number)

-- the values that count, in order
abbrev pub counting : List Occurrence → List Occurrence
counting [] = []
counting (o ∷ os) = if list_any (replaces o) os then counting os else o ∷ counting os
