-- No public clause rests on this file.
-- Places of faults, kept as numbers, so that one is found among many.
use Rattle.std.specs.Prelude.{◌≡◌, ℕ, ◌+◌, ◌*◌, ◌<◌, Bool, List}
use Rattle.std.specs.BTreeSet.{BTreeSet, contains}
use Rattle.std.specs.Ordering.{nat_cmp}
use Rattle.protobuf_parse_lexer.specs.declared.lexer.token.Place.{Place}
use Rattle.protobuf_parse_model.specs.Faults.{Fault}
use Rattle.protobuf_parse_check.specs.Reports.{stands_at}

-- the number of a place: no two have one
abbrev pub place_number : Place → ℕ
place_number p = p.line * 4294967296 + p.col

-- whether the place is kept
abbrev pub has_place : BTreeSet ℕ → Place → Bool
has_place places p = contains nat_cmp places (place_number p)

-- the places of these faults are kept
abbrev pub HavePlaces : List Fault → BTreeSet ℕ → Type 0
HavePlaces faults places =
    (f : Fault) → f.place.col < 4294967296 → has_place places f.place ≡ stands_at f faults
