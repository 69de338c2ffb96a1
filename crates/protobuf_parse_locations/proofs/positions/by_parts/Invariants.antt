use Rattle.std.proofs.Common.{◌≡◌, ℕ, take}
use Rattle.std.specs.Prelude.{bytes_eq}
use Rattle.protobuf_parse_source_info.specs.Parts.{at}
use Rattle.protobuf_parse_source_info.specs.Walks.{Path}
use Rattle.protobuf_parse_locations.specs.Kept.{first_at, part_kept}
use Rattle.protobuf_parse_locations.proofs.positions.by_parts.Given as goal

abbrev pub invariant-locations : goal.invariant-locations
invariant-locations l = (q : Path) (n : ℕ) → part_kept l.positions q n
    ≡ first_at (λ d. bytes_eq (at q n) d.path.items) (take l.at l.locations)
