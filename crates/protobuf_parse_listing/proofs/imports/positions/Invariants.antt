use Rattle.std.proofs.Common.{◌≡◌, ℕ, take}
use Rattle.std.specs.Ordering.{nat_cmp}
use Rattle.std.specs.BTreeSet.{contains}
use Rattle.protobuf_parse_listing.specs.Listing.{is_position}
use Rattle.protobuf_parse_listing.proofs.imports.positions.Given as goal

abbrev pub invariant-loop-position : goal.invariant-loop-position
invariant-loop-position l = (i : ℕ)
    → contains nat_cmp l.positions i ≡ is_position i (take l.position-index l.listed)
