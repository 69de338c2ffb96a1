use Rattle.std.proofs.Common.{◌≡◌, ◌-◌, ◌≤◌, true, length, take}
use Rattle.std.specs.List.{list_all}
use Rattle.protobuf_parse_listing.specs.Unescaped.{is_unescaped_byte}
use Rattle.protobuf_parse_listing.proofs.pieces.are_unescaped.Given as goal

abbrev pub invariant-by_run : goal.invariant-by_run
invariant-by_run g l =
    (l.at ≤ length l.bytes) × (list_all is_unescaped_byte (take l.at l.bytes) ≡ true)

abbrev pub decreases-by_run : goal.decreases-by_run
decreases-by_run g l = length l.bytes - l.at
