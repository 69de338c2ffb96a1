use Rattle.std.proofs.Common.{◌≡◌, ◌≤◌, ◌+◌, ◌*◌, take}
use Rattle.protobuf_parse_comments.specs.BytePlaces.{after}
use Rattle.protobuf_parse_comments.proofs.place.place_after.Given as goal

abbrev pub invariant-loop-byte : goal.invariant-loop-byte
invariant-loop-byte l =
    (l.now ≡ after l.fn.place (take l.byte-index l.bytes))
    × (l.now.line ≤ l.fn.place.line + l.byte-index)
    × (l.now.column ≤ l.fn.place.column + 8 * l.byte-index)
