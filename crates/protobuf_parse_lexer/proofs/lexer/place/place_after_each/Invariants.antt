use Rattle.std.proofs.Common.{◌≡◌, ◌+◌, ◌≤◌, take}
use Rattle.protobuf_parse_lexer.specs.Place.{after}
use Rattle.protobuf_parse_lexer.proofs.lexer.place.place_after_each.Given as goal

abbrev pub invariant-loop-byte : goal.invariant-loop-byte
invariant-loop-byte l =
    (l.now ≡ after l.fn.place (take l.byte-index l.bytes))
    × (l.now.line ≤ l.fn.place.line + l.byte-index)
    × (l.now.col ≤ l.fn.place.col + l.byte-index)
