use Rattle.std.proofs.Common.{◌≡◌, ◌+◌, ◌-◌, ◌≤◌, length, take}
use Rattle.protobuf_parse_lexer.specs.Place.{after}
use Rattle.protobuf_parse_lexer.specs.Text.{AllIn}
use Rattle.protobuf_parse_lexer.specs.declared.lexer.bytes.ByteClass.TheVariants as class
use Rattle.protobuf_parse_lexer.proofs.lexer.place.blanks.Given as goal

abbrev pub invariant-runs : goal.invariant-runs
invariant-runs l =
    (l.now ≡ after l.fn.place (take l.at l.bytes)) × (l.at ≤ length l.bytes)
    × AllIn class.Blank l.bytes 0 l.at
    × (l.now.line ≤ l.fn.place.line + l.at) × (l.now.col ≤ l.fn.place.col + l.at)

abbrev pub decreases-runs : goal.decreases-runs
decreases-runs l = length l.bytes - l.at
