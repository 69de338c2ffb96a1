use Rattle.std.proofs.Common.{◌≡◌, ◌+◌, drop}
use Rattle.protobuf_parse_comments.specs.Pieces.{line_len}
use Rattle.protobuf_parse_comments.proofs.pieces.line_len.Given as goal

abbrev pub invariant-loop-i : goal.invariant-loop-i
invariant-loop-i l = line_len l.bytes ≡ l.i + line_len (drop l.i l.bytes)
