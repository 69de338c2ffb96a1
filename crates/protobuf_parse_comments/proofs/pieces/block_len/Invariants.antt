use Rattle.std.proofs.Common.{◌≡◌, ◌+◌, drop}
use Rattle.protobuf_parse_comments.specs.Pieces.{block_len}
use Rattle.protobuf_parse_comments.proofs.pieces.block_len.Given as goal

abbrev pub invariant-loop-i : goal.invariant-loop-i
invariant-loop-i l = block_len l.bytes ≡ l.i + block_len (drop l.i l.bytes)
