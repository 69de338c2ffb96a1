use Rattle.std.proofs.Common.{◌≡◌, ◌++◌, drop, false}
use Rattle.protobuf_parse_comments.specs.Pieces.{said}
use Rattle.protobuf_parse_comments.proofs.pieces.block_text.Given as goal

abbrev pub invariant-loop-byte : goal.invariant-loop-byte
invariant-loop-byte l =
    l.text.items ++ said l.is_front (drop l.byte-index l.inner) ≡ said false l.inner
