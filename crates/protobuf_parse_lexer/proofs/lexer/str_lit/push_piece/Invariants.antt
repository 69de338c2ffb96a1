use Rattle.std.proofs.Common.{◌≡◌, ◌++◌, length}
use Rattle.protobuf_parse_lexer.specs.Text.{Bytes}
use Rattle.protobuf_parse_lexer.proofs.Escapes.{Goes}
use Rattle.protobuf_parse_lexer.proofs.lexer.str_lit.push_piece.Given as goal

abbrev pub invariant-loop-rest : goal.invariant-loop-rest
invariant-loop-rest l = (v : Bytes) × (l.bytes.items ≡ l.fn.bytes.items ++ v)
    × Goes l.piece l.rest v

abbrev pub decreases-loop-rest : goal.decreases-loop-rest
decreases-loop-rest l = length l.rest
