use Rattle.std.proofs.Common.{map, take, string_bytes}
use Rattle.protobuf_parse_lexer.specs.Tokens.{DecodesAll}
use Rattle.protobuf_parse_lexer.proofs.lexer.str_lit.StrLit.decode_bytes.Given as goal

abbrev pub invariant-loop-piece : goal.invariant-loop-piece
invariant-loop-piece l =
    DecodesAll (take l.piece-index (map string_bytes l.piece-items)) l.bytes.items
