use Rattle.protobuf_parse_lexer.proofs.Depth.{Kept}
use Rattle.protobuf_parse_lexer.proofs.lexer.depth.too_deep.Given as goal

abbrev pub invariant-loop-token : goal.invariant-loop-token
invariant-loop-token l = Kept l.list l.token-index l.opened l.closed
