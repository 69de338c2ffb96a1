use Rattle.protobuf_parse_lexer.proofs.Escaping.{escaped_decode}
use Rattle.protobuf_parse_lexer.proofs.lexer.laws.escaped_bytes_decode.Goals as goal

pub returns : goal.returns
returns c = escaped_decode
