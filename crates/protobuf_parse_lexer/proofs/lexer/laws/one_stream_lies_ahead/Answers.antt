use Rattle.protobuf_parse_lexer.proofs.Ahead.{one_lies_ahead}
use Rattle.protobuf_parse_lexer.proofs.lexer.laws.one_stream_lies_ahead.Goals as goal

pub returns : goal.returns
returns c = one_lies_ahead
