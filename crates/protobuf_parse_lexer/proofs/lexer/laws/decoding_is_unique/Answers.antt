use Rattle.protobuf_parse_lexer.proofs.Escapes.{one_decoding_of_all}
use Rattle.protobuf_parse_lexer.proofs.lexer.laws.decoding_is_unique.Goals as goal

pub returns : goal.returns
returns c = λ pieces u v a b. one_decoding_of_all a b
