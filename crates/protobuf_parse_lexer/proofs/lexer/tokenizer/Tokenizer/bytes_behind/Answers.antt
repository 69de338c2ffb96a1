use Rattle.protobuf_parse_lexer.proofs.BehindRelations.{first_behind}
use Rattle.protobuf_parse_lexer.proofs.lexer.tokenizer.Tokenizer.bytes_behind.Goals as goal

pub returns : goal.returns
returns c = first_behind c.args.self.now
