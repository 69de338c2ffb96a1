use Rattle.protobuf_parse_lexer.proofs.Ahead.{gone_past}
use Rattle.protobuf_parse_lexer.proofs.BehindRelations.{gone_behind}
use Rattle.protobuf_parse_lexer.proofs.lexer.tokenizer.Tokenizer.advance.Goals as goal

pub returns-clause-tokens : goal.returns-clause-tokens
returns-clause-tokens c = gone_past c.args.self.now c.go_past.new.self c.go_past.ensures.tokens

pub returns-clause-bytes : goal.returns-clause-bytes
returns-clause-bytes c = gone_behind c.args.self.now c.go_past.new.self c.go_past.ensures.behinds
