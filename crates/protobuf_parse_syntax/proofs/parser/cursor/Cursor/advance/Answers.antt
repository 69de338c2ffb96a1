use Rattle.protobuf_parse_lexer.proofs.Ahead.{advanced}
use Rattle.protobuf_parse_syntax.proofs.parser.cursor.Cursor.advance.Goals as goal

pub returns : goal.returns
returns c = advanced c.args.self.now.tokens c.advance.new.self c.advance.ensures.tokens
