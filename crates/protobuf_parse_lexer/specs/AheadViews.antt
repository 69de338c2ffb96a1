-- No public clause rests on this file.
-- What lies ahead of a tokenizer, as a function.
use Rattle.std.specs.Prelude.{Option, Some, None}
use Rattle.protobuf_parse_lexer.specs.Ahead.{in_front, ends_at}
use Rattle.protobuf_parse_lexer.specs.AheadOf.{ahead}
use Rattle.protobuf_parse_lexer.specs.Cut.{Stream}
use Rattle.protobuf_parse_lexer.specs.Text.{Bytes}
use Rattle.protobuf_parse_lexer.specs.Tokenizers.{next_lexeme}
use Rattle.protobuf_parse_lexer.specs.declared.lexer.token.Place.{Place}
use Rattle.protobuf_parse_lexer.specs.declared.lexer.tokenizer.Brackets.{Brackets}
use Rattle.protobuf_parse_lexer.specs.declared.lexer.tokenizer.NextToken.{NextToken}
use Rattle.protobuf_parse_lexer.specs.declared.lexer.tokenizer.Tokenizer.{Tokenizer}

-- the next token, if there is one, and what lies ahead behind it
abbrev pub with_next : Option NextToken → Brackets → Place → Bytes → Stream
with_next None b p z = ends_at p
with_next (Some t) b p z = in_front (next_lexeme t) (ahead b.opened b.closed p z)

-- the tokens that lie ahead of a tokenizer, and the place of their end
abbrev pub lies_ahead : Tokenizer → Stream
lies_ahead t = with_next t.next t.brackets t.after t.rest.now
