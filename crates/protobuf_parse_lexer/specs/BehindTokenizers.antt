-- No public clause rests on this file.
-- How many bytes of its text stand behind each token that lies ahead of a tokenizer, as a function.
use Rattle.std.specs.Prelude.{ℕ, List, [], ◌∷◌, length, Option, Some, None}
use Rattle.protobuf_parse_lexer.specs.BehindOf.{behinds}
use Rattle.protobuf_parse_lexer.specs.Text.{Bytes}
use Rattle.protobuf_parse_lexer.specs.declared.lexer.tokenizer.Brackets.{Brackets}
use Rattle.protobuf_parse_lexer.specs.declared.lexer.tokenizer.NextToken.{NextToken}
use Rattle.protobuf_parse_lexer.specs.declared.lexer.tokenizer.Tokenizer.{Tokenizer}

-- of the next token, if there is one, and of those behind it
abbrev pub next_behind : Option NextToken → Brackets → Bytes → List ℕ
next_behind None b z = []
next_behind (Some t) b z = length z ∷ behinds b.opened b.closed z

-- of the tokens that lie ahead of a tokenizer
abbrev pub behinds_ahead : Tokenizer → List ℕ
behinds_ahead t = next_behind t.next t.brackets t.rest.now
