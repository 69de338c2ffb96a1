-- What lies ahead of a tokenizer: the tokens of its text from the next one on.
use Rattle.std.specs.Prelude.{◌≡◌, Option, Some, None, List, [], ◌∷◌}
use Rattle.protobuf_parse_lexer.specs.Ahead.{AheadIn, in_front, ends_at}
use Rattle.protobuf_parse_lexer.specs.Cut.{Stream}
use Rattle.protobuf_parse_lexer.specs.Text.{Bytes}
use Rattle.protobuf_parse_lexer.specs.Tokens.{Lexeme}
use Rattle.protobuf_parse_lexer.specs.declared.lexer.token.Place.{Place}
use Rattle.protobuf_parse_lexer.specs.declared.lexer.tokenizer.Brackets.{Brackets}
use Rattle.protobuf_parse_lexer.specs.declared.lexer.tokenizer.NextToken.{NextToken}
use Rattle.protobuf_parse_lexer.specs.declared.lexer.tokenizer.Tokenizer.{Tokenizer}

-- a token without where it lies in memory
abbrev pub next_lexeme : NextToken → Lexeme
next_lexeme t = record { kind = t.kind; text = t.text.now; place = t.place }

-- They are the next token, if there is one, and then what lies ahead in the rest of the text.
abbrev pub Follows : Option NextToken → Brackets → Place → Bytes → Stream → Type 0
Follows None b p z s = s ≡ ends_at p
Follows (Some t) b p z s =
    (others : Stream) × AheadIn b.opened b.closed p z others
    × (s ≡ in_front (next_lexeme t) others)

-- They lie ahead of the tokenizer.
abbrev pub LiesAhead : Tokenizer → Stream → Type 0
LiesAhead t s = Follows t.next t.brackets t.after t.rest.now s

-- the place of the first token, or else of the end
abbrev pub place_before : List Lexeme → Place → Place
place_before [] end = end
place_before (t ∷ ts) end = t.place

-- where the next token stands, or the end where none is left
abbrev pub next_place : Stream → Place
next_place s = place_before s.tokens s.end

-- Of each tokenizer one stream lies ahead.
abbrev pub OneLiesAhead : Type 0
OneLiesAhead =
    (t : Tokenizer) → (s : Stream) × LiesAhead t s × ((u : Stream) → LiesAhead t u → u ≡ s)
