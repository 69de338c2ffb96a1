-- How a parser tells tokens from one another by the next token alone.
use Rattle.std.specs.Prelude.{ℕ, List, [], ◌∷◌, Bool, true, false, not, ◌&&◌, ◌||◌, eqb}
use Rattle.std.specs.Prelude.{bytes_eq, codes}
use Rattle.protobuf_parse_grammar.specs.Relations.{seen}
use Rattle.protobuf_parse_lexer.specs.Text.{Bytes}
use Rattle.protobuf_parse_lexer.specs.Tokens.{Lexeme}
use Rattle.protobuf_parse_lexer.specs.declared.lexer.token.TokenKind.{TokenKind}
use Rattle.protobuf_parse_lexer.specs.declared.lexer.token.TokenKind.TheVariants as kind

-- this symbol; this word; an identifier that is none of these words; an integer; a float; a string
pub data Class : Type 0 where
  symbol : ℕ → Class
  word : Bytes → Class
  ident : List Bytes → Class
  integer : Class
  float : Class
  text : Class

-- whether the word is one of these
abbrev pub is_among : Bytes → List Bytes → Bool
is_among w [] = false
is_among w (v ∷ vs) = bytes_eq w v || is_among w vs

-- an identifier, which keywords are too
abbrev pub is_ident_token : TokenKind → Bool
is_ident_token kind.Ident = true
is_ident_token _ = false

-- this symbol
abbrev pub is_symbol_token : ℕ → TokenKind → Bool
is_symbol_token c (kind.Symbol d) = eqb d c
is_symbol_token c _ = false

-- an integer
abbrev pub is_integer : TokenKind → Bool
is_integer (kind.Integer n) = true
is_integer _ = false

-- a float
abbrev pub is_float : TokenKind → Bool
is_float kind.Float = true
is_float _ = false

-- a string literal
abbrev pub is_string : TokenKind → Bool
is_string kind.Str = true
is_string _ = false

-- whether a token of that kind and text is of the class
abbrev pub sees_at : Class → TokenKind → Bytes → Bool
sees_at (symbol c) k w = is_symbol_token c k
sees_at (word v) k w = is_ident_token k && bytes_eq w v
sees_at (ident vs) k w = is_ident_token k && not (is_among w vs)
sees_at integer k w = is_integer k
sees_at float k w = is_float k
sees_at text k w = is_string k

-- whether the token is of the class
abbrev pub sees : Class → Lexeme → Bool
sees c t = sees_at c t.kind t.text

-- ---- classes together

-- one of the classes sees the token
abbrev pub is_one_of : List Class → Lexeme → Bool
is_one_of cs t = seen sees cs t

-- these words
abbrev pub words : List Bytes → List Class
words [] = []
words (w ∷ ws) = word w ∷ words ws

-- a float, `inf` or `nan`
abbrev pub floatings : List Class
floatings = float ∷ word (codes "inf") ∷ word (codes "nan") ∷ []

-- whether the token says a number that is no integer
abbrev pub is_floating : Lexeme → Bool
is_floating t = is_one_of floatings t
