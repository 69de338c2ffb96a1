-- A text cut into blanks and tokens, of which the longest is taken each time.
use Rattle.std.specs.Prelude.{◌≡◌, ◌≤◌, ◌<◌, ◌⊎◌, ℕ, ◌&&◌, ◌==◌, List, [], ◌∷◌, length, map}
use Rattle.std.specs.Prelude.{slice_index, take, drop, if◌then◌else◌, Result, MatchResult}
use Rattle.protobuf_parse_lexer.specs.Text.{Bytes, IsBlank, IsToken, IsFault}
use Rattle.protobuf_parse_lexer.specs.Place.{start, after}
use Rattle.protobuf_parse_lexer.specs.Tokens.{Lexeme, lexeme, IsShallow, DeepensAt}
use Rattle.protobuf_parse_lexer.specs.declared.error.ParserError.{ParserError}
use Rattle.protobuf_parse_lexer.specs.declared.error.ParserError.TheVariants as error
use Rattle.protobuf_parse_lexer.specs.declared.error.ParserErrorWithLocation.{ParserErrorWithLocation}
use Rattle.protobuf_parse_lexer.specs.declared.lexer.token.TokenKind.{TokenKind}
use Rattle.protobuf_parse_lexer.specs.declared.lexer.token.Place.{Place}
use Rattle.protobuf_parse_lexer.specs.declared.lexer.token.TokenStream.{TokenStream}

-- The text z, which begins at the place p, is blanks and the tokens ts, in order, and then rest,
-- which begins at the place q.
pub data Cut : Place → Bytes → List Lexeme → Place → Bytes → Type 0 where
  done : {p : Place} {z : Bytes} → Cut p z [] p z
  blank :
      {p q : Place} {z rest : Bytes} {ts : List Lexeme} (n : ℕ) → IsBlank z n →
      Cut (after p (take n z)) (drop n z) ts q rest → Cut p z ts q rest
  token :
      {p q : Place} {z rest : Bytes} {ts : List Lexeme} (n : ℕ) (k : TokenKind) → IsToken z n k →
      Cut (after p (take n z)) (drop n z) ts q rest →
      Cut p z (record { kind = k; text = take n z; place = p } ∷ ts) q rest

-- how long a byte order mark (U+FEFF) at the front is
abbrev pub mark_len : Bytes → ℕ
mark_len z =
    if slice_index z 0 == 0xef && slice_index z 1 == 0xbb && slice_index z 2 == 0xbf then 3 else 0

-- The whole text, cut up to rest, which begins at q. The mark takes no column.
abbrev pub Cuts : Bytes → List Lexeme → Place → Bytes → Type 0
Cuts text ts q rest = Cut start (drop (mark_len text) text) ts q rest

-- at most 2147483647 bytes
abbrev pub IsShort : Bytes → Type 0
IsShort text = length text ≤ 2147483647

-- the tokens, and the place of the text's end
pub record Stream : Type 0 where
  pub tokens : List Lexeme
  pub end : Place

-- what the tokens of a text say, without where they lie in memory
abbrev pub stream : TokenStream → Stream
stream s = record { tokens = map lexeme s.tokens.items; end = s.end }

-- the text has these tokens
pub record HasTokens (text : Bytes) (s : Stream) : Type 0 where
  pub short : IsShort text
  pub cut : Cuts text s.tokens s.end []
  pub shallow : IsShallow s.tokens

-- What is wrong with the text, and where: it is too long; or it is cut whole and nests too deep; or
-- it is cut up to a fault.
abbrev pub IsRefused : Bytes → ParserError → Place → Type 0
IsRefused text error.TextTooLong at = (2147483647 < length text) × (at ≡ start)
IsRefused text error.NestingTooDeep at =
    IsShort text × ((ts : List Lexeme) × (q : Place) × Cuts text ts q [] × DeepensAt ts at)
IsRefused text e at =
    IsShort text × ((ts : List Lexeme) × (rest : Bytes) × Cuts text ts at rest × IsFault rest e)

-- the fault at that place, as it is told
abbrev pub located : ParserError → Place → ParserErrorWithLocation
located e at = record { error = e; line = at.line; col = at.col }

-- where the fault stands
abbrev pub error_place : ParserErrorWithLocation → Place
error_place e = record { line = e.line; col = e.col }

-- the fault for want of memory, which has no place
abbrev pub out_of_memory : ParserErrorWithLocation
out_of_memory = record { error = error.Memory; line = 0; col = 0 }

-- a text with tokens is read as them, unless memory runs out
abbrev pub Reads : Bytes → Result TokenStream ParserErrorWithLocation → Type 0
Reads text r =
    (s : Stream) → HasTokens text s → MatchResult r (λ t. stream t ≡ s) (λ e. e ≡ out_of_memory)

-- a text with a fault is refused with it at its place, unless memory runs out
abbrev pub Refuses : Bytes → Result TokenStream ParserErrorWithLocation → Type 0
Refuses text r =
    (e : ParserError) (at : Place) → IsRefused text e at →
    MatchResult r (λ _. ⊥) (λ f. (f ≡ out_of_memory) ⊎ (f ≡ located e at))
