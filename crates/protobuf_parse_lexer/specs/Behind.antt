-- How many bytes of a text stand behind each of its tokens: with the text's length, where each
-- begins and ends.
use Rattle.std.specs.Prelude.{◌≡◌, ◌≤◌, ℕ, ◌+◌, ◌-◌, List, [], ◌∷◌, true, false}
use Rattle.std.specs.Prelude.{length, take, drop, Option, Some, None}
use Rattle.protobuf_parse_lexer.specs.Ahead.{deepens, counted}
use Rattle.protobuf_parse_lexer.specs.Cut.{Stream, HasTokens, mark_len}
use Rattle.protobuf_parse_lexer.specs.Text.{Bytes, IsBlank, IsToken, IsFault}
use Rattle.protobuf_parse_lexer.specs.Tokens.{Lexeme, is_opening, is_closing}
use Rattle.protobuf_parse_lexer.specs.declared.error.ParserError.{ParserError}
use Rattle.protobuf_parse_lexer.specs.declared.lexer.token.TokenKind.{TokenKind}

-- So many bytes stand behind each of the tokens that lie ahead in the text z, where o brackets were
-- opened before it and c closed.
pub data BehindIn : ℕ → ℕ → Bytes → List ℕ → Type 0 where
  at_end : {o c : ℕ} {z : Bytes} → length z ≡ 0 → BehindIn o c z []
  past_blank :
      {o c : ℕ} {z : Bytes} {ns : List ℕ} (n : ℕ) → IsBlank z n → BehindIn o c (drop n z) ns →
      BehindIn o c z ns
  past_token :
      {o c : ℕ} {z : Bytes} {ns : List ℕ} (n : ℕ) (k : TokenKind) → IsToken z n k →
      deepens o c k ≡ false →
      BehindIn (counted (is_opening k) o) (counted (is_closing k) c) (drop n z) ns →
      BehindIn o c z (length (drop n z) ∷ ns)
  at_bracket :
      {o c : ℕ} {z : Bytes} (n : ℕ) (k : TokenKind) → IsToken z n k → deepens o c k ≡ true →
      BehindIn o c z []
  at_fault : {o c : ℕ} {z : Bytes} (e : ParserError) → IsFault z e → BehindIn o c z []

-- the first number, if there is one
abbrev pub first : List ℕ → Option ℕ
first [] = None
first (n ∷ ns) = Some n

-- These bytes stand in the text so far before its end.
pub record StandsBefore (text word : Bytes) (behind : ℕ) : Type 0 where
  pub within : behind + length word ≤ length text
  pub is : take (length word) (drop (length text - (behind + length word)) text) ≡ word

-- each of the tokens does
pub data EachStands (text : Bytes) : List Lexeme → List ℕ → Type 0 where
  no_token : EachStands text [] []
  one_token :
      {t : Lexeme} {n : ℕ} {ts : List Lexeme} {ns : List ℕ} → StandsBefore text t.text n →
      EachStands text ts ns → EachStands text (t ∷ ts) (n ∷ ns)

-- Of a text with tokens each stands so far before its end as is said.
abbrev pub EachIsFound : Type 0
EachIsFound = (text : Bytes) (s : Stream) (ns : List ℕ) → HasTokens text s
    → BehindIn 0 0 (drop (mark_len text) text) ns → EachStands text s.tokens ns
