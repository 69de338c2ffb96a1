-- Laws of the definitions.
use Rattle.std.specs.Prelude.{◌≡◌, ◌⊎◌, ℕ, ◌+◌, ◌==◌, ◌<◌, not, All, List, [], ◌∷◌, ◌++◌, length}
use Rattle.std.specs.Prelude.{Some, reverse, count_by, take_while, take, drop, slice_index}
use Rattle.std.specs.Str.{IsUtf8, chars}
use Rattle.protobuf_parse_lexer.specs.Text.{Bytes, IsToken, IsFault}
use Rattle.protobuf_parse_lexer.specs.Place.{start, after}
use Rattle.protobuf_parse_lexer.specs.TokenKinds.{kind_of}
use Rattle.protobuf_parse_lexer.specs.Tokens.{Lexeme, unquoted, Decodes, DecodesAll}
use Rattle.protobuf_parse_lexer.specs.Tokens.{StandsFor}
use Rattle.protobuf_parse_lexer.specs.Decoder.{decode, text_of}
use Rattle.protobuf_parse_lexer.specs.Cut.{Cuts, mark_len}
use Rattle.protobuf_parse_base.specs.Characters as char
use Rattle.protobuf_parse_base.specs.Escapes.{escaped_bytes}
use Rattle.protobuf_parse_lexer.specs.declared.error.ParserError.{ParserError}
use Rattle.protobuf_parse_lexer.specs.declared.lexer.token.Place.{Place}
use Rattle.protobuf_parse_lexer.specs.declared.lexer.token.TokenKind.{TokenKind}
use Rattle.protobuf_parse_lexer.specs.declared.lexer.token.TokenKind.TheVariants as kind

-- what ends a cut: the end of the text, or a fault
abbrev pub Ends : Bytes → Type 0
Ends rest = (length rest ≡ 0) ⊎ ((e : ParserError) × IsFault rest e)

-- a text is cut in one way
abbrev pub IsOneCut : Type 0
IsOneCut =
    (text : Bytes) (ts us : List Lexeme) (p q : Place) (r s : Bytes) → Cuts text ts p r → Ends r →
    Cuts text us q s → Ends s → (ts ≡ us) × (p ≡ q) × (r ≡ s)

-- one fault begins there
abbrev pub IsOneFault : Type 0
IsOneFault = (rest : Bytes) (e f : ParserError) → IsFault rest e → IsFault rest f → e ≡ f

-- a token's text tells its kind
abbrev pub TextsTellKinds : Type 0
TextsTellKinds = (z : Bytes) (n : ℕ) (k : TokenKind) → IsToken z n k → kind_of (take n z) ≡ k

-- pieces of a string stand for one list of bytes
abbrev pub IsOneDecoding : Type 0
IsOneDecoding =
    (pieces : List Bytes) (u v : Bytes) → DecodesAll pieces u → DecodesAll pieces v → u ≡ v

-- `decode` gives just the bytes that the pieces stand for
abbrev pub DecodeIsExact : Type 0
DecodeIsExact =
    (pieces : List Bytes) (bytes : Bytes)
    → (decode pieces ≡ Some bytes → DecodesAll pieces bytes)
    × (DecodesAll pieces bytes → decode pieces ≡ Some bytes)

-- and `text_of` those that are a text
abbrev pub TextIsExact : Type 0
TextIsExact =
    (pieces : List Bytes) (text : Bytes)
    → (text_of pieces ≡ Some text → StandsFor pieces text)
    × (StandsFor pieces text → text_of pieces ≡ Some text)

-- the line behind these characters: one more than the line feeds among them
abbrev pub line_after : List ℕ → ℕ
line_after cs = 1 + count_by (λ c. c == char.newline) cs

-- the column behind these characters: one more than the characters after the last line feed
abbrev pub column_after : List ℕ → ℕ
column_after cs = 1 + length (take_while (λ c. not (c == char.newline)) (reverse cs))

-- the place behind a text counts its characters
abbrev pub PlacesCountCharacters : Type 0
PlacesCountCharacters =
    (text : Bytes) → IsUtf8 text →
    after start text ≡ record { line = line_after (chars text); col = column_after (chars text) }

-- Past its byte order mark the text is what stands before a token, the token and what stands behind
-- it; and the token's place is the one behind what stands before it.
abbrev pub TokensStandInTheText : Type 0
TokensStandInTheText =
    (text : Bytes) (front back : List Lexeme) (t : Lexeme) (q : Place) (rest : Bytes) →
    Cuts text (front ++ t ∷ back) q rest →
    (before : Bytes) × (behind : Bytes) × (drop (mark_len text) text ≡ before ++ t.text ++ behind)
    × (t.place ≡ after start before)

-- a string token is what stands between its quotes, with the same quote before and behind it
abbrev pub StringsAreQuoted : Type 0
StringsAreQuoted =
    (z : Bytes) (n : ℕ) → IsToken z n kind.Str →
    take n z ≡ slice_index z 0 ∷ (unquoted (take n z) ++ slice_index z 0 ∷ [])

-- Escaped bytes in double quotes are a string token, whatever follows. They are what stands between
-- its quotes, and stand for just those bytes.
abbrev pub EscapedBytesDecode : Type 0
EscapedBytesDecode =
    (bytes rest : Bytes) → All (λ b. b < 256) bytes →
    IsToken (char.quote ∷ (escaped_bytes bytes ++ char.quote ∷ rest))
    (length (escaped_bytes bytes) + 2) kind.Str
    × (unquoted (char.quote ∷ (escaped_bytes bytes ++ char.quote ∷ [])) ≡ escaped_bytes bytes)
    × Decodes (escaped_bytes bytes) bytes
