-- Tokens: how deep their brackets nest, and what their strings say: strLit, charValue and its
-- escapes in the "Lexical elements" of the Protocol Buffers Language Specification
-- (https://protobuf.dev/reference/protobuf/proto3-spec/).
use Rattle.std.specs.Prelude.{◌≡◌, ◌≤◌, ◌<◌, ◌⊎◌, ℕ, ◌+◌, ◌-◌, ◌&&◌, nat_le, Bool, false, ◌||◌}
use Rattle.std.specs.Prelude.{◌==◌, if◌then◌else◌, List, [], ◌∷◌, ◌++◌, length, slice_index}
use Rattle.std.specs.Prelude.{slice_range, slice_get, take, drop, count_by, encode_utf8, Option}
use Rattle.std.specs.Prelude.{Some, None, not}
use Rattle.std.specs.Char.{IsScalar}
use Rattle.std.specs.Str.{IsUtf8}
use Rattle.std.specs.Str.Parse.{digits_value}
use Rattle.protobuf_parse_base.specs.Characters as char
use Rattle.protobuf_parse_lexer.specs.Text.{Bytes, AllIn, RunStopsAt}
use Rattle.protobuf_parse_lexer.specs.TokenKinds.{kind_of}
use Rattle.protobuf_parse_lexer.specs.declared.lexer.bytes.ByteClass.{ByteClass}
use Rattle.protobuf_parse_lexer.specs.declared.lexer.bytes.ByteClass.TheVariants as class
use Rattle.protobuf_parse_lexer.specs.declared.lexer.token.TokenKind.{TokenKind}
use Rattle.protobuf_parse_lexer.specs.declared.lexer.token.TokenKind.TheVariants as kind
use Rattle.protobuf_parse_lexer.specs.declared.lexer.token.Place.{Place}
use Rattle.protobuf_parse_lexer.specs.declared.lexer.token.Token.{Token}

-- a token without where it lies in memory, and with its kind, which its text tells
pub record Lexeme : Type 0 where
  pub kind : TokenKind
  pub text : Bytes
  pub place : Place

-- what a token says
abbrev pub lexeme : Token → Lexeme
lexeme t = record { kind = kind_of t.text.now; text = t.text.now; place = t.place }

-- ---- depth

-- `{`, `[` or `<`
abbrev pub is_opening : TokenKind → Bool
is_opening (kind.Symbol c) = c == char.open_brace || c == char.open_bracket || c == char.less
is_opening _ = false

-- `}`, `]` or `>`
abbrev pub is_closing : TokenKind → Bool
is_closing (kind.Symbol c) = c == char.close_brace || c == char.close_bracket || c == char.greater
is_closing _ = false

-- how many of the tokens open a bracket
abbrev pub opened : List Lexeme → ℕ
opened ts = count_by (λ t. is_opening t.kind) ts

-- and how many close one
abbrev pub closed : List Lexeme → ℕ
closed ts = count_by (λ t. is_closing t.kind) ts

-- behind these tokens over 100 brackets are open
abbrev pub IsDeep : List Lexeme → Type 0
IsDeep ts = closed ts + 100 < opened ts

-- The depth of the tokens is the greatest number, over their fronts, of opened less closed
-- brackets. It is at most 100.
abbrev pub IsShallow : List Lexeme → Type 0
IsShallow ts = (n : ℕ) → IsDeep (take n ts) → ⊥

-- The token at this place makes the depth 101: behind it the tokens are deep, and no earlier.
pub record DeepensAt (ts : List Lexeme) (at : Place) : Type 0 where
  pub count : ℕ
  pub token : Lexeme
  pub stands : slice_get ts count ≡ Some token
  pub place : at ≡ token.place
  pub deep : IsDeep (take (count + 1) ts)
  pub earlier : (n : ℕ) → n ≤ count → IsDeep (take n ts) → ⊥

-- ---- strings

-- with these bytes a string begins and ends
abbrev pub is_quote : ℕ → Bool
is_quote b = b == char.quote || b == char.apostrophe

-- what stands between the quotes at the ends of a text
abbrev pub unquoted : Bytes → Bytes
unquoted z =
    if nat_le 2 (length z) && is_quote (slice_index z 0) && is_quote (slice_index z (length z - 1))
    then slice_range z 1 (length z - 1) else []

-- with such a byte no escape begins
abbrev pub is_no_backslash : ℕ → Bool
is_no_backslash b = not (b == char.backslash)

-- behind a backslash these characters stand for themselves: \\ \' \" \?
abbrev pub stands_for_itself : ℕ → Bool
stands_for_itself c =
    c == char.backslash || c == char.apostrophe || c == char.quote || c == char.question

-- what a backslash and this character stand for: the same, or one of \a \b \f \n \r \t \v
abbrev pub letter_byte : ℕ → Option ℕ
letter_byte c =
    if c == char.small_a then Some char.bell
    else (if c == char.small_b then Some char.backspace
    else (if c == char.small_f then Some char.form_feed
    else (if c == char.small_n then Some char.newline
    else (if c == char.small_r then Some char.carriage_return
    else (if c == char.small_t then Some char.tab
    else (if c == char.small_v then Some char.vertical_tab
    else (if stands_for_itself c then Some c else None)))))))

-- digits of the class from `from` up to n, as many as stand there, at most up to `limit`
pub record IsDigits (c : ByteClass) (z : Bytes) (from limit n : ℕ) : Type 0 where
  pub some : from < n
  pub within : n ≤ length z
  pub short : n ≤ limit
  pub each : AllIn c z from n
  pub stops : n < limit → RunStopsAt c z n

-- the byte behind a backslash at the front
abbrev pub after_backslash : Bytes → ℕ
after_backslash z = slice_index z 1

-- The n bytes at the front of z, of which the first is a backslash, are an escape and stand for
-- these bytes: of a letter; of one to three octal digits, up to 377; of \x and one or two
-- hexadecimal digits; of \u and four or \U and eight, which name a character.
pub data IsEscape : Bytes → ℕ → Bytes → Type 0 where
  letter : {z : Bytes} (b : ℕ) → letter_byte (after_backslash z) ≡ Some b → IsEscape z 2 (b ∷ [])
  octal :
      {z : Bytes} (n : ℕ) → IsDigits class.Octal z 1 4 n →
      digits_value 8 (slice_range z 1 n) ≤ 255 →
      IsEscape z n (digits_value 8 (slice_range z 1 n) ∷ [])
  hex :
      {z : Bytes} (n : ℕ) →
      (after_backslash z ≡ char.small_x) ⊎ (after_backslash z ≡ char.capital_x) →
      IsDigits class.Hex z 2 4 n → IsEscape z n (digits_value 16 (slice_range z 2 n) ∷ [])
  short :
      {z : Bytes} → after_backslash z ≡ char.small_u → 6 ≤ length z → AllIn class.Hex z 2 6 →
      IsScalar (digits_value 16 (slice_range z 2 6)) →
      IsEscape z 6 (encode_utf8 (digits_value 16 (slice_range z 2 6)))
  long :
      {z : Bytes} → after_backslash z ≡ char.capital_u → 10 ≤ length z → AllIn class.Hex z 2 10 →
      IsScalar (digits_value 16 (slice_range z 2 10)) →
      IsEscape z 10 (encode_utf8 (digits_value 16 (slice_range z 2 10)))

-- the text between a string's quotes stands for these bytes
pub data Decodes : Bytes → Bytes → Type 0 where
  done : Decodes [] []
  as_is : {z v : Bytes} (b : ℕ) → (b ≡ char.backslash → ⊥) → Decodes z v → Decodes (b ∷ z) (b ∷ v)
  escape :
      {z v : Bytes} (n : ℕ) (w : Bytes) → slice_index z 0 ≡ char.backslash → IsEscape z n w →
      Decodes (drop n z) v → Decodes z (w ++ v)

-- several pieces, one after the other
pub data DecodesAll : List Bytes → Bytes → Type 0 where
  none : DecodesAll [] []
  piece :
      {zs : List Bytes} {v : Bytes} (z w : Bytes) → Decodes z w → DecodesAll zs v →
      DecodesAll (z ∷ zs) (w ++ v)

-- the text that a string, which is such pieces, stands for
abbrev pub StandsFor : List Bytes → Bytes → Type 0
StandsFor pieces text = DecodesAll pieces text × IsUtf8 text
