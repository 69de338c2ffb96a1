-- What stands at the front of a text: the "Lexical elements" of the Protocol Buffers Language
-- Specification (https://protobuf.dev/reference/protobuf/proto3-spec/), with comments and blanks.
-- A text is its bytes, mostly z; the numbers n and m count bytes from its front on.
use Rattle.std.specs.Prelude.{◌≡◌, ◌≤◌, ◌<◌, ◌⊎◌, ℕ, ◌+◌, ◌-◌, ◌^◌, Bool, true, false, not, ◌&&◌}
use Rattle.std.specs.Prelude.{◌||◌, if◌then◌else◌, ◌==◌, nat_le, List, [], ◌∷◌, length, slice_index}
use Rattle.std.specs.Prelude.{slice_range, take, drop}
use Rattle.std.specs.Char.{is_ascii_digit, is_ascii_hexdigit, is_ascii_alphanumeric}
use Rattle.std.specs.Str.Parse.{digits_value}
use Rattle.protobuf_parse_lexer.specs.declared.lexer.bytes.ByteClass.{ByteClass}
use Rattle.protobuf_parse_lexer.specs.declared.lexer.bytes.ByteClass.TheVariants as class
use Rattle.protobuf_parse_lexer.specs.declared.error.ParserError.{ParserError}
use Rattle.protobuf_parse_lexer.specs.declared.error.ParserError.TheVariants as error
use Rattle.protobuf_parse_lexer.specs.declared.lexer.token.TokenKind.{TokenKind}
use Rattle.protobuf_parse_lexer.specs.declared.lexer.token.TokenKind.TheVariants as kind
use Rattle.std.specs.Prelude.{Option, Some, None}
use Rattle.protobuf_parse_base.specs.Characters as char

-- a text, or a part of one
abbrev pub Bytes : Type 0
Bytes = List ℕ

-- ---- classes of bytes

-- space, tab, line feed, vertical tab, form feed, carriage return; a byte of a line; a letter,
-- digit or underscore; a digit; an octal digit; a hexadecimal digit
abbrev pub is_in : ByteClass → ℕ → Bool
is_in class.Blank b = b == char.space || (nat_le char.tab b && nat_le b char.carriage_return)
is_in class.Line b = not (b == char.newline)
is_in class.Ident b = is_ascii_alphanumeric b || b == char.underscore
is_in class.Digit b = is_ascii_digit b
is_in class.Octal b = nat_le char.zero b && nat_le b char.seven
is_in class.Hex b = is_ascii_hexdigit b

-- the bytes from i up to n are of the class
abbrev pub AllIn : ByteClass → Bytes → ℕ → ℕ → Type 0
AllIn c z i n = (k : ℕ) → i ≤ k → k < n → is_in c (slice_index z k) ≡ true

-- no byte of the class stands at n
abbrev pub RunStopsAt : ByteClass → Bytes → ℕ → Type 0
RunStopsAt c z n = n < length z → is_in c (slice_index z n) ≡ false

-- ---- blanks and comments

-- blanks, and no more of them follow
pub record IsSpaces (z : Bytes) (n : ℕ) : Type 0 where
  pub some : 0 < n
  pub within : n ≤ length z
  pub each : AllIn class.Blank z 0 n
  pub stops : RunStopsAt class.Blank z n

-- `//` to the end of its line
pub record IsLine (z : Bytes) (n : ℕ) : Type 0 where
  pub first : slice_index z 0 ≡ char.slash
  pub second : slice_index z 1 ≡ char.slash
  pub some : 2 ≤ n
  pub within : n ≤ length z
  pub each : AllIn class.Line z 2 n
  pub stops : RunStopsAt class.Line z n

-- `*/` stands at k
abbrev pub Closes : Bytes → ℕ → Type 0
Closes z k = (slice_index z k ≡ char.star) × (slice_index z (k + 1) ≡ char.slash)

-- `/*` to the next `*/`
pub record IsBlock (z : Bytes) (n : ℕ) : Type 0 where
  pub first : slice_index z 0 ≡ char.slash
  pub second : slice_index z 1 ≡ char.star
  pub some : 4 ≤ n
  pub within : n ≤ length z
  pub closes : Closes z (n - 2)
  pub earlier : (k : ℕ) → 2 ≤ k → k + 2 < n → Closes z k → ⊥

-- what is between tokens
abbrev pub IsBlank : Bytes → ℕ → Type 0
IsBlank z n = IsSpaces z n ⊎ IsLine z n ⊎ IsBlock z n

-- ---- identifiers: ident = letter { letter | decimalDigit | "_" }, where "_" counts as a letter

-- a letter or an underscore, and letters, digits and underscores behind it
pub record IsIdentText (z : Bytes) (n : ℕ) : Type 0 where
  pub some : 0 < n
  pub within : n ≤ length z
  pub each : AllIn class.Ident z 0 n
  pub first : is_in class.Digit (slice_index z 0) ≡ false

-- ---- strings: a quote, characters and escapes, and the same quote

-- with these bytes a string begins and ends
abbrev pub IsQuote : ℕ → Type 0
IsQuote b = (b ≡ char.quote) ⊎ (b ≡ char.apostrophe)

-- no bytes
abbrev pub is_empty : Bytes → Bool
is_empty [] = true
is_empty (b ∷ z) = false

-- These bytes are the rest of a string, with its closing quote: no line feed and no NUL stands
-- there, and a quote closes the string unless a backslash takes it. The test is whether one takes
-- the first.
abbrev pub is_rest : ℕ → Bool → Bytes → Bool
is_rest quote is_escaped [] = false
is_rest quote true (b ∷ z) =
    if b == char.newline || b == char.nul then false else is_rest quote false z
is_rest quote false (b ∷ z) =
    if b == char.newline || b == char.nul then false
    else (if b == quote then is_empty z else is_rest quote (b == char.backslash) z)

-- the quote at its end is the one at its front
pub record IsString (z : Bytes) (n : ℕ) : Type 0 where
  pub some : 0 < n
  pub within : n ≤ length z
  pub quote : IsQuote (slice_index z 0)
  pub rest : is_rest (slice_index z 0) false (take (n - 1) (drop 1 z)) ≡ true

-- ---- integers: decimalLit, octalLit, hexLit

-- digits, of which the first is no 0, or 0 alone
pub record IsDecimal (z : Bytes) (n : ℕ) : Type 0 where
  pub some : 0 < n
  pub within : n ≤ length z
  pub each : AllIn class.Digit z 0 n
  pub zero_alone : slice_index z 0 ≡ char.zero → n ≡ 1

-- `0x` or `0X` and hexadecimal digits
pub record IsHex (z : Bytes) (n : ℕ) : Type 0 where
  pub some : 3 ≤ n
  pub within : n ≤ length z
  pub first : slice_index z 0 ≡ char.zero
  pub second : (slice_index z 1 ≡ char.small_x) ⊎ (slice_index z 1 ≡ char.capital_x)
  pub each : AllIn class.Hex z 2 n

-- `0` and octal digits
pub record IsOctal (z : Bytes) (n : ℕ) : Type 0 where
  pub some : 2 ≤ n
  pub within : n ≤ length z
  pub first : slice_index z 0 ≡ char.zero
  pub each : AllIn class.Octal z 1 n

-- an integer of n bytes, whose number is v
abbrev pub IsIntegerText : Bytes → ℕ → ℕ → Type 0
IsIntegerText z n v =
    (IsDecimal z n × (v ≡ digits_value 10 (slice_range z 0 n)))
    ⊎ (IsHex z n × (v ≡ digits_value 16 (slice_range z 2 n)))
    ⊎ (IsOctal z n × (v ≡ digits_value 8 (slice_range z 1 n)))

-- ---- floats: decimals "." [ decimals ] [ exponent ] | decimals exponent | "." decimals [ exponent
-- ]

-- with these an exponent begins
abbrev pub IsLetterE : ℕ → Type 0
IsLetterE b = (b ≡ char.small_e) ⊎ (b ≡ char.capital_e)

-- with these it may go on
abbrev pub IsSign : ℕ → Type 0
IsSign b = (b ≡ char.plus) ⊎ (b ≡ char.minus)

-- an exponent from the byte j up to n
pub record IsExponent (j : ℕ) (z : Bytes) (n : ℕ) : Type 0 where
  pub from : ℕ
  pub letter : IsLetterE (slice_index z j)
  pub begins : (from ≡ j + 1) ⊎ ((from ≡ j + 2) × IsSign (slice_index z (j + 1)))
  pub some : from < n
  pub within : n ≤ length z
  pub each : AllIn class.Digit z from n

-- digits up to `whole`, a point and digits behind it up to `point`, and an exponent, each perhaps
-- missing
pub record IsFloat (z : Bytes) (n : ℕ) : Type 0 where
  pub whole : ℕ
  pub point : ℕ
  pub digits : AllIn class.Digit z 0 whole
  pub fraction :
      (point ≡ whole)
      ⊎ ((slice_index z whole ≡ char.dot) × (whole + 1 ≤ point)
      × AllIn class.Digit z (whole + 1) point)
  pub exponent : (n ≡ point) ⊎ IsExponent point z n
  -- some digit stands before the exponent
  pub some : (0 < whole) ⊎ (whole + 1 < point)
  -- a point or an exponent stands there
  pub marked : whole < n
  pub within : n ≤ length z

-- ---- the longest literal

-- an integer or a float
abbrev pub IsNumberText : Bytes → ℕ → Type 0
IsNumberText z n = IsDecimal z n ⊎ IsHex z n ⊎ IsOctal z n ⊎ IsFloat z n

-- an identifier, a string or a number
abbrev pub IsLiteral : Bytes → ℕ → Type 0
IsLiteral z n = IsIdentText z n ⊎ IsString z n ⊎ IsNumberText z n

-- no front of the text is such a thing
abbrev pub NoFront : (Bytes → ℕ → Type 0) → Bytes → Type 0
NoFront Is z = (m : ℕ) → Is z m → ⊥

-- no identifier, string or number there is longer
abbrev pub IsLongest : Bytes → ℕ → Type 0
IsLongest z n = (m : ℕ) → IsLiteral z m → m ≤ n

-- ---- tokens and faults

-- no comment begins there, closed or not
abbrev pub HasNoComment : Bytes → Type 0
HasNoComment z =
    slice_index z 0 ≡ char.slash
    → (slice_index z 1 ≡ char.slash → ⊥) × (slice_index z 1 ≡ char.star → ⊥)

-- a visible ASCII character that is no quote
abbrev pub is_symbol : ℕ → Bool
is_symbol b =
    nat_le char.exclamation b && nat_le b char.tilde && not (b == char.quote)
    && not (b == char.apostrophe)

-- The token of the kind has n bytes there: the longest literal, which for a number no identifier's
-- character follows, else one symbol.
abbrev pub IsToken : Bytes → ℕ → TokenKind → Type 0
IsToken z n kind.Ident = IsIdentText z n × IsLongest z n
IsToken z n kind.Str = IsString z n × IsLongest z n
IsToken z n (kind.Integer v) =
    IsIntegerText z n v × (v < 2 ^ 64) × IsLongest z n × RunStopsAt class.Ident z n
IsToken z n kind.Float = IsFloat z n × IsLongest z n × RunStopsAt class.Ident z n
IsToken z n (kind.Symbol b) =
    (n ≡ 1) × (0 < length z) × (b ≡ slice_index z 0) × (is_symbol b ≡ true) × NoFront IsLiteral z
    × HasNoComment z

-- What is wrong there: an unclosed comment, an unclosed string, a number directly before an
-- identifier's character, any other integer that is too large, or a character that begins no token.
abbrev pub IsFault : Bytes → ParserError → Type 0
IsFault z error.UnterminatedComment =
    (slice_index z 0 ≡ char.slash) × (slice_index z 1 ≡ char.star) × NoFront IsBlock z
IsFault z error.UnterminatedString = IsQuote (slice_index z 0) × NoFront IsLiteral z
IsFault z error.BadNumber =
    (n : ℕ) × IsNumberText z n × IsLongest z n × (n < length z)
    × (is_in class.Ident (slice_index z n) ≡ true)
IsFault z error.IntegerOverflow =
    (n : ℕ) × (v : ℕ) × IsIntegerText z n v × IsLongest z n × RunStopsAt class.Ident z n
    × (2 ^ 64 ≤ v)
IsFault z error.UnexpectedCharacter =
    (0 < length z) × (is_in class.Blank (slice_index z 0) ≡ false) × HasNoComment z
    × NoFront IsLiteral z × (is_symbol (slice_index z 0) ≡ false) × (IsQuote (slice_index z 0) → ⊥)
IsFault z _ = ⊥

-- an item, if there is one, seen by view
abbrev pub seen_by : {X Y : Type 0} → (X → Y) → Option X → Option Y
seen_by view None = None
seen_by view (Some x) = Some (view x)
