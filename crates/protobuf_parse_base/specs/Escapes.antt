-- Bytes written as the inside of a string literal, and what such a text says.
use Rattle.std.specs.Prelude.{ℕ, ◌==◌, ◌&&◌, ◌+◌, ◌-◌, ◌*◌, ◌/◌, ◌%◌, nat_le, Bool, List, [], ◌∷◌}
use Rattle.std.specs.Prelude.{if◌then◌else◌}
use Rattle.std.specs.List.{flat_map}
use Rattle.protobuf_parse_base.specs.Characters as char

-- a backslash and one more character
abbrev pub short_escape : ℕ → List ℕ
short_escape c = char.backslash ∷ c ∷ []

-- the character of a digit from 0 to 7
abbrev pub octal_digit : ℕ → ℕ
octal_digit value = char.zero + value

-- a backslash and three octal digits
abbrev pub octal_escape : ℕ → List ℕ
octal_escape b =
    char.backslash ∷ octal_digit (b / 64) ∷ octal_digit (b / 8 % 8) ∷ octal_digit (b % 8) ∷ []

-- a printable ASCII character
abbrev pub is_printable : ℕ → Bool
is_printable b = nat_le char.space b && nat_le b char.tilde

-- how one byte is written: `\n`, `\r`, `\t`, `\"`, `\'` and `\\`, a printable ASCII byte as it is,
-- any other in octal
abbrev pub escaped_byte : ℕ → List ℕ
escaped_byte b = if b == char.newline then short_escape char.small_n
    else if b == char.carriage_return then short_escape char.small_r
    else if b == char.tab then short_escape char.small_t
    else if b == char.quote then short_escape char.quote
    else if b == char.apostrophe then short_escape char.apostrophe
    else if b == char.backslash then short_escape char.backslash
    else if is_printable b then b ∷ []
    else octal_escape b

-- bytes as `protoc` writes a default value of type `bytes`: each escaped where it needs it
abbrev pub escaped_bytes : List ℕ → List ℕ
escaped_bytes bytes = flat_map escaped_byte bytes

-- ---- what such a text says, byte by byte

-- how far an escape has been read: not begun, after the backslash, or after one or two of its octal
-- digits with their value
pub data Reading : Type 0 where
  outside : Reading
  backslash : Reading
  one_digit : ℕ → Reading
  two_digits : ℕ → Reading

-- a digit from 0 to 7
abbrev pub is_octal_digit : ℕ → Bool
is_octal_digit c = nat_le char.zero c && nat_le c char.seven

-- the value of such a digit
abbrev pub digit_of : ℕ → ℕ
digit_of c = c - char.zero

-- the byte of a backslash and one more character
abbrev pub short_byte : ℕ → ℕ
short_byte c = if c == char.small_n then char.newline
    else if c == char.small_r then char.carriage_return
    else if c == char.small_t then char.tab
    else c

-- what the rest of a text says, of which so much of an escape has been read
abbrev pub said_from : Reading → List ℕ → List ℕ
said_from state [] = []
said_from outside (c ∷ cs) =
    if c == char.backslash then said_from backslash cs else c ∷ said_from outside cs
said_from backslash (c ∷ cs) = if is_octal_digit c then said_from (one_digit (digit_of c)) cs
    else short_byte c ∷ said_from outside cs
said_from (one_digit value) (c ∷ cs) = said_from (two_digits (8 * value + digit_of c)) cs
said_from (two_digits value) (c ∷ cs) = (8 * value + digit_of c) ∷ said_from outside cs

-- The bytes that an escaped text says. The language reads more escapes than these; a definition of
-- the bytes of any string literal agrees with this one on escaped texts if it reads each
-- `escaped_byte b` as `b`, since an escaped text is these one after another.
abbrev pub said_bytes : List ℕ → List ℕ
said_bytes text = said_from outside text
