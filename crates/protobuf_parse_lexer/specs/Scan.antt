-- No public clause rests on this file.
-- What the scanners of the front of a text answer.
use Rattle.std.specs.Prelude.{◌≡◌, ◌≤◌, ◌<◌, ◌⊎◌, ℕ, ◌+◌, Bool, true, false, not, nat_le, nat_lt}
use Rattle.std.specs.Prelude.{◌&&◌, ◌||◌, if◌then◌else◌, ◌==◌, List, [], ◌∷◌, length, slice_index}
use Rattle.std.specs.Prelude.{Option, Some, None}
use Rattle.std.specs.Int.{w64, trailing_zeros}
use Rattle.protobuf_parse_base.specs.Characters as char
use Rattle.protobuf_parse_lexer.specs.Text.{Bytes, is_in, AllIn, RunStopsAt, IsBlank, IsToken}
use Rattle.protobuf_parse_lexer.specs.Text.{IsFault}
use Rattle.protobuf_parse_lexer.specs.declared.lexer.bytes.ByteClass.TheVariants as class
use Rattle.protobuf_parse_lexer.specs.declared.lexer.token.Place.{Place}
use Rattle.protobuf_parse_lexer.specs.declared.lexer.token.TokenKind.{TokenKind}
use Rattle.protobuf_parse_lexer.specs.declared.lexer.token.TokenKind.TheVariants as kind
use Rattle.protobuf_parse_lexer.specs.declared.lexer.front.Piece.{Piece}
use Rattle.protobuf_parse_lexer.specs.declared.lexer.front.Piece.TheVariants as piece

-- The index behind the closing quote, for a text that begins at the index `at`. The test is whether
-- a backslash takes the first byte.
abbrev pub closing : ℕ → Bool → ℕ → List ℕ → Option ℕ
closing quote is_escaped at [] = None
closing quote true at (b ∷ z) =
    if b == char.newline || b == char.nul then None else closing quote false (at + 1) z
closing quote false at (b ∷ z) =
    if b == char.newline || b == char.nul then None
    else (if b == quote then Some (at + 1) else closing quote (b == char.backslash) (at + 1) z)

-- the longest fraction after the digits up to `whole` ends at `point`
pub record EndsFraction (z : Bytes) (whole point : ℕ) : Type 0 where
  pub within : point ≤ length z
  pub ends : ((point ≡ whole) × (slice_index z whole ≡ char.dot → ⊥))
      ⊎ ((slice_index z whole ≡ char.dot) × (whole + 1 ≤ point)
      × AllIn class.Digit z (whole + 1) point
      × RunStopsAt class.Digit z point)

abbrev pub BeginsNumber : Bytes → Type 0
BeginsNumber z = (is_in class.Digit (slice_index z 0) ≡ true)
    ⊎ ((slice_index z 0 ≡ char.dot) × (is_in class.Digit (slice_index z 1) ≡ true))

-- the bytes from i up to n pass the test
abbrev pub AllPass : (ℕ → Bool) → Bytes → ℕ → ℕ → Type 0
AllPass test z i n = (k : ℕ) → i ≤ k → k < n → test (slice_index z k) ≡ true

-- the first `run` of the n bytes from i on pass the test, and the next one of the n does not
abbrev pub IsRunIn : (ℕ → Bool) → Bytes → ℕ → ℕ → ℕ → Type 0
IsRunIn test z i n run =
    ((run ≤ n) × AllPass test z i (i + run))
    × (run < n → test (slice_index z (i + run)) ≡ false)

-- the number of the lowest bit that is set, or n
abbrev pub first_set : ℕ → ℕ → ℕ
first_set mask n = if mask == 0 then n else trailing_zeros w64 mask

-- a symbol whatever stands behind it: one with which no string, number or comment begins
abbrev pub is_lone_symbol : ℕ → Bool
is_lone_symbol b =
    (nat_le char.colon b && nat_le b char.tilde) ||
    (nat_le char.open_paren b && nat_le b char.minus)

-- a point that begins no number
abbrev pub is_lone_point : Bytes → Bool
is_lone_point z = slice_index z 0 == char.dot && not (is_in class.Digit (slice_index z 1))

-- a comment up to the end of its line begins there
abbrev pub begins_line_comment : Bytes → Bool
begins_line_comment z = slice_index z 0 == char.slash && slice_index z 1 == char.slash

-- The place at which what is left begins; or any in its line, if a line feed comes first.
abbrev pub IsPlaceBefore : Bytes → Place → Place → Type 0
IsPlaceBefore rest p q = (q ≡ p) ⊎ ((slice_index rest 0 ≡ char.newline) × (q.line ≡ p.line))

-- no line feed, and no byte of a longer character
abbrev pub is_narrow : ℕ → Bool
is_narrow b = nat_lt b 128 && not (b == char.newline)

-- a token's bytes, which are narrow unless it is a string or a float
abbrev pub IsNarrow : TokenKind → Bytes → Type 0
IsNarrow kind.Str z = Unit {0}
IsNarrow kind.Float z = Unit {0}
IsNarrow _ z = AllPass is_narrow z 0 (length z)

-- the piece stands at the front of the text
abbrev pub Stands : Bytes → Piece → Type 0
Stands z piece.End = length z ≡ 0
Stands z (piece.Blank n) = IsBlank z n
Stands z (piece.Token n k) = IsToken z n k
Stands z (piece.Fault e) = IsFault z e
