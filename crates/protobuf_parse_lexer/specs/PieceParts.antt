-- No public clause rests on this file.
-- The parts of a piece of a string, as they are decoded.
use Rattle.std.specs.Prelude.{◌≡◌, ◌<◌, ◌≤◌, ◌⊎◌, ℕ, [], ◌∷◌, ◌++◌, length, slice_index}
use Rattle.std.specs.Prelude.{slice_range, Result, MatchResult}
use Rattle.std.specs.Char.{IsScalar}
use Rattle.std.specs.Str.Parse.{digits_value}
use Rattle.protobuf_parse_base.specs.Characters as char
use Rattle.protobuf_parse_lexer.specs.Text.{Bytes, AllIn}
use Rattle.protobuf_parse_lexer.specs.Tokens.{IsDigits, IsEscape, Decodes}
use Rattle.protobuf_parse_lexer.specs.declared.lexer.bytes.ByteClass.{ByteClass}
use Rattle.protobuf_parse_lexer.specs.declared.lexer.bytes.ByteClass.TheVariants as class
use Rattle.protobuf_parse_lexer.specs.declared.lexer.str_lit.Meaning.TheVariants as meaning
use Rattle.protobuf_parse_lexer.specs.declared.lexer.str_lit.Part.{Part}
use Rattle.protobuf_parse_lexer.specs.declared.lexer.str_lit.StrLitDecodeError.{StrLitDecodeError}
use Rattle.protobuf_parse_lexer.specs.declared.lexer.str_lit.StrLitDecodeError.TheVariants as error
use Rattle.protobuf_parse_lexer.specs.Decoding.{meaning_bytes}

-- the digits of the class from `from` on, at most up to 4, name a byte
pub record NamesByte (c : ByteClass) (radix from : ℕ) (z : Bytes) (p : Part) : Type 0 where
  pub end : ℕ
  pub digits : IsDigits c z from 4 end
  pub small : digits_value radix (slice_range z from end) ≤ 255
  pub is : p
      ≡ record { len = end; meaning = meaning.Byte (digits_value radix (slice_range z from end)) }

abbrev pub NamesNoByte : ByteClass → ℕ → ℕ → Bytes → Type 0
NamesNoByte c radix from z = (n : ℕ) → IsDigits c z from 4 n
    → digits_value radix (slice_range z from n) ≤ 255 → ⊥

-- the hexadecimal digits from 2 up to `end` name a character
pub record NamesChar (end : ℕ) (z : Bytes) (p : Part) : Type 0 where
  pub within : end ≤ length z
  pub each : AllIn class.Hex z 2 end
  pub scalar : IsScalar (digits_value 16 (slice_range z 2 end))
  pub is : p ≡ record { len = end; meaning = meaning.Char (digits_value 16 (slice_range z 2 end)) }

abbrev pub NamesNoChar : ℕ → Bytes → Type 0
NamesNoChar end z = end ≤ length z → AllIn class.Hex z 2 end
    → IsScalar (digits_value 16 (slice_range z 2 end)) → ⊥

abbrev pub HasEscape : Bytes → Part → Type 0
HasEscape z p = IsEscape z p.len (meaning_bytes p.meaning)

abbrev pub HasNoEscape : Bytes → Type 0
HasNoEscape z = (n : ℕ) (w : Bytes) → IsEscape z n w → ⊥

-- the n bytes at the front are an escape, or a byte that is no backslash, and stand for these bytes
pub record IsPart (z : Bytes) (n : ℕ) (w : Bytes) : Type 0 where
  pub some : 0 < n
  pub within : n ≤ length z
  pub is : ((slice_index z 0 ≡ char.backslash) × IsEscape z n w)
      ⊎ ((slice_index z 0 ≡ char.backslash → ⊥) × (n ≡ 1) × (w ≡ slice_index z 0 ∷ []))

abbrev pub HasPart : Bytes → Part → Type 0
HasPart z p = IsPart z p.len (meaning_bytes p.meaning)

abbrev pub HasNoPart : Bytes → Type 0
HasNoPart z = (slice_index z 0 ≡ char.backslash) × HasNoEscape z

-- what a piece stands for comes behind the bytes, or it stands for nothing
abbrev pub PushesPiece : Bytes → Bytes → Bytes → Result (Unit {0}) StrLitDecodeError → Type 0
PushesPiece piece old new r =
    MatchResult r (λ _. (w : Bytes) × Decodes piece w × (new ≡ old ++ w))
    (λ e. (e ≡ error.Memory) ⊎ ((e ≡ error.BadEscape) × ((w : Bytes) → Decodes piece w → ⊥)))
