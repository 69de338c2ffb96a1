-- What string literals that stand side by side mean, as a function: the bytes that `DecodesAll`
-- relates to what stands between their quotes, if there are any; and the text that such bytes are.
use Rattle.std.specs.Prelude.{ℕ, zero, suc, ◌+◌, ◌-◌, nat_le, ◌==◌, Bool, cond, List}
use Rattle.std.specs.Prelude.{[], ◌∷◌, ◌++◌, length, take, drop, slice_range, Option, Some, None}
use Rattle.std.specs.Prelude.{◌&&◌}
use Rattle.std.proofs.Math.Utf8.{scalar}
use Rattle.std.specs.Str.{is_utf8}
use Rattle.std.specs.Str.Parse.{digits_value}
use Rattle.protobuf_parse_base.specs.Characters as char
use Rattle.protobuf_parse_lexer.specs.Decoding.{meaning_bytes}
use Rattle.protobuf_parse_lexer.specs.Text.{Bytes, is_in}
use Rattle.protobuf_parse_lexer.specs.Tokens.{letter_byte, after_backslash}
use Rattle.protobuf_parse_lexer.specs.declared.lexer.bytes.ByteClass.{ByteClass}
use Rattle.protobuf_parse_lexer.specs.declared.lexer.bytes.ByteClass.TheVariants as class
use Rattle.protobuf_parse_lexer.specs.declared.lexer.str_lit.Meaning.TheVariants as meaning
use Rattle.protobuf_parse_lexer.specs.declared.lexer.str_lit.Part.{Part}

-- ---- the part at the front

-- how many bytes at the front are in the class
abbrev pub run : ByteClass → Bytes → ℕ
run c [] = 0
run c (b ∷ bs) = cond (is_in c b) (suc (run c bs)) 0

-- the end of the digits from `from` on, at most up to `limit`
unfoldable pub digits_end : ByteClass → Bytes → ℕ → ℕ → ℕ
digits_end c z from limit = from + run c (take (limit - from) (drop from z))

-- a part of n bytes that stands for the byte v or for the character v, if the test holds
abbrev pub byte_if : Bool → ℕ → ℕ → Option Part
byte_if b n v = cond b (Some (record { len = n; meaning = meaning.Byte v })) None

-- the character v, if the test holds
abbrev pub char_if : Bool → ℕ → ℕ → Option Part
char_if b n v = cond b (Some (record { len = n; meaning = meaning.Char v })) None

-- an escape of digits from `from` on that name a byte
unfoldable pub byte_part : ByteClass → ℕ → ℕ → Bytes → Option Part
byte_part c radix from z =
    let n = digits_end c z from 4 in
    let v = digits_value radix (slice_range z from n) in
    byte_if (nat_le (suc from) n && nat_le v 255) n v

-- an escape of just the hexadecimal digits from 2 up to n, which name a character
unfoldable pub char_part : ℕ → Bytes → Option Part
char_part n z =
    let v = digits_value 16 (slice_range z 2 n) in
    char_if (nat_le n (length z) && digits_end class.Hex z 2 n == n && scalar v) n v

-- a backslash and a letter, which name that byte
abbrev pub letter_part : Option ℕ → Option Part
letter_part None = None
letter_part (Some b) = Some (record { len = 2; meaning = meaning.Byte b })

-- the escape at the front, which is a backslash, by the byte behind it
abbrev pub escape_by : ℕ → Bytes → Option Part
escape_by c z =
    cond (is_in class.Octal c) (byte_part class.Octal 8 1 z)
    (cond (c == char.small_x) (byte_part class.Hex 16 2 z)
    (cond (c == char.capital_x) (byte_part class.Hex 16 2 z)
    (cond (c == char.small_u) (char_part 6 z)
    (cond (c == char.capital_u) (char_part 10 z) (letter_part (letter_byte c))))))

-- the part at the front, which begins with this byte
unfoldable pub front_part : ℕ → Bytes → Option Part
front_part b z = cond (b == char.backslash) (escape_by (after_backslash z) z)
    (Some (record { len = 1; meaning = meaning.Byte b }))

-- ---- pieces

-- those bytes, and then what the rest says
abbrev pub before : Bytes → Option Bytes → Option Bytes
before w None = None
before w (Some v) = Some (w ++ v)

-- what a part says, and then what follows it says
abbrev pub part_then : Option Part → (ℕ → Option Bytes) → Option Bytes
part_then None rest = None
part_then (Some p) rest = before (meaning_bytes p.meaning) (rest p.len)

-- of at most so many parts
abbrev pub decode_upto : ℕ → Bytes → Option Bytes
decode_upto zero [] = Some []
decode_upto zero (b ∷ z) = None
decode_upto (suc k) [] = Some []
decode_upto (suc k) (b ∷ z) = part_then (front_part b (b ∷ z)) (λ n. decode_upto k (drop n (b ∷ z)))

-- what stands between a string's quotes
unfoldable pub decode_piece : Bytes → Option Bytes
decode_piece z = decode_upto (length z) z

-- what the one says, and then the other
abbrev pub both : Option Bytes → Option Bytes → Option Bytes
both None rest = None
both (Some w) rest = before w rest

-- the bytes of neighbouring literals, joined; none where an escape of one is wrong
abbrev pub decode : List Bytes → Option Bytes
decode [] = Some []
decode (z ∷ zs) = both (decode_piece z) (decode zs)

-- ---- what a string says

-- bytes that are UTF-8
abbrev pub text_when : Option Bytes → Option Bytes
text_when None = None
text_when (Some v) = cond (is_utf8 v) (Some v) None

-- the bytes, where they are a text in UTF-8
abbrev pub text_of : List Bytes → Option Bytes
text_of zs = text_when (decode zs)
