-- What the decoder of strings answers.
use Rattle.std.specs.Prelude.{◌≡◌, ◌⊎◌, List, [], ◌∷◌}
use Rattle.std.specs.Prelude.{encode_utf8}
use Rattle.std.specs.Str.{IsUtf8}
use Rattle.protobuf_parse_lexer.specs.Text.{Bytes}
use Rattle.protobuf_parse_lexer.specs.Tokens.{DecodesAll}
use Rattle.protobuf_parse_lexer.specs.declared.lexer.str_lit.Meaning.{Meaning}
use Rattle.protobuf_parse_lexer.specs.declared.lexer.str_lit.Meaning.TheVariants as meaning
use Rattle.protobuf_parse_lexer.specs.declared.lexer.str_lit.StrLitDecodeError.{StrLitDecodeError}
use Rattle.protobuf_parse_lexer.specs.declared.lexer.str_lit.StrLitDecodeError.TheVariants as error

-- the bytes that a part stands for
abbrev pub meaning_bytes : Meaning → Bytes
meaning_bytes (meaning.Byte b) = b ∷ []
meaning_bytes (meaning.Char c) = encode_utf8 c

-- why pieces don't decode to bytes, and to a text
abbrev pub RefusesBytes : List Bytes → StrLitDecodeError → Type 0
RefusesBytes pieces e = (e ≡ error.Memory)
    ⊎ ((e ≡ error.BadEscape) × ((v : Bytes) → DecodesAll pieces v → ⊥))

-- an escape is wrong, or the bytes are not UTF-8; or memory ran out
abbrev pub RefusesText : List Bytes → StrLitDecodeError → Type 0
RefusesText pieces e = RefusesBytes pieces e
    ⊎ ((e ≡ error.NotUtf8) × ((v : Bytes) × DecodesAll pieces v × (IsUtf8 v → ⊥)))
