-- No public clause rests on this file.
-- Which bytes stand between double quotes as they are: those that are printable in ASCII, but no
-- quote and no backslash.
use Rattle.std.specs.Prelude.{ℕ, Bool, ◌==◌, ◌&&◌, ◌||◌, not}
use Rattle.protobuf_parse_base.specs.Characters as char
use Rattle.protobuf_parse_base.specs.Escapes.{is_printable}

abbrev pub is_unescaped_byte : ℕ → Bool
is_unescaped_byte b =
    is_printable b && not (b == char.quote || b == char.apostrophe || b == char.backslash)
