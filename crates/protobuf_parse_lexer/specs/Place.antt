-- A line and a column, both from 1: a line feed ends a line, and a column counts characters.
use Rattle.std.specs.Prelude.{ℕ, ◌+◌, ◌||◌, if◌then◌else◌, ◌==◌, nat_le, nat_lt, List}
use Rattle.std.specs.List.{fold}
use Rattle.protobuf_parse_base.specs.Characters as char
use Rattle.protobuf_parse_lexer.specs.declared.lexer.token.Place.{Place}

-- where a text begins
abbrev pub start : Place
start = record { line = 1; col = 1 }

-- After one byte more. The bytes 128 to 191 go on with a character that begins before them.
abbrev pub step : Place → ℕ → Place
step p b =
    if b == char.newline then record { line = p.line + 1; col = 1 }
    else (if nat_lt b 0x80 || nat_le 0xc0 b then record { line = p.line; col = p.col + 1 } else p)

-- the place after these bytes, which begin at a place
abbrev pub after : Place → List ℕ → Place
after p z = fold step p z
