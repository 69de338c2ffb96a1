-- A part of a text as if it were blanks.
use Rattle.std.specs.Prelude.{ℕ, ◌-◌, ◌||◌, ◌==◌, if◌then◌else◌, nat_le, nat_lt, [], ◌∷◌}
use Rattle.std.specs.Prelude.{◌++◌, take, drop}
use Rattle.protobuf_parse_lexer.specs.Text.{Bytes}

-- What stands in place of a byte of UTF-8: a line feed for a line feed, and a blank for each other
-- character, which one of the bytes 128 to 191 goes on with.
abbrev pub blank : ℕ → Bytes
blank b = if b == 10 then b ∷ [] else (if nat_lt b 0x80 || nat_le 0xc0 b then 32 ∷ [] else [])

-- so in place of several
abbrev pub blanks : Bytes → Bytes
blanks [] = []
blanks (b ∷ z) = blank b ++ blanks z

-- the text with blanks from one byte up to before another
abbrev pub masked : Bytes → ℕ → ℕ → Bytes
masked z from to = take from z ++ (blanks (take (to - from) (drop from z)) ++ drop to z)
