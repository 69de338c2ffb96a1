-- No public clause rests on this file.
-- The longest front of a text that is so.
use Rattle.std.specs.Prelude.{◌≤◌, ℕ}
use Rattle.protobuf_parse_lexer.specs.Text.{Bytes}

-- the longest front that is so, and that no front is
abbrev pub Longest : (Bytes → ℕ → Type 0) → Bytes → ℕ → Type 0
Longest Is z n = Is z n × ((m : ℕ) → Is z m → m ≤ n)
