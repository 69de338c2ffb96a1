-- No public clause rests on this file.
-- Parts that are put behind one another.
use Rattle.std.specs.Prelude.{ℕ, List, ◌∷◌}
use Rattle.protobuf_parse_base.specs.Characters as char

-- a part behind another
abbrev pub part_behind : List ℕ → List ℕ
part_behind part = char.slash ∷ part
