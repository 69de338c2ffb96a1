-- No public clause rests on this file.
-- What is copied into the rooms of the caller.
use Rattle.std.specs.Prelude.{◌≡◌, ℕ, List, Option, Some, None, take, length, pos, ℤ}
use Rattle.std.specs.Global.{Vec}
use Rattle.protobuf_parse_c.specs.declared.shapes.PbSizes.{PbSizes}

-- With the status 0 there is a set, and the room begins with it.
abbrev pub IsSetCopied : Option (Vec ℕ) → (status : ℤ) → PbSizes → (room : List ℕ) → Type 0
IsSetCopied (Some set) status sizes room = status ≡ pos 0 → take sizes.set room ≡ set.items
IsSetCopied None status sizes room = status ≡ pos 0 → ⊥
