-- No public clause rests on this file.
-- A spelling that is one character behind.
use Rattle.std.specs.Prelude.{ℕ, Bool, List, [], Option, Some, None}
use Rattle.protobuf_parse_index.specs.Spellings.{spelled_one}

-- what is written of a character that is held back until the next is known
abbrev pub spelled_held : (upper : Bool) → (before held after : Option ℕ) → List ℕ
spelled_held upper before None after = []
spelled_held upper before (Some c) after = spelled_one upper before c after
