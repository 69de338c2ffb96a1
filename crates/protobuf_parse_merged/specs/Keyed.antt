-- No public clause rests on this file.
-- Entries by their keys, as the code has them.
use Rattle.std.specs.Prelude.{ℕ, ℤ, List, map}
use Rattle.std.specs.Borrow.{Bor}
use Rattle.protobuf_parse_merged.specs.declared.message.FieldValue as codevalue
use Rattle.protobuf_parse_merged.specs.Merged.{Value}
use Rattle.protobuf_parse_merged.specs.Maps.{Key}
use Rattle.protobuf_parse_merged.specs.Inside.{value_view}

-- a key
abbrev pub key_view : ℤ × Bor (List ℕ) → Key
key_view k = (k.0, k.1.now)

-- entries with their keys
abbrev pub entries_seen : List ((ℤ × Bor (List ℕ)) × codevalue.FieldValue) → List (Key × Value)
entries_seen es =
    map (λ (e : (ℤ × Bor (List ℕ)) × codevalue.FieldValue). (key_view e.0, value_view e.1)) es
