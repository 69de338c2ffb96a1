-- What a name is: its bytes, whether they lie in the value itself or in memory of their own.
use Rattle.std.specs.Prelude.{List, ℕ}
use Rattle.std.specs.String.{string_bytes}
use Rattle.protobuf_parse_base.specs.declared.name.Name.{Name}
use Rattle.protobuf_parse_base.specs.declared.name.Text.{Text}
use Rattle.protobuf_parse_base.specs.declared.name.Text.TheVariants as text

-- the bytes of a text, which a short one has in place and a long one in memory of its own
abbrev pub text_bytes : Text → List ℕ
text_bytes (text.Short s) = s.bytes
text_bytes (text.Long s) = string_bytes s

-- the bytes of a name
abbrev pub name_bytes : Name → List ℕ
name_bytes name = text_bytes name.text
