-- No public clause rests on this file.
-- The texts of lists in constants.
use Rattle.std.specs.Prelude.{List, ◌++◌, map, flat_map, codes}
use Rattle.std.specs.List.{join_with_byte}
use Rattle.protobuf_parse_base.specs.Characters as char
use Rattle.protobuf_parse_lexer.specs.Text.{Bytes}
use Rattle.protobuf_parse_syntax.specs.Trees.{ConstantSyntax, ConstantFieldSyntax}
use Rattle.protobuf_parse_syntax.specs.Formats.{field_text, format}

abbrev pub constant_field_text : ConstantFieldSyntax → Bytes
constant_field_text f = field_text f.name f.value (format f.value)

-- the same over lists
abbrev pub items_text : List ConstantSyntax → Bytes
items_text cs = join_with_byte char.comma (map format cs)

abbrev pub list_text : List ConstantSyntax → Bytes
list_text cs = codes "[" ++ items_text cs ++ codes "]"

abbrev pub message_text : List ConstantFieldSyntax → Bytes
message_text fs = codes "{ " ++ flat_map constant_field_text fs ++ codes "}"
