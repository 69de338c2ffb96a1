-- How a constant is written.
--
-- A number, a truth value and a name are their plain text. A string is its pieces as they stand in
-- the source, each in double quotes, with a backslash before each `"` that has none, and a blank
-- between each two. A list is `[a,b]`. A message is `{ `, then each field as `n: v `, or as `n m`
-- where the value is a message, and then `}`. The name of an extension and a type URL stand in
-- brackets.
use Rattle.std.specs.Prelude.{ℕ, ◌==◌, ◌&&◌, Bool, true, false, not, List, [], ◌∷◌, ◌++◌, map}
use Rattle.std.specs.Prelude.{codes, if◌then◌else◌}
use Rattle.std.specs.Fmt.{signed_decimal}
use Rattle.std.specs.List.{join_with_byte}
use Rattle.protobuf_parse_base.specs.Characters as char
use Rattle.protobuf_parse_lexer.specs.Text.{Bytes}
use Rattle.protobuf_parse_syntax.specs.Trees.{Pieces, ConstantNameSyntax, regular_name}
use Rattle.protobuf_parse_syntax.specs.Trees.{extension_name, url_name, ConstantSyntax, integer}
use Rattle.protobuf_parse_syntax.specs.Trees.{truth, dotted, string, list, fields, ConstantList}
use Rattle.protobuf_parse_syntax.specs.Trees.{no_constants, more_constants, ConstantFieldList}
use Rattle.protobuf_parse_syntax.specs.Trees.{no_fields, more_fields}

-- the word of a truth value
abbrev pub truth_word : Bool → Bytes
truth_word true = codes "true"
truth_word false = codes "false"

-- in brackets, or direct
abbrev pub name_text : ConstantNameSyntax → Bytes
name_text (regular_name n) = n
name_text (extension_name n) = codes "[" ++ n ++ codes "]"
name_text (url_name n) = codes "[" ++ n ++ codes "]"

-- what stands before a byte, where `taken` says that a backslash takes it
abbrev pub escape_before : Bool → ℕ → Bytes
escape_before taken b = if b == char.quote && not taken then char.backslash ∷ [] else []

-- With a backslash before each `"` that no backslash takes. A backslash takes the next byte, unless
-- one takes it; `taken` says that one takes the first byte.
abbrev pub quotes_escaped : Bool → Bytes → Bytes
quotes_escaped taken [] = []
quotes_escaped taken (b ∷ bs) =
    escape_before taken b ++ b ∷ quotes_escaped (b == char.backslash && not taken) bs

-- a piece in double quotes
abbrev pub piece_text : Bytes → Bytes
piece_text piece = codes "\"" ++ quotes_escaped false piece ++ codes "\""

-- the pieces of a string, with a blank between each two
abbrev pub string_text : Pieces → Bytes
string_text pieces = join_with_byte char.space (map piece_text pieces)

-- whether a constant is a message
abbrev pub is_message : ConstantSyntax → Bool
is_message (fields fs) = true
is_message _ = false

-- a field, given the text of its value
abbrev pub field_text : ConstantNameSyntax → ConstantSyntax → Bytes → Bytes
field_text n v text =
    if is_message v then name_text n ++ codes " " ++ text
    else name_text n ++ codes ": " ++ text ++ codes " "

unfoldable mutual
  -- a constant as text
  pub format : ConstantSyntax → Bytes
  format (integer z) = signed_decimal z
  format (truth b) = truth_word b
  format (dotted n) = n
  format (string pieces) = string_text pieces
  format (list cs) = codes "[" ++ join_with_byte char.comma (formats cs) ++ codes "]"
  format (fields fs) = codes "{ " ++ all_fields_text fs ++ codes "}"

  -- each of a list
  pub formats : ConstantList → List Bytes
  formats no_constants = []
  formats (more_constants c cs) = format c ∷ formats cs

  -- the fields of a message, one behind the other
  pub all_fields_text : ConstantFieldList → Bytes
  all_fields_text no_fields = []
  all_fields_text (more_fields n v fs) = field_text n v (format v) ++ all_fields_text fs
