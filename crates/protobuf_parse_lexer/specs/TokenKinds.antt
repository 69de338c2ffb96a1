-- What kind of token a text is, told by its bytes alone. Of a text that is no token it is some kind
-- or other: that each token of a text has its kind is what `IsToken` says in a cut.
use Rattle.std.specs.Prelude.{ℕ, ◌^◌, ◌&&◌, ◌||◌, ◌==◌, if◌then◌else◌, nat_le, nat_lt, length}
use Rattle.std.specs.Prelude.{slice_index, drop}
use Rattle.std.specs.List.{list_all}
use Rattle.std.specs.Str.Parse.{digits_value}
use Rattle.protobuf_parse_base.specs.Characters as char
use Rattle.protobuf_parse_lexer.specs.Text.{Bytes, is_in}
use Rattle.protobuf_parse_lexer.specs.declared.lexer.bytes.ByteClass.{ByteClass}
use Rattle.protobuf_parse_lexer.specs.declared.lexer.bytes.ByteClass.TheVariants as class
use Rattle.protobuf_parse_lexer.specs.declared.lexer.token.TokenKind.{TokenKind}
use Rattle.protobuf_parse_lexer.specs.declared.lexer.token.TokenKind.TheVariants as kind

-- the integer that digits of the class spell, if it fits; else a float
abbrev pub integer_kind : ByteClass → ℕ → Bytes → TokenKind
integer_kind c radix digits =
    if list_all (is_in c) digits && nat_lt (digits_value radix digits) (2 ^ 64)
    then kind.Integer (digits_value radix digits) else kind.Float

-- a text that begins with a digit: `0x` or `0X` and digits, `0` and digits, or digits
unfoldable pub number_kind : Bytes → TokenKind
number_kind w =
    if slice_index w 0 == char.zero && nat_le 2 (length w)
    then (if slice_index w 1 == char.small_x || slice_index w 1 == char.capital_x
    then integer_kind class.Hex 16 (drop 2 w) else integer_kind class.Octal 8 (drop 1 w))
    else integer_kind class.Digit 10 w

-- The kind of a token with this text. What is longer than a byte and none of the first three is a
-- float that begins with its point.
unfoldable pub kind_of : Bytes → TokenKind
kind_of w = if is_in class.Digit (slice_index w 0) then number_kind w
    else if is_in class.Ident (slice_index w 0) then kind.Ident
    else if slice_index w 0 == char.quote || slice_index w 0 == char.apostrophe then kind.Str
    else if length w == 1 then kind.Symbol (slice_index w 0)
    else kind.Float
