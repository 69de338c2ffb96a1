-- Which defaults a field may have. Protocol Buffers Language Guide (proto2), "Optional Fields And
-- Default Values" (https://protobuf.dev).
use Rattle.std.specs.Prelude.{ℕ, not, ◌||◌, Option, Some, None, bytes_eq, codes, nat_lt}
use Rattle.std.specs.Prelude.{if◌then◌else◌}
use Rattle.std.specs.Str.Parse.{digits_value, starts_with_minus}
use Rattle.protobuf_parse_model.specs.declared.descriptor.FieldType.{FieldType}
use Rattle.protobuf_parse_model.specs.declared.descriptor.FieldType.TheVariants as kind
use Rattle.protobuf_parse_model.specs.Descriptors.{Text, FieldDescriptor}
use Rattle.protobuf_parse_rules.specs.FieldOptions.{is_repeated}
use Rattle.protobuf_parse_rules.specs.NumberTexts.{is_digits, is_unsigned_number, without_minus}
use Rattle.protobuf_parse_rules.specs.Rules.{Broken, broken, broken_by}
use Rattle.protobuf_parse_rules.specs.declared.rule.Rule.TheVariants as rule

-- C24 for any other text than `true` and `false`
abbrev pub truth_default : Text → Option Broken
truth_default text = if bytes_eq text (codes "true") || bytes_eq text (codes "false") then None
    else Some (broken_by rule.DefaultNotBool text)

-- an integer without its sign that is above the number
abbrev pub out_of_range : (most : ℕ) → (text digits : Text) → Option Broken
out_of_range most text digits = if nat_lt most (digits_value 10 digits)
    then Some (broken_by rule.DefaultOutOfRange text) else None

-- how far a negative one may be from 0, if the type has any
abbrev pub negative_default : (least : Option ℕ) → (text digits : Text) → Option Broken
negative_default None text digits = Some (broken_by rule.DefaultNegative text)
negative_default (Some least) text digits = out_of_range least text digits

-- C42 for what is no integer; C43 for one that is too large or too far below 0, and C44 for a
-- negative one where the type has none
abbrev pub integer_default : (least : Option ℕ) → (most : ℕ) → Text → Option Broken
integer_default least most text =
    if not (is_digits (without_minus text)) then Some (broken_by rule.DefaultNotNumber text)
    else if starts_with_minus text then negative_default least text (without_minus text)
    else out_of_range most text (without_minus text)

-- C42 for what is no number
abbrev pub number_default : Text → Option Broken
number_default text = if is_unsigned_number (without_minus text) then None
    else Some (broken_by rule.DefaultNotNumber text)

-- an integer of 32 bits with its sign
abbrev pub signed_32 : Text → Option Broken
signed_32 text = integer_default (Some 2147483648) 2147483647 text

-- an integer of 64 bits with its sign
abbrev pub signed_64 : Text → Option Broken
signed_64 text = integer_default (Some 9223372036854775808) 9223372036854775807 text

-- an integer of 32 bits that isn't negative
abbrev pub unsigned_32 : Text → Option Broken
unsigned_32 text = integer_default None 4294967295 text

-- an integer of 64 bits that isn't negative
abbrev pub unsigned_64 : Text → Option Broken
unsigned_64 text = integer_default None 18446744073709551615 text

-- that of a field of the type which isn't repeated
abbrev pub typed_default : FieldType → Text → Option Broken
typed_default kind.Message text = Some (broken rule.DefaultOfMessage)
typed_default kind.Group text = Some (broken rule.DefaultOfMessage)
typed_default kind.Bool text = truth_default text
typed_default kind.Int32 text = signed_32 text
typed_default kind.Sint32 text = signed_32 text
typed_default kind.Sfixed32 text = signed_32 text
typed_default kind.Int64 text = signed_64 text
typed_default kind.Sint64 text = signed_64 text
typed_default kind.Sfixed64 text = signed_64 text
typed_default kind.Uint32 text = unsigned_32 text
typed_default kind.Fixed32 text = unsigned_32 text
typed_default kind.Uint64 text = unsigned_64 text
typed_default kind.Fixed64 text = unsigned_64 text
typed_default kind.Float text = number_default text
typed_default kind.Double text = number_default text
typed_default _ text = None

-- that of any field: C22 where it is repeated
abbrev pub default_of : FieldDescriptor → Option Text → Option Broken
default_of f None = None
default_of f (Some text) = if is_repeated f.label then Some (broken rule.DefaultOfRepeated)
    else typed_default f.type_ text
