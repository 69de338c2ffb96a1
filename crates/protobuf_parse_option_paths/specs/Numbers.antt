-- The numbers of built-in options, by what has them.
use Rattle.std.specs.Prelude.{ℕ, Option}
use Rattle.protobuf_parse_model.specs.BuiltinOptions.{under_name}
use Rattle.protobuf_parse_model.specs.Descriptors.{Text}
use Rattle.protobuf_parse_model.specs.OptionNumbers.{Numbers, file_numbers, message_numbers}
use Rattle.protobuf_parse_model.specs.OptionNumbers.{field_numbers, oneof_numbers, enum_numbers}
use Rattle.protobuf_parse_model.specs.OptionNumbers.{enum_value_numbers, service_numbers}
use Rattle.protobuf_parse_model.specs.OptionNumbers.{method_numbers}
use Rattle.protobuf_parse_model.specs.declared.customs.Construct.{Construct}
use Rattle.protobuf_parse_model.specs.declared.customs.Construct.TheVariants as of

-- the built-in options of each construct
abbrev pub numbers_of : Construct → Numbers
numbers_of of.File = file_numbers
numbers_of of.Message = message_numbers
numbers_of of.Field = field_numbers
numbers_of of.Oneof = oneof_numbers
numbers_of of.Enum = enum_numbers
numbers_of of.EnumValue = enum_value_numbers
numbers_of of.Service = service_numbers
numbers_of of.Method = method_numbers

-- the number of the built-in option of that name, if the construct has one
abbrev pub builtin_number : Construct → Text → Option ℕ
builtin_number construct name = under_name (numbers_of construct) name
