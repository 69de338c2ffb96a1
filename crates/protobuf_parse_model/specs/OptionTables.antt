-- Which built-in options a construct has, by what it is.
use Rattle.std.specs.Prelude.{List, map}
use Rattle.protobuf_parse_model.specs.declared.customs.Construct.{Construct}
use Rattle.protobuf_parse_model.specs.declared.customs.Construct.TheVariants as of
use Rattle.protobuf_parse_model.specs.BuiltinOptions.{Table, BuiltinKind, file_table, message_table}
use Rattle.protobuf_parse_model.specs.BuiltinOptions.{field_table, oneof_table, enum_table}
use Rattle.protobuf_parse_model.specs.BuiltinOptions.{enum_value_table, service_table, method_table}
use Rattle.protobuf_parse_model.specs.Descriptors.{Text}

-- the options message of each construct
abbrev pub table_of : Construct → Table
table_of of.File = file_table
table_of of.Message = message_table
table_of of.Field = field_table
table_of of.Oneof = oneof_table
table_of of.Enum = enum_table
table_of of.EnumValue = enum_value_table
table_of of.Service = service_table
table_of of.Method = method_table

-- the names of the options in a table
abbrev pub option_names_in : Table → List Text
option_names_in table = map (λ (entry : Text × BuiltinKind). entry.0) table
