-- What the declaration of an enum becomes: an EnumDescriptorProto of
-- google/protobuf/descriptor.proto; and the faults that stand in it, at its values and at its
-- options. A reserved range has both its ends. Protocol Buffers Language Specification, "Enum
-- definition", "Reserved" (https://protobuf.dev).
use Rattle.std.specs.Prelude.{List, [], ◌∷◌, ◌++◌, map, flat_map}
use Rattle.protobuf_parse_syntax.specs.Trees.{OptionSyntax, RangeSyntax, ReservedSyntax}
use Rattle.protobuf_parse_syntax.specs.Trees.{reserved_ranges, reserved_names, EnumStatementSyntax}
use Rattle.protobuf_parse_syntax.specs.Trees.{enum_reserved, enum_option, enum_value}
use Rattle.protobuf_parse_syntax.specs.Trees.{EnumValueSyntax, EnumSyntax}
use Rattle.protobuf_parse_model.specs.Descriptors.{Text, Range, EnumValueDescriptor, EnumDescriptor}
use Rattle.protobuf_parse_model.specs.Faults.{Fault}
use Rattle.protobuf_parse_model.specs.Duplicates.{NamedAt, duplicates}
use Rattle.protobuf_parse_model.specs.declared.customs.Construct.TheVariants as of
use Rattle.protobuf_parse_model.specs.Environment.{Environment, customs_bytes}
use Rattle.protobuf_parse_model.specs.BuiltinOptions.{enum_table, enum_value_table}
use Rattle.protobuf_parse_model.specs.OptionMessages.{enum_options, enum_value_options}
use Rattle.protobuf_parse_elaboration.specs.ConstructOptions.{construct_faults}

-- ---- what is reserved, in enums and messages

-- the ranges of a `reserved` statement, which has ranges or names
abbrev pub ranges_reserved : ReservedSyntax → List RangeSyntax
ranges_reserved (reserved_ranges rs) = rs
ranges_reserved (reserved_names ns) = []

-- its names
abbrev pub names_reserved : ReservedSyntax → List Text
names_reserved (reserved_names ns) = ns
names_reserved (reserved_ranges rs) = []

-- ---- the statements of a body

-- the value that the statement declares, if it declares one
abbrev pub enum_values : EnumStatementSyntax → List EnumValueSyntax
enum_values (enum_value v) = v ∷ []
enum_values _ = []

-- what it reserves
abbrev pub enum_reserves : EnumStatementSyntax → List ReservedSyntax
enum_reserves (enum_reserved r) = r.reserved ∷ []
enum_reserves _ = []

-- the option that it sets
abbrev pub options_in_enum : EnumStatementSyntax → List OptionSyntax
options_in_enum (enum_option o) = o.option ∷ []
options_in_enum _ = []

-- the options of an enum, in source order
abbrev pub options_of_enum : EnumSyntax → List OptionSyntax
options_of_enum e = flat_map options_in_enum e.body

-- ---- descriptors

-- the descriptor of a value
abbrev pub value_of : Environment → EnumValueSyntax → EnumValueDescriptor
value_of env v =
    record {
      name = v.name;
      number = v.number;
      options =
          enum_value_options (customs_bytes env of.EnumValue v.options) v.options;
    }

-- a range with both its ends
abbrev pub inclusive : RangeSyntax → Range
inclusive r = record { start = r.from; end = r.to }

-- those of the values of an enum
abbrev pub values_of : Environment → EnumSyntax → List EnumValueDescriptor
values_of env e = map (value_of env) (flat_map enum_values e.body)

-- the descriptor of an enum
abbrev pub enum_of : Environment → EnumSyntax → EnumDescriptor
enum_of env e = record {
  name = e.name;
  value = values_of env e;
  reserved_range = map inclusive (flat_map ranges_reserved (flat_map enum_reserves e.body));
  reserved_name = flat_map names_reserved (flat_map enum_reserves e.body);
  options = enum_options (customs_bytes env of.Enum (options_of_enum e)) (options_of_enum e);
}

-- ---- faults

-- of a value, in its options
abbrev pub value_faults : Environment → EnumValueSyntax → List Fault
value_faults env v = construct_faults env of.EnumValue enum_value_table v.options

-- a value as a declaration
abbrev pub value_named : EnumValueSyntax → NamedAt
value_named v = record { place = v.place; name = v.name }

-- E1 for two values that have one name
abbrev pub values_faults : Environment → List EnumValueSyntax → List Fault
values_faults env values =
    flat_map (value_faults env) values ++ duplicates (map value_named values)

-- of an enum
abbrev pub enum_faults : Environment → EnumSyntax → List Fault
enum_faults env e =
    values_faults env (flat_map enum_values e.body)
    ++ construct_faults env of.Enum enum_table (options_of_enum e)
