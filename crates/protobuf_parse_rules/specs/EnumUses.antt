-- Fields of enums: in proto3 the enum is one of proto3, a default is a value of the enum, and the
-- values of a map are of an enum whose first value is 0. Protocol Buffers Language Guide (proto3),
-- "Enumerations", "Using proto2 Message Types", "Maps" (https://protobuf.dev). Nothing is told
-- where no enum has the name.
use Rattle.std.specs.Prelude.{pos, Bool, true, false, not, ◌&&◌, if◌then◌else◌, List, Option, Some}
use Rattle.std.specs.Prelude.{None, option_and_then, is_some, map}
use Rattle.std.specs.Ordering.{int_eq}
use Rattle.protobuf_parse_model.specs.declared.descriptor.FieldType.{FieldType}
use Rattle.protobuf_parse_model.specs.declared.descriptor.FieldType.TheVariants as kind
use Rattle.protobuf_parse_model.specs.Descriptors.{Text, EnumDescriptor, EnumValueDescriptor}
use Rattle.protobuf_parse_model.specs.Descriptors.{FieldDescriptor}
use Rattle.protobuf_parse_rules.specs.Enums.{not_zero}
use Rattle.protobuf_parse_rules.specs.Lookups.{NamedEnum, enum_named}
use Rattle.protobuf_parse_rules.specs.Maps.{is_entry}
use Rattle.protobuf_parse_rules.specs.Bodies.{Content, BodyParts}
use Rattle.protobuf_parse_rules.specs.Ranges.{is_among}
use Rattle.protobuf_parse_rules.specs.Rules.{Broken, broken_by}
use Rattle.protobuf_parse_rules.specs.declared.rule.Rule.TheVariants as rule

-- whether a type is an enum
abbrev pub is_enum : FieldType → Bool
is_enum kind.Enum = true
is_enum _ = false

-- the enum of a field
abbrev pub enum_of_field : List BodyParts → FieldDescriptor → Option NamedEnum
enum_of_field all f =
    if is_enum f.type_ then option_and_then (enum_named all) f.type_name else None

-- what a rule says of a field of that enum
abbrev pub of_enum : List BodyParts → (NamedEnum → Option Broken) → FieldDescriptor → Option Broken
of_enum all r f = option_and_then r (enum_of_field all f)

-- C34 for an enum of proto2 in proto3
abbrev pub enum_of_proto2 : (proto3 : Bool) → NamedEnum → Option Broken
enum_of_proto2 proto3 e =
    if proto3 && not e.proto3 then Some (broken_by rule.EnumOfProto2 e.name) else None

-- the names of an enum's values
abbrev pub value_names : EnumDescriptor → List Text
value_names e = map (λ (v : EnumValueDescriptor). v.name) e.value

-- whether an enum has a value of that name
abbrev pub has_value : NamedEnum → Text → Bool
has_value e name = is_among name (value_names e.what)

-- C35 for a default that names no value
abbrev pub default_value : FieldDescriptor → NamedEnum → Option Broken
default_value f e =
    option_and_then (λ (text : Text). if has_value e text then None
    else Some (broken_by rule.NoValueOfName text)) f.default_value

-- C36 for the values of a map: they are field 2 of the message behind it
abbrev pub map_value : Content → FieldDescriptor → NamedEnum → Option Broken
map_value content f e =
    if (is_entry content && int_eq f.number (pos 2)) && is_some (not_zero e.what.value)
    then Some (broken_by rule.MapValueNotZero e.name) else None
