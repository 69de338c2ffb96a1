-- What the declaration of a field becomes: a FieldDescriptorProto of
-- google/protobuf/descriptor.proto; and the faults that stand in it, at the field or at one of its
-- options. Where one stands the descriptor says nothing of what it was to be.
--
-- A field without a label is optional, a map is repeated. The type of a map is the message behind
-- it, that of a group the group's message; a name is looked up from the scope of the field. The
-- default and the JSON name are set by the first `default` and the first `json_name` among the
-- options. Protocol Buffers Language Specification (proto2), "Fields", "Normal field", "Group
-- field", "Map field"; Protocol Buffers Language Guide, "JSON Options", "Field Presence in proto3"
-- (https://protobuf.dev).
use Rattle.std.specs.Prelude.{ℕ, ℤ, pos, Bool, true, false, List, [], ◌++◌, map, flat_map, codes}
use Rattle.std.specs.Prelude.{bytes_eq, Option, Some, None, unwrap_or, option_map, if◌then◌else◌}
use Rattle.std.specs.List.{find}
use Rattle.protobuf_parse_base.specs.Cases.{json_name_text}
use Rattle.protobuf_parse_base.specs.Escapes.{escaped_bytes}
use Rattle.protobuf_parse_lexer.specs.Decoder.{decode, text_of}
use Rattle.protobuf_parse_syntax.specs.Trees.{ConstantSyntax, string, OptionNameSyntax, builtin}
use Rattle.protobuf_parse_syntax.specs.Trees.{custom, OptionSyntax, TypeSyntax, scalar, map_of}
use Rattle.protobuf_parse_syntax.specs.Trees.{named, FieldSyntax, FieldStatementSyntax, field}
use Rattle.protobuf_parse_syntax.specs.Trees.{group}
use Rattle.protobuf_parse_syntax.specs.Formats.{format}
use Rattle.protobuf_parse_syntax.specs.declared.tree.Syntax.{Syntax}
use Rattle.protobuf_parse_syntax.specs.declared.tree.Syntax.TheVariants.{Proto3}
use Rattle.protobuf_parse_syntax.specs.declared.tree.field.Label.{Label}
use Rattle.protobuf_parse_syntax.specs.declared.tree.field.Label.TheVariants.{Optional, Repeated}
use Rattle.protobuf_parse_model.specs.declared.descriptor.FieldType.{FieldType}
use Rattle.protobuf_parse_model.specs.declared.descriptor.FieldType.TheVariants as kind
use Rattle.protobuf_parse_model.specs.declared.error.ElabErrorKind.TheVariants.{DanglingTypeName}
use Rattle.protobuf_parse_model.specs.declared.error.ElabErrorKind.TheVariants.{DefaultValueIsNotStringLiteral}
use Rattle.protobuf_parse_model.specs.declared.error.ElabErrorKind.TheVariants.{WrongOptionType}
use Rattle.protobuf_parse_model.specs.Descriptors.{Text, FieldDescriptor, kind_of_scalar}
use Rattle.protobuf_parse_model.specs.Faults.{Wrong, Fault, placed}
use Rattle.protobuf_parse_model.specs.Statements.{group_body, group_field_name, entry_name, is_map}
use Rattle.protobuf_parse_model.specs.Declarations.{full_name, DeclaredType, kind_of_type}
use Rattle.protobuf_parse_model.specs.Duplicates.{NamedAt, fault, fault_when, duplicates}
use Rattle.protobuf_parse_model.specs.declared.customs.Construct.TheVariants as of
use Rattle.protobuf_parse_model.specs.Environment.{Environment, customs_bytes, customs_faults}
use Rattle.protobuf_parse_model.specs.Environment.{type_named, type_missing}
use Rattle.protobuf_parse_model.specs.BuiltinOptions.{string_faults, builtin_faults, field_table}
use Rattle.protobuf_parse_model.specs.OptionMessages.{field_options}

-- ---- types

-- a type as a descriptor says it: its kind, and for a message, an enum or a group its full name
pub record FieldTypeOf : Type 0 where
  pub kind : FieldType
  pub name : Option Text

-- the type that a name means; for one that means nothing, which is a fault, a message without a
-- name
abbrev pub type_of_meaning : Option DeclaredType → FieldTypeOf
type_of_meaning None = record { kind = kind.Message; name = None }
type_of_meaning (Some d) = record { kind = kind_of_type d.what; name = Some d.name }

-- the type of the field of that name
abbrev pub type_of : Environment → Text → TypeSyntax → FieldTypeOf
type_of env name (scalar s) = record { kind = kind_of_scalar s; name = None }
type_of env name (named n) = type_of_meaning (type_named env n)
type_of env name (map_of key value) =
    record { kind = kind.Message; name = Some (full_name env.scope (entry_name name)) }

-- E4 for a map inside a map, E2 or E3 for a name that means nothing
abbrev pub inner_type_faults : Environment → Text → TypeSyntax → List Wrong
inner_type_faults env name (scalar s) = []
inner_type_faults env name (named n) = type_missing env n
inner_type_faults env name (map_of key value) = fault DanglingTypeName name

-- Two types in which the same is wrong, if anything is: those of one name, and maps.
abbrev pub is_told_alike : TypeSyntax → TypeSyntax → Bool
is_told_alike (named m) (named n) = bytes_eq m n
is_told_alike (map_of key value) (map_of other_key other_value) = true
is_told_alike s t = false

-- what is wrong, if it is not told at the same place already
abbrev pub if_not_told : Bool → List Wrong → List Wrong
if_not_told told wrongs = if told then [] else wrongs

-- what is wrong in the type of the field of that name, each once
abbrev pub type_faults : Environment → Text → TypeSyntax → List Wrong
type_faults env name (scalar s) = []
type_faults env name (named n) = type_missing env n
type_faults env name (map_of key value) =
    inner_type_faults env name key
    ++ if_not_told (is_told_alike key value) (inner_type_faults env name value)

-- ---- labels

-- the label that a descriptor says
abbrev pub label_of : Option Label → TypeSyntax → Label
label_of label (map_of key value) = Repeated
label_of label (scalar s) = unwrap_or label Optional
label_of label (named n) = unwrap_or label Optional

-- whether the label `optional` stands there in proto3, where a field without a label is optional
-- too
abbrev pub says_optional : Syntax → Option Label → Bool
says_optional Proto3 (Some Optional) = true
says_optional _ _ = false

-- ---- defaults and JSON names

-- whether an option is the built-in one of that name
abbrev pub is_named : Text → OptionNameSyntax → Bool
is_named name (builtin n) = bytes_eq n name
is_named name (custom parts) = false

-- the first statement that sets the built-in option of that name
abbrev pub first_named : Text → List OptionSyntax → Option OptionSyntax
first_named name os = find (λ (o : OptionSyntax). is_named name o.name) os

-- its value
abbrev pub first_value : Text → List OptionSyntax → Option ConstantSyntax
first_value name os = option_map (λ (o : OptionSyntax). o.value) (first_named name os)

-- what is wrong in the value of an option stands at the option
abbrev pub in_option : (ConstantSyntax → List Wrong) → Option OptionSyntax → List Fault
in_option wrongs None = []
in_option wrongs (Some o) = placed o.place (wrongs o.value)

-- a text; for a string that says none, which is a fault, the empty one
abbrev pub text_or_empty : Option Text → Text
text_or_empty text = unwrap_or text []

-- the default of a string is its text, that of bytes its bytes escaped, any other the constant as
-- it is written
abbrev pub default_text : FieldType → ConstantSyntax → Text
default_text kind.String (string pieces) = text_or_empty (text_of pieces)
default_text kind.Bytes (string pieces) = escaped_bytes (text_or_empty (decode pieces))
default_text _ value = format value

-- the default of a field of that kind, if its options set one
abbrev pub default_of : FieldType → List OptionSyntax → Option Text
default_of type_ os = option_map (default_text type_) (first_value (codes "default") os)

-- E8 for a default that is no string, E9 for a string that says nothing
abbrev pub default_value_faults : FieldType → Text → ConstantSyntax → List Wrong
default_value_faults kind.String name (string pieces) =
    string_faults (codes "default") (text_of pieces)
default_value_faults kind.Bytes name (string pieces) =
    string_faults (codes "default") (decode pieces)
default_value_faults kind.String name _ = fault DefaultValueIsNotStringLiteral name
default_value_faults kind.Bytes name _ = fault DefaultValueIsNotStringLiteral name
default_value_faults _ name _ = []

-- what is wrong in the default of the field of that name
abbrev pub default_faults : FieldType → Text → List OptionSyntax → List Fault
default_faults type_ name os =
    in_option (default_value_faults type_ name) (first_named (codes "default") os)

-- what a value of `json_name` says
abbrev pub json_value_said : ConstantSyntax → Text
json_value_said (string pieces) = text_or_empty (text_of pieces)
json_value_said _ = []

-- the JSON name of a field of that name, where it is set and where it isn't
abbrev pub json_name_said : Text → Option ConstantSyntax → Text
json_name_said name (Some value) = json_value_said value
json_name_said name None = json_name_text name

-- the JSON name of a field of that name with these options
abbrev pub field_json_name : Text → List OptionSyntax → Text
field_json_name name os = json_name_said name (first_value (codes "json_name") os)

-- E10 for a JSON name that is no string, E9 for a string that is no text
abbrev pub json_value_faults : ConstantSyntax → List Wrong
json_value_faults (string pieces) = string_faults (codes "json_name") (text_of pieces)
json_value_faults _ = fault WrongOptionType (codes "json_name")

-- what is wrong in the JSON name
abbrev pub json_name_faults : List OptionSyntax → List Fault
json_name_faults os = in_option json_value_faults (first_named (codes "json_name") os)

-- ---- options

-- `default` and `json_name` are no options of the table
abbrev pub field_option_faults : ConstantSyntax → OptionNameSyntax → List Wrong
field_option_faults value (builtin name) =
    if bytes_eq name (codes "default") then []
    else (if bytes_eq name (codes "json_name") then []
    else builtin_faults field_table name value)
field_option_faults value (custom parts) = []

-- what is wrong in the built-in options
abbrev pub field_options_faults : List OptionSyntax → List Fault
field_options_faults os =
    flat_map (λ (o : OptionSyntax). placed o.place (field_option_faults o.value o.name)) os

-- all that is wrong in the options of the field of that type and name
abbrev pub faults_of_options : Environment → FieldType → Text → List OptionSyntax → List Fault
faults_of_options env type_ name os =
    default_faults type_ name os ++ json_name_faults os
    ++ (field_options_faults os ++ customs_faults env of.Field os)

-- ---- fields

-- what a field belongs to beside its message: the message that it extends, and the number of the
-- oneof that it stands in
pub record FieldOwner : Type 0 where
  pub extendee : Option Text
  pub oneof_index : Option ℕ

-- a field that is no extension and in no oneof
abbrev pub of_message : FieldOwner
of_message = record { extendee = None; oneof_index = None }

-- of that type
abbrev pub field_with : Environment → FieldOwner → FieldSyntax → FieldTypeOf → FieldDescriptor
field_with env owner f type_ = record {
  name = f.name;
  number = f.number;
  label = label_of f.label f.type_;
  type_ = type_.kind;
  type_name = type_.name;
  extendee = owner.extendee;
  default_value = default_of type_.kind f.options;
  oneof_index = option_map pos owner.oneof_index;
  json_name = field_json_name f.name f.options;
  proto3_optional = if is_map f.type_ then false else says_optional env.syntax f.label;
  options = field_options (customs_bytes env of.Field f.options) f.options;
}

-- the descriptor of a field that is no group
abbrev pub field_of : Environment → FieldOwner → FieldSyntax → FieldDescriptor
field_of env owner f = field_with env owner f (type_of env f.name f.type_)

-- the field of a group
abbrev pub group_field : Environment → FieldOwner → Option Label → Text → ℤ → FieldDescriptor
group_field env owner label name number = record {
  name = group_field_name name;
  number = number;
  label = unwrap_or label Optional;
  type_ = kind.Group;
  type_name = Some (full_name env.scope name);
  extendee = owner.extendee;
  default_value = None;
  oneof_index = option_map pos owner.oneof_index;
  json_name = json_name_text (group_field_name name);
  proto3_optional = says_optional env.syntax label;
  options = None;
}

-- that of a field or a group
abbrev pub field_statement_of : Environment → FieldOwner → FieldStatementSyntax → FieldDescriptor
field_statement_of env owner (field f) = field_of env owner f
field_statement_of env owner (group at label name number fields) =
    group_field env owner label name number

-- what is wrong in a field that is no group, wherever it stands
abbrev pub field_faults : Environment → FieldSyntax → List Fault
field_faults env f = placed f.place (type_faults env f.name f.type_)
    ++ faults_of_options env (type_of env f.name f.type_).kind f.name f.options

-- ---- groups, and where maps and groups may not stand

-- the descriptors of a group's fields
abbrev pub fields_of_group : Environment → List FieldStatementSyntax → List FieldDescriptor
fields_of_group env fields = map (field_statement_of env of_message) fields

-- E4 for a map
abbrev pub map_faults : FieldSyntax → List Wrong
map_faults f = fault_when (is_map f.type_) DanglingTypeName f.name

-- in a group: E4 for a map and for a group
abbrev pub grouped_faults : Environment → FieldStatementSyntax → List Fault
grouped_faults env (field f) = placed f.place (map_faults f) ++ field_faults env f
grouped_faults env (group at label name number fields) =
    placed at (fault DanglingTypeName (group_field_name name))

-- a field as a declaration
abbrev pub field_named : FieldStatementSyntax → NamedAt
field_named (field f) = record { place = f.place; name = f.name }
field_named (group at label name number fields) =
    record { place = at; name = group_field_name name }

-- of a group's fields: E1 for two that have one name
abbrev pub group_faults : Environment → List FieldStatementSyntax → List Fault
group_faults env fields =
    flat_map (grouped_faults env) fields ++ duplicates (map field_named fields)

-- in a message
abbrev pub field_statement_faults : Environment → FieldStatementSyntax → List Fault
field_statement_faults env (field f) = field_faults env f
field_statement_faults env (group at label name number fields) =
    group_faults env (group_body fields)

-- in an `extend`: E4 for a map
abbrev pub extension_faults : Environment → FieldStatementSyntax → List Fault
extension_faults env (field f) = placed f.place (map_faults f) ++ field_faults env f
extension_faults env (group at label name number fields) =
    field_statement_faults env (group at label name number fields)
