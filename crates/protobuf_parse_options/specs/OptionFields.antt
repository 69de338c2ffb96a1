-- Which field each part of an option's name means, and what values a field takes.
--
-- A name begins at the options message of its construct. A direct part means a field of the
-- message, a part in parentheses an extension of it, looked up as a type is: from the scope
-- outward, among those of the files that the file sees. In a constant for a message a direct name
-- means a field of it, and one in brackets an extension, looked up in the same way. The messages
-- and enums that a field's type names are those of the descriptors that declare them, in all files
-- reached.
-- Protocol Buffers Language Guide (proto2), "Custom Options" (https://protobuf.dev).
use Rattle.std.specs.Prelude.{ℤ, Bool, ◌&&◌, List, [], ◌++◌, map, flat_map, codes, bytes_eq, Option}
use Rattle.std.specs.Prelude.{Some, None, unwrap_or, option_map, if◌then◌else◌}
use Rattle.std.specs.List.{find, list_any}
use Rattle.protobuf_parse_syntax.specs.Trees.{ConstantNameSyntax, regular_name, extension_name}
use Rattle.protobuf_parse_syntax.specs.Trees.{url_name, OptionPartSyntax, direct, extension}
use Rattle.protobuf_parse_model.specs.declared.descriptor.FieldType.{FieldType}
use Rattle.protobuf_parse_model.specs.declared.descriptor.FieldType.TheVariants as types
use Rattle.protobuf_parse_model.specs.Descriptors.{Text, FieldDescriptor, EnumValueDescriptor}
use Rattle.protobuf_parse_model.specs.Descriptors.{EnumDescriptor, MessageParts, FileDescriptor}
use Rattle.protobuf_parse_model.specs.Declarations.{Scope, Declared}
use Rattle.protobuf_parse_model.specs.Lookup.{meaning}
use Rattle.protobuf_parse_model.specs.declared.customs.Construct.{Construct}
use Rattle.protobuf_parse_model.specs.declared.customs.Construct.TheVariants as of
use Rattle.protobuf_parse_wire.specs.declared.kind.Kind.{Kind}
use Rattle.protobuf_parse_wire.specs.declared.kind.Kind.TheVariants as kinds
use Rattle.protobuf_parse_wire.specs.Declarations.{Declaration, name_within, package_scope}
use Rattle.protobuf_parse_wire.specs.Declarations.{messages_declared_in}
use Rattle.protobuf_parse_wire.specs.Declarations.{declared_extensions, messages_with_name, extends}

-- ---- what files declare, by their descriptors

-- an enum of the scope, by its full name
abbrev pub enum_in : Text → EnumDescriptor → Declared EnumDescriptor
enum_in scope e = record { name = name_within scope e.name; what = e }

-- the enums of a file: those inside messages, and those of the file
abbrev pub declared_enums : FileDescriptor → List (Declared EnumDescriptor)
declared_enums file = flat_map (λ (d : Declaration). map (enum_in d.name) d.parts.enum_type)
    (messages_declared_in file) ++ map (enum_in (package_scope file.«package»)) file.enum_type

-- the fields of the message of that full name
abbrev pub fields_of_message : List FileDescriptor → Text → List FieldDescriptor
fields_of_message files message =
    flat_map (λ (parts : MessageParts). parts.field) (messages_with_name files message)

-- the field of that name in the message of that full name
abbrev pub field_named : List FileDescriptor → Text → Text → Option FieldDescriptor
field_named files message name =
    find (λ (f : FieldDescriptor). bytes_eq f.name name) (fields_of_message files message)

-- the values of the enum of that full name
abbrev pub values_of_enum : List FileDescriptor → Text → List EnumValueDescriptor
values_of_enum files enum_name =
    flat_map (λ (e : Declared EnumDescriptor). if bytes_eq e.name enum_name then e.what.value
    else []) (flat_map declared_enums files)

-- the number of the value that has the name, in the enum of that full name
abbrev pub number_of_value : List FileDescriptor → Text → Text → Option ℤ
number_of_value files enum_name name =
    option_map (λ (v : EnumValueDescriptor). v.number)
    (find (λ (v : EnumValueDescriptor). bytes_eq v.name name) (values_of_enum files enum_name))

-- ---- where options are set

-- what the names of a construct's custom options may mean
pub record OptionScope : Type 0 where
  -- all files that are reached: type names in descriptors mean messages and enums of these
  pub files : List FileDescriptor
  -- those that the file sees, itself among them: names of extensions mean extensions of these
  pub visible : List FileDescriptor
  pub scope : Scope

-- the options messages of google/protobuf/descriptor.proto
abbrev pub options_message : Construct → Text
options_message of.File = codes ".google.protobuf.FileOptions"
options_message of.Message = codes ".google.protobuf.MessageOptions"
options_message of.Field = codes ".google.protobuf.FieldOptions"
options_message of.Oneof = codes ".google.protobuf.OneofOptions"
options_message of.Enum = codes ".google.protobuf.EnumOptions"
options_message of.EnumValue = codes ".google.protobuf.EnumValueOptions"
options_message of.Service = codes ".google.protobuf.ServiceOptions"
options_message of.Method = codes ".google.protobuf.MethodOptions"

-- the extension that a name means, whatever it extends
abbrev pub extension_meant : OptionScope → Text → Option (Declared FieldDescriptor)
extension_meant at name = meaning (flat_map declared_extensions at.visible) at.scope name

-- whether a message has the name, and not an enum
abbrev pub names_message : List FileDescriptor → Text → Bool
names_message files name =
    list_any (λ (d : Declaration). bytes_eq name d.name) (flat_map messages_declared_in files)

-- An extendee that names an enum extends no message.
abbrev pub extends_message : List FileDescriptor → Text → FieldDescriptor → Bool
extends_message files message f = extends message f && names_message files message

-- the extension, if it extends the message
abbrev pub if_extends : List FileDescriptor → Text → Option (Declared FieldDescriptor)
    → Option FieldDescriptor
if_extends files message None = None
if_extends files message (Some d) =
    if extends_message files message d.what then Some d.what else None

-- the extension that a name means, if it extends the message
abbrev pub extension_named : OptionScope → Text → Text → Option FieldDescriptor
extension_named at message name = if_extends at.files message (extension_meant at name)

-- the field of the message that a part of a name means
abbrev pub part_field : OptionScope → Text → OptionPartSyntax → Option FieldDescriptor
part_field at message (direct name) = field_named at.files message name
part_field at message (extension name) = extension_named at message name

-- the field of the message that a name in a constant for it means
abbrev pub constant_field : OptionScope → Text → ConstantNameSyntax → Option FieldDescriptor
constant_field at message (regular_name name) = field_named at.files message name
constant_field at message (extension_name name) = extension_named at message name
constant_field at message (url_name name) = None

-- the full name of a field's message or enum
abbrev pub type_name_of : FieldDescriptor → Text
type_name_of f = unwrap_or f.type_name []

-- ---- what a field takes

-- the values that may be given to a field: integers of a kind, truth values, names of an enum's
-- values, strings that are texts or bytes, message constants; none to floats and groups
pub data Takes : Type 0 where
  integers : Kind → Takes
  truths : Takes
  names_of_values : Takes
  texts : Takes
  octets : Takes
  messages : Takes
  floats : Takes
  groups : Takes

-- A map is a field with the messages behind it: one for each of its entries, with `key` and
-- `value`.
abbrev pub type_takes : FieldType → Takes
type_takes types.Int32 = integers kinds.Int32
type_takes types.Int64 = integers kinds.Int64
type_takes types.Uint32 = integers kinds.Uint32
type_takes types.Uint64 = integers kinds.Uint64
type_takes types.Sint32 = integers kinds.Sint32
type_takes types.Sint64 = integers kinds.Sint64
type_takes types.Fixed32 = integers kinds.Fixed32
type_takes types.Sfixed32 = integers kinds.Sfixed32
type_takes types.Fixed64 = integers kinds.Fixed64
type_takes types.Sfixed64 = integers kinds.Sfixed64
type_takes types.Bool = truths
type_takes types.String = texts
type_takes types.Bytes = octets
type_takes types.Enum = names_of_values
type_takes types.Message = messages
type_takes types.Float = floats
type_takes types.Double = floats
type_takes types.Group = groups
