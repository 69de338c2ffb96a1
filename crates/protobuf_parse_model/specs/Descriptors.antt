-- What descriptors say, without where they lie in memory: the messages of
-- google/protobuf/descriptor.proto (Protocol Buffers, "Descriptors"). Names and texts are bytes; an
-- absent text or list of options is None.
use Rattle.std.specs.Prelude.{ℕ, ℤ, Bool, List, [], ◌∷◌, Option, map, option_map}
use Rattle.std.specs.Prelude.{string_bytes}
use Rattle.protobuf_parse_base.specs.DeclaredNames.{name_bytes}
use Rattle.protobuf_parse_syntax.specs.declared.tree.field.Label.{Label}
use Rattle.protobuf_parse_syntax.specs.declared.tree.field.Scalar.{Scalar}
use Rattle.protobuf_parse_syntax.specs.declared.tree.field.Scalar.TheVariants as word
use Rattle.protobuf_parse_model.specs.Options.{FileOptionValues, MessageOptionValues}
use Rattle.protobuf_parse_model.specs.Options.{FieldOptionValues}
use Rattle.protobuf_parse_model.specs.Options.{OneofOptionValues, EnumOptionValues}
use Rattle.protobuf_parse_model.specs.Options.{EnumValueOptionValues}
use Rattle.protobuf_parse_model.specs.Options.{ServiceOptionValues, MethodOptionValues}
use Rattle.protobuf_parse_model.specs.Options.{file_options_view, message_options_view}
use Rattle.protobuf_parse_model.specs.Options.{field_options_view, oneof_options_view}
use Rattle.protobuf_parse_model.specs.Options.{enum_options_view, enum_value_options_view}
use Rattle.protobuf_parse_model.specs.Options.{service_options_view, method_options_view}
use Rattle.protobuf_parse_model.specs.declared.descriptor.FieldType.{FieldType}
use Rattle.protobuf_parse_model.specs.declared.descriptor.FieldType.TheVariants as kind
use Rattle.protobuf_parse_model.specs.declared.descriptor.FieldDescriptorProto.{FieldDescriptorProto}
use Rattle.protobuf_parse_model.specs.declared.descriptor.OneofDescriptorProto.{OneofDescriptorProto}
use Rattle.protobuf_parse_model.specs.declared.descriptor.EnumDescriptorProto.{EnumDescriptorProto}
use Rattle.protobuf_parse_model.specs.declared.descriptor.EnumReservedRange.{EnumReservedRange}
use Rattle.protobuf_parse_model.specs.declared.descriptor.EnumValueDescriptorProto.{EnumValueDescriptorProto}
use Rattle.protobuf_parse_model.specs.declared.descriptor.ExtensionRange.{ExtensionRange}
use Rattle.protobuf_parse_model.specs.declared.descriptor.ReservedRange.{ReservedRange}
use Rattle.protobuf_parse_model.specs.declared.descriptor.ServiceDescriptorProto.{ServiceDescriptorProto}
use Rattle.protobuf_parse_model.specs.declared.descriptor.MethodDescriptorProto.{MethodDescriptorProto}
use Rattle.protobuf_parse_model.specs.declared.descriptor.DescriptorProto.{DescriptorProto}
use Rattle.protobuf_parse_model.specs.declared.descriptor.DescriptorProto.{fold-DescriptorProto}
use Rattle.protobuf_parse_model.specs.declared.descriptor.DescriptorProto.TheOpen.{DescriptorProto-F}
use Rattle.protobuf_parse_model.specs.declared.descriptor.FileDescriptorProto.{FileDescriptorProto}

-- a text, or bytes
abbrev pub Text : Type 0
Text = List ℕ

-- numbers from start to end; whether end is among them is said where the range stands
pub record Range : Type 0 where
  pub start : ℤ
  pub end : ℤ

-- a field or an extension
pub record FieldDescriptor : Type 0 where
  pub name : Text
  pub number : ℤ
  pub label : Label
  pub type_ : FieldType
  pub type_name : Option Text
  pub extendee : Option Text
  pub default_value : Option Text
  pub oneof_index : Option ℤ
  pub json_name : Text
  pub proto3_optional : Bool
  pub options : Option FieldOptionValues

-- a oneof
pub record OneofDescriptor : Type 0 where
  pub name : Text
  pub options : Option OneofOptionValues

-- a value of an enum
pub record EnumValueDescriptor : Type 0 where
  pub name : Text
  pub number : ℤ
  pub options : Option EnumValueOptionValues

-- an enum
pub record EnumDescriptor : Type 0 where
  pub name : Text
  pub value : List EnumValueDescriptor
  pub reserved_range : List Range
  pub reserved_name : List Text
  pub options : Option EnumOptionValues

-- all of a message but the messages inside it
pub record MessageParts : Type 0 where
  pub name : Text
  pub field : List FieldDescriptor
  pub oneof_decl : List OneofDescriptor
  pub enum_type : List EnumDescriptor
  pub extension : List FieldDescriptor
  pub extension_range : List Range
  pub reserved_range : List Range
  pub reserved_name : List Text
  pub options : Option MessageOptionValues

mutual
  -- a message, with the messages inside it
  pub data MessageDescriptor : Type 0 where
    a_message : MessageParts → MessageDescriptors → MessageDescriptor

  -- messages that stand side by side
  pub data MessageDescriptors : Type 0 where
    no_messages : MessageDescriptors
    messages : MessageDescriptor → MessageDescriptors → MessageDescriptors

-- a message without those inside it
abbrev pub parts_seen : MessageDescriptor → MessageParts
parts_seen (a_message parts nested) = parts

-- such messages as a list, and back
abbrev pub messages_list : MessageDescriptors → List MessageDescriptor
messages_list no_messages = []
messages_list (messages m ms) = m ∷ messages_list ms

-- a list as such messages
abbrev pub messages_of_list : List MessageDescriptor → MessageDescriptors
messages_of_list [] = no_messages
messages_of_list (m ∷ ms) = messages m (messages_of_list ms)

-- a method of a service
pub record MethodDescriptor : Type 0 where
  pub name : Text
  pub input_type : Text
  pub output_type : Text
  pub client_streaming : Bool
  pub server_streaming : Bool
  pub options : Option MethodOptionValues

-- a service
pub record ServiceDescriptor : Type 0 where
  pub name : Text
  pub method : List MethodDescriptor
  pub options : Option ServiceOptionValues

-- a file
pub record FileDescriptor : Type 0 where
  pub name : Option Text
  pub «package» : Option Text
  pub syntax : Option Text
  pub dependency : List Text
  pub public_dependency : List ℤ
  pub weak_dependency : List ℤ
  pub message_type : List MessageDescriptor
  pub enum_type : List EnumDescriptor
  pub service : List ServiceDescriptor
  pub extension : List FieldDescriptor
  pub options : Option FileOptionValues

-- ---- what the Rust values say

-- a field or an extension
abbrev pub field_view : FieldDescriptorProto → FieldDescriptor
field_view f = record {
  name = name_bytes f.name;
  number = f.number;
  label = f.label;
  type_ = f.type_;
  type_name = option_map string_bytes f.type_name;
  extendee = option_map string_bytes f.extendee;
  default_value = option_map string_bytes f.default_value;
  oneof_index = f.oneof_index;
  json_name = name_bytes f.json_name;
  proto3_optional = f.proto3_optional;
  options = option_map field_options_view f.options;
}

-- a oneof
abbrev pub oneof_view : OneofDescriptorProto → OneofDescriptor
oneof_view o =
    record { name = name_bytes o.name; options = option_map oneof_options_view o.options }

-- a value of an enum
abbrev pub enum_value_view : EnumValueDescriptorProto → EnumValueDescriptor
enum_value_view v =
    record {
      name = name_bytes v.name;
      number = v.number;
      options =
          option_map enum_value_options_view v.options;
    }

-- a reserved range of an enum, whose end is in it
abbrev pub enum_range_view : EnumReservedRange → Range
enum_range_view r = record { start = r.start; end = r.end }

-- a range for extensions, whose end is behind it
abbrev pub extension_range_view : ExtensionRange → Range
extension_range_view r = record { start = r.start; end = r.end }

-- a reserved range of a message, whose end is behind it
abbrev pub reserved_range_view : ReservedRange → Range
reserved_range_view r = record { start = r.start; end = r.end }

-- an enum
abbrev pub enum_view : EnumDescriptorProto → EnumDescriptor
enum_view e = record {
  name = name_bytes e.name;
  value = map enum_value_view e.value.items;
  reserved_range = map enum_range_view e.reserved_range.items;
  reserved_name = map string_bytes e.reserved_name.items;
  options = option_map enum_options_view e.options;
}

-- all of a message but the messages inside it
abbrev pub parts_of_message : {X : Type 0} → DescriptorProto-F X → MessageParts
parts_of_message m = record {
  name = name_bytes m.name;
  field = map field_view m.field.items;
  oneof_decl = map oneof_view m.oneof_decl.items;
  enum_type = map enum_view m.enum_type.items;
  extension = map field_view m.extension.items;
  extension_range = map extension_range_view m.extension_range.items;
  reserved_range = map reserved_range_view m.reserved_range.items;
  reserved_name = map string_bytes m.reserved_name.items;
  options = option_map message_options_view m.options;
}

-- one level, with the messages inside already seen
abbrev pub message_step : DescriptorProto-F MessageDescriptor → MessageDescriptor
message_step m = a_message (parts_of_message m) (messages_of_list m.nested_type.items)

-- a message, with those inside it
abbrev pub message_view : DescriptorProto → MessageDescriptor
message_view = fold-DescriptorProto MessageDescriptor message_step

-- a method
abbrev pub method_view : MethodDescriptorProto → MethodDescriptor
method_view m = record {
  name = name_bytes m.name;
  input_type = string_bytes m.input_type;
  output_type = string_bytes m.output_type;
  client_streaming = m.client_streaming;
  server_streaming = m.server_streaming;
  options = option_map method_options_view m.options;
}

-- a service
abbrev pub service_view : ServiceDescriptorProto → ServiceDescriptor
service_view s =
    record {
      name = name_bytes s.name;
      method = map method_view s.method.items;
      options =
          option_map service_options_view s.options;
    }

-- a whole file
abbrev pub file_view : FileDescriptorProto → FileDescriptor
file_view f = record {
  name = option_map string_bytes f.name;
  «package» = option_map string_bytes f.package;
  syntax = option_map string_bytes f.syntax;
  dependency = map string_bytes f.dependency.items;
  public_dependency = f.public_dependency.items;
  weak_dependency = f.weak_dependency.items;
  message_type = map message_view f.message_type.items;
  enum_type = map enum_view f.enum_type.items;
  service = map service_view f.service.items;
  extension = map field_view f.extension.items;
  options = option_map file_options_view f.options;
}

-- ---- the kinds of fields

-- that of a scalar type
abbrev pub kind_of_scalar : Scalar → FieldType
kind_of_scalar word.Int32 = kind.Int32
kind_of_scalar word.Int64 = kind.Int64
kind_of_scalar word.Uint32 = kind.Uint32
kind_of_scalar word.Uint64 = kind.Uint64
kind_of_scalar word.Sint32 = kind.Sint32
kind_of_scalar word.Sint64 = kind.Sint64
kind_of_scalar word.Fixed32 = kind.Fixed32
kind_of_scalar word.Sfixed32 = kind.Sfixed32
kind_of_scalar word.Fixed64 = kind.Fixed64
kind_of_scalar word.Sfixed64 = kind.Sfixed64
kind_of_scalar word.Bool = kind.Bool
kind_of_scalar word.String = kind.String
kind_of_scalar word.Bytes = kind.Bytes
kind_of_scalar word.Float = kind.Float
kind_of_scalar word.Double = kind.Double
