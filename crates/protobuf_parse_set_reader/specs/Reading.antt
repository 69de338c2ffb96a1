-- The messages of google/protobuf/descriptor.proto as descriptors: a line a field, with its number
-- there. What has no line is passed over. Source info has one for readers that ask for it.
use Rattle.std.specs.Prelude.{ℕ, zero, suc, List, Option, Some, Ok}
use Rattle.std.specs.Option.{option_and_then}
use Rattle.protobuf_parse_base.specs.Cases.{json_name_text}
use Rattle.protobuf_parse_syntax.specs.declared.tree.field.Label.{Label}
use Rattle.protobuf_parse_syntax.specs.declared.tree.field.Label.TheVariants as label
use Rattle.protobuf_parse_model.specs.Descriptors.{Text, Range, FieldDescriptor, OneofDescriptor}
use Rattle.protobuf_parse_model.specs.Descriptors.{EnumDescriptor, EnumValueDescriptor}
use Rattle.protobuf_parse_model.specs.Descriptors.{MessageDescriptor, a_message, messages_of_list}
use Rattle.protobuf_parse_model.specs.Descriptors.{MethodDescriptor, ServiceDescriptor}
use Rattle.protobuf_parse_model.specs.Descriptors.{FileDescriptor}
use Rattle.protobuf_parse_model.specs.declared.descriptor.FieldType.{FieldType}
use Rattle.protobuf_parse_records.specs.Wire.{◌>>=◌}
use Rattle.protobuf_parse_set_reader.specs.declared.fault.SetFaultKind.TheVariants as kind
use Rattle.protobuf_parse_set_reader.specs.Answers.{Answer, fault}
use Rattle.protobuf_parse_set_reader.specs.Values.{BodyView, body_of, choice_in, flag_or_false}
use Rattle.protobuf_parse_set_reader.specs.Values.{int_in, int_or_zero, ints, merged}
use Rattle.protobuf_parse_set_reader.specs.Values.{merged_bytes}
use Rattle.protobuf_parse_set_reader.specs.Values.{needed_text, one, or_else, parts, text_in, texts}
use Rattle.protobuf_parse_set_reader.specs.Choices.{label_numbered, type_numbered}
use Rattle.protobuf_parse_set_reader.specs.OptionReading.{file_options_of, message_options_of}
use Rattle.protobuf_parse_set_reader.specs.OptionReading.{field_options_of, oneof_options_of}
use Rattle.protobuf_parse_set_reader.specs.OptionReading.{enum_options_of, enum_value_options_of}
use Rattle.protobuf_parse_set_reader.specs.OptionReading.{service_options_of, method_options_of}
use Rattle.protobuf_parse_set_reader.specs.TypeNames.{Types, set_types}

-- the name of what is declared
abbrev pub name_of : BodyView → Answer Text
name_of b = needed_text kind.NoName 1 b

-- ---- fields

-- the label of a field, which is `optional` where it is missing
unfoldable pub label_of : BodyView → Answer Label
label_of b = do
  said ← one (choice_in kind.UnknownLabel label_numbered) 4 b
  or_else (Ok label.Optional) said

-- the type of a field of that `type_name`, by which it is known where it is missing
unfoldable pub type_of : Types → Option Text → BodyView → Answer FieldType
type_of types type_name b = do
  said ← one (choice_in kind.UnknownType type_numbered) 5 b
  or_else (or_else (fault b.start kind.NoType) (option_and_then types type_name)) said

-- the JSON name of a field of that name, which is made of it where it is missing
unfoldable pub json_name_of : Text → BodyView → Answer Text
json_name_of name b = do
  said ← one text_in 10 b
  or_else (Ok (json_name_text name)) said

-- FieldDescriptorProto
unfoldable pub field_of : Types → BodyView → Answer FieldDescriptor
field_of types b = do
  name ← name_of b
  extendee ← one text_in 2 b
  number ← int_or_zero 3 b
  label ← label_of b
  type_name ← one text_in 6 b
  type_ ← type_of types type_name b
  default_value ← one text_in 7 b
  options ← merged field_options_of 8 b
  oneof_index ← one int_in 9 b
  json_name ← json_name_of name b
  proto3_optional ← flag_or_false 17 b
  Ok (record {
    name = name;
    number = number;
    label = label;
    type_ = type_;
    type_name = type_name;
    extendee = extendee;
    default_value = default_value;
    oneof_index = oneof_index;
    json_name = json_name;
    proto3_optional = proto3_optional;
    options = options;
  })

-- OneofDescriptorProto
unfoldable pub oneof_of : BodyView → Answer OneofDescriptor
oneof_of b = do
  name ← name_of b
  options ← merged oneof_options_of 2 b
  Ok (record { name = name; options = options })

-- DescriptorProto.ExtensionRange, DescriptorProto.ReservedRange and
-- EnumDescriptorProto.EnumReservedRange
unfoldable pub range_of : BodyView → Answer Range
range_of b = do
  start ← int_or_zero 1 b
  end ← int_or_zero 2 b
  Ok (record { start = start; end = end })

-- ---- enums

-- EnumValueDescriptorProto
unfoldable pub enum_value_of : BodyView → Answer EnumValueDescriptor
enum_value_of b = do
  name ← name_of b
  number ← int_or_zero 2 b
  options ← merged enum_value_options_of 3 b
  Ok (record { name = name; number = number; options = options })

-- EnumDescriptorProto
unfoldable pub enum_of : BodyView → Answer EnumDescriptor
enum_of b = do
  name ← name_of b
  value ← parts enum_value_of 2 b
  options ← merged enum_options_of 3 b
  reserved_range ← parts range_of 4 b
  reserved_name ← texts 5 b
  Ok (record {
    name = name;
    value = value;
    reserved_range = reserved_range;
    reserved_name = reserved_name;
    options = options;
  })

-- ---- messages

-- DescriptorProto, with what is said of the messages inside it
unfoldable pub message_around : Types → (BodyView → Answer MessageDescriptor) → BodyView
    → Answer MessageDescriptor
message_around types inside b = do
  name ← name_of b
  field ← parts (field_of types) 2 b
  nested_type ← parts inside 3 b
  enum_type ← parts enum_of 4 b
  extension_range ← parts range_of 5 b
  extension ← parts (field_of types) 6 b
  options ← merged message_options_of 7 b
  oneof_decl ← parts oneof_of 8 b
  reserved_range ← parts range_of 9 b
  reserved_name ← texts 10 b
  Ok (a_message
      record {
        name = name;
        field = field;
        oneof_decl = oneof_decl;
        enum_type = enum_type;
        extension = extension;
        extension_range = extension_range;
        reserved_range = reserved_range;
        reserved_name = reserved_name;
        options = options;
      }
      (messages_of_list nested_type))

-- the same, with at most so many levels of messages, itself one
unfoldable pub message_of : Types → ℕ → BodyView → Answer MessageDescriptor
message_of types zero b = fault b.start kind.TooDeep
message_of types (suc levels) b = message_around types (message_of types levels) b

-- ---- services

-- MethodDescriptorProto
unfoldable pub method_of : BodyView → Answer MethodDescriptor
method_of b = do
  name ← name_of b
  input_type ← needed_text kind.NoMethodType 2 b
  output_type ← needed_text kind.NoMethodType 3 b
  options ← merged method_options_of 4 b
  client_streaming ← flag_or_false 5 b
  server_streaming ← flag_or_false 6 b
  Ok (record {
    name = name;
    input_type = input_type;
    output_type = output_type;
    client_streaming = client_streaming;
    server_streaming = server_streaming;
    options = options;
  })

-- ServiceDescriptorProto
unfoldable pub service_of : BodyView → Answer ServiceDescriptor
service_of b = do
  name ← name_of b
  method ← parts method_of 2 b
  options ← merged service_options_of 3 b
  Ok (record { name = name; method = method; options = options })

-- ---- files

-- FileDescriptorProto
unfoldable pub file_of : Types → BodyView → Answer FileDescriptor
file_of types b = do
  name ← name_of b
  «package» ← one text_in 2 b
  dependency ← texts 3 b
  message_type ← parts (message_of types 100) 4 b
  enum_type ← parts enum_of 5 b
  service ← parts service_of 6 b
  extension ← parts (field_of types) 7 b
  public_dependency ← ints 10 b
  weak_dependency ← ints 11 b
  syntax ← one text_in 12 b
  options ← merged file_options_of 8 b
  Ok (record {
    name = Some name;
    «package» = «package»;
    syntax = syntax;
    dependency = dependency;
    public_dependency = public_dependency;
    weak_dependency = weak_dependency;
    message_type = message_type;
    enum_type = enum_type;
    service = service;
    extension = extension;
    options = options;
  })

-- FileDescriptorSet
unfoldable pub files_of : BodyView → Answer (List FileDescriptor)
files_of b = do
  types ← set_types b
  parts (file_of types) 1 b

-- the files of a set
unfoldable pub set_of : List ℕ → Answer (List FileDescriptor)
set_of bytes = do
  b ← body_of (record { start = 0; bytes = bytes })
  files_of b

-- ---- files with source info

-- a file of a set, and the bytes of its SourceCodeInfo, if it has one
pub record SetFileView : Type 0 where
  pub file : FileDescriptor
  pub source_code_info : Option Text

-- FileDescriptorProto
unfoldable pub set_file_of : Types → BodyView → Answer SetFileView
set_file_of types b = do
  file ← file_of types b
  source_code_info ← merged_bytes 9 b
  Ok (record { file = file; source_code_info = source_code_info })

-- FileDescriptorSet
unfoldable pub set_files_of : BodyView → Answer (List SetFileView)
set_files_of b = do
  types ← set_types b
  parts (set_file_of types) 1 b

-- the files of a set with their source info
unfoldable pub set_with_info_of : List ℕ → Answer (List SetFileView)
set_with_info_of bytes = do
  b ← body_of (record { start = 0; bytes = bytes })
  set_files_of b
