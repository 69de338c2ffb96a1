-- Descriptors and options that say nothing but what they are made of: each field that may be absent
-- is, and each list is empty.
use Rattle.std.specs.Prelude.{ℤ, [], false, Some, None}
use Rattle.protobuf_parse_base.specs.Cases.{json_name_text}
use Rattle.protobuf_parse_syntax.specs.declared.tree.field.Label.TheVariants as label
use Rattle.protobuf_parse_model.specs.Descriptors.{Text, FileDescriptor, FieldDescriptor}
use Rattle.protobuf_parse_model.specs.Descriptors.{OneofDescriptor, EnumDescriptor}
use Rattle.protobuf_parse_model.specs.Descriptors.{EnumValueDescriptor, MessageDescriptor}
use Rattle.protobuf_parse_model.specs.Descriptors.{MethodDescriptor, ServiceDescriptor}
use Rattle.protobuf_parse_model.specs.Descriptors.{a_message, no_messages}
use Rattle.protobuf_parse_model.specs.Options.{FileOptionValues, MessageOptionValues}
use Rattle.protobuf_parse_model.specs.Options.{FieldOptionValues, OneofOptionValues}
use Rattle.protobuf_parse_model.specs.Options.{EnumOptionValues, EnumValueOptionValues}
use Rattle.protobuf_parse_model.specs.Options.{ServiceOptionValues, MethodOptionValues}
use Rattle.protobuf_parse_model.specs.declared.descriptor.FieldType.{FieldType}

-- ---- descriptors

-- a file of that path, in which nothing stands
abbrev pub empty_file : (path : Text) → FileDescriptor
empty_file path = record {
  name = Some path;
  «package» = None;
  syntax = None;
  dependency = [];
  public_dependency = [];
  weak_dependency = [];
  message_type = [];
  enum_type = [];
  service = [];
  extension = [];
  options = None;
}

-- a message of that name, in which nothing stands
abbrev pub empty_message : (name : Text) → MessageDescriptor
empty_message name = a_message
    record {
      name = name;
      field = [];
      oneof_decl = [];
      enum_type = [];
      extension = [];
      extension_range = [];
      reserved_range = [];
      reserved_name = [];
      options = None;
    }
    no_messages

-- an optional field of that name, number and type, with the JSON name that comes of its name
abbrev pub empty_field : (name : Text) → ℤ → FieldType → FieldDescriptor
empty_field name number type = record {
  name = name;
  number = number;
  label = label.Optional;
  type_ = type;
  type_name = None;
  extendee = None;
  default_value = None;
  oneof_index = None;
  json_name = json_name_text name;
  proto3_optional = false;
  options = None;
}

-- a oneof of that name
abbrev pub empty_oneof : (name : Text) → OneofDescriptor
empty_oneof name = record { name = name; options = None }

-- an enum of that name, without values
abbrev pub empty_enum : (name : Text) → EnumDescriptor
empty_enum name = record {
  name = name;
  value = [];
  reserved_range = [];
  reserved_name = [];
  options = None;
}

-- a value of an enum of that name and number
abbrev pub empty_value : (name : Text) → ℤ → EnumValueDescriptor
empty_value name number = record { name = name; number = number; options = None }

-- a service of that name, without methods
abbrev pub empty_service : (name : Text) → ServiceDescriptor
empty_service name = record { name = name; method = []; options = None }

-- a method of that name, from one message to one message
abbrev pub empty_method : (name input output : Text) → MethodDescriptor
empty_method name input output = record {
  name = name;
  input_type = input;
  output_type = output;
  client_streaming = false;
  server_streaming = false;
  options = None;
}

-- ---- options

-- no option of a file is set
abbrev pub no_file_options : FileOptionValues
no_file_options = record {
  java_package = None;
  java_outer_classname = None;
  optimize_for = None;
  java_multiple_files = None;
  go_package = None;
  cc_generic_services = None;
  java_generic_services = None;
  py_generic_services = None;
  java_generate_equals_and_hash = None;
  deprecated = None;
  java_string_check_utf8 = None;
  cc_enable_arenas = None;
  objc_class_prefix = None;
  csharp_namespace = None;
  swift_prefix = None;
  php_class_prefix = None;
  php_namespace = None;
  php_metadata_namespace = None;
  ruby_package = None;
  custom = [];
}

-- no option of a message is set
abbrev pub no_message_options : MessageOptionValues
no_message_options = record {
  message_set_wire_format = None;
  no_standard_descriptor_accessor = None;
  deprecated = None;
  map_entry = None;
  custom = [];
}

-- no option of a field is set
abbrev pub no_field_options : FieldOptionValues
no_field_options = record {
  ctype = None;
  packed = None;
  deprecated = None;
  lazy = None;
  jstype = None;
  weak = None;
  unverified_lazy = None;
  debug_redact = None;
  custom = [];
}

-- no option of a oneof is set
abbrev pub no_oneof_options : OneofOptionValues
no_oneof_options = record { custom = [] }

-- no option of an enum is set
abbrev pub no_enum_options : EnumOptionValues
no_enum_options = record { allow_alias = None; deprecated = None; custom = [] }

-- no option of a value of an enum is set
abbrev pub no_value_options : EnumValueOptionValues
no_value_options = record { deprecated = None; custom = [] }

-- no option of a service is set
abbrev pub no_service_options : ServiceOptionValues
no_service_options = record { deprecated = None; custom = [] }

-- no option of a method is set
abbrev pub no_method_options : MethodOptionValues
no_method_options = record { deprecated = None; idempotency_level = None; custom = [] }
