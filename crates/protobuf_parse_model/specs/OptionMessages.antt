-- The options message of each construct, from the bytes that its custom options become and the
-- statements that set its options.
use Rattle.std.specs.Prelude.{true, List, [], codes, Option, Some, None}
use Rattle.protobuf_parse_syntax.specs.Trees.{OptionSyntax}
use Rattle.protobuf_parse_model.specs.Options.{FileOptionValues, MessageOptionValues}
use Rattle.protobuf_parse_model.specs.Options.{FieldOptionValues}
use Rattle.protobuf_parse_model.specs.Options.{OneofOptionValues, EnumOptionValues}
use Rattle.protobuf_parse_model.specs.Options.{EnumValueOptionValues}
use Rattle.protobuf_parse_model.specs.Options.{ServiceOptionValues, MethodOptionValues}
use Rattle.protobuf_parse_model.specs.BuiltinOptions.{text_option, truth_option, word_option}
use Rattle.protobuf_parse_model.specs.BuiltinOptions.{where_any}
use Rattle.protobuf_parse_model.specs.Words.{optimize_modes, c_types, js_types, idempotency_levels}
use Rattle.protobuf_parse_model.specs.Descriptors.{Text}

-- FileOptions
abbrev pub file_options : Text → List OptionSyntax → Option FileOptionValues
file_options custom os = where_any os (record {
  java_package = text_option os (codes "java_package");
  java_outer_classname = text_option os (codes "java_outer_classname");
  optimize_for = word_option optimize_modes os (codes "optimize_for");
  java_multiple_files = truth_option os (codes "java_multiple_files");
  go_package = text_option os (codes "go_package");
  cc_generic_services = truth_option os (codes "cc_generic_services");
  java_generic_services = truth_option os (codes "java_generic_services");
  py_generic_services = truth_option os (codes "py_generic_services");
  java_generate_equals_and_hash = truth_option os (codes "java_generate_equals_and_hash");
  deprecated = truth_option os (codes "deprecated");
  java_string_check_utf8 = truth_option os (codes "java_string_check_utf8");
  cc_enable_arenas = truth_option os (codes "cc_enable_arenas");
  objc_class_prefix = text_option os (codes "objc_class_prefix");
  csharp_namespace = text_option os (codes "csharp_namespace");
  swift_prefix = text_option os (codes "swift_prefix");
  php_class_prefix = text_option os (codes "php_class_prefix");
  php_namespace = text_option os (codes "php_namespace");
  php_metadata_namespace = text_option os (codes "php_metadata_namespace");
  ruby_package = text_option os (codes "ruby_package");
  custom = custom;
})

-- MessageOptions
abbrev pub message_options : Text → List OptionSyntax → Option MessageOptionValues
message_options custom os = where_any os (record {
  message_set_wire_format = truth_option os (codes "message_set_wire_format");
  no_standard_descriptor_accessor = truth_option os (codes "no_standard_descriptor_accessor");
  deprecated = truth_option os (codes "deprecated");
  map_entry = truth_option os (codes "map_entry");
  custom = custom;
})

-- of the message behind a map
abbrev pub entry_options : Option MessageOptionValues
entry_options =
    Some (record {
      message_set_wire_format = None;
      no_standard_descriptor_accessor = None;
      deprecated = None;
      map_entry = Some true;
      custom = [];
    })

-- FieldOptions
abbrev pub field_options : Text → List OptionSyntax → Option FieldOptionValues
field_options custom os = where_any os (record {
  ctype = word_option c_types os (codes "ctype");
  packed = truth_option os (codes "packed");
  deprecated = truth_option os (codes "deprecated");
  lazy = truth_option os (codes "lazy");
  jstype = word_option js_types os (codes "jstype");
  weak = truth_option os (codes "weak");
  unverified_lazy = truth_option os (codes "unverified_lazy");
  debug_redact = truth_option os (codes "debug_redact");
  custom = custom;
})

-- OneofOptions
abbrev pub oneof_options : Text → List OptionSyntax → Option OneofOptionValues
oneof_options custom os = where_any os (record { custom = custom })

-- EnumOptions
abbrev pub enum_options : Text → List OptionSyntax → Option EnumOptionValues
enum_options custom os = where_any os (record {
  allow_alias = truth_option os (codes "allow_alias");
  deprecated = truth_option os (codes "deprecated");
  custom = custom;
})

-- EnumValueOptions
abbrev pub enum_value_options : Text → List OptionSyntax → Option EnumValueOptionValues
enum_value_options custom os = where_any os (record {
  deprecated = truth_option os (codes "deprecated");
  custom = custom;
})

-- ServiceOptions
abbrev pub service_options : Text → List OptionSyntax → Option ServiceOptionValues
service_options custom os = where_any os (record {
  deprecated = truth_option os (codes "deprecated");
  custom = custom;
})

-- MethodOptions
abbrev pub method_options : Text → List OptionSyntax → Option MethodOptionValues
method_options custom os = where_any os (record {
  deprecated = truth_option os (codes "deprecated");
  idempotency_level = word_option idempotency_levels os (codes "idempotency_level");
  custom = custom;
})
