-- The built-in options of each construct, by the options messages of
-- google/protobuf/descriptor.proto, and the bytes of its custom options.
use Rattle.std.specs.Prelude.{ℕ, Bool, List, Option, option_map, string_bytes}
use Rattle.protobuf_parse_model.specs.declared.descriptor.options.OptimizeMode.{OptimizeMode}
use Rattle.protobuf_parse_model.specs.declared.descriptor.options.CType.{CType}
use Rattle.protobuf_parse_model.specs.declared.descriptor.options.JSType.{JSType}
use Rattle.protobuf_parse_model.specs.declared.descriptor.options.IdempotencyLevel.{IdempotencyLevel}
use Rattle.protobuf_parse_model.specs.declared.descriptor.options.FileOptions.{FileOptions}
use Rattle.protobuf_parse_model.specs.declared.descriptor.options.MessageOptions.{MessageOptions}
use Rattle.protobuf_parse_model.specs.declared.descriptor.options.FieldOptions.{FieldOptions}
use Rattle.protobuf_parse_model.specs.declared.descriptor.options.OneofOptions.{OneofOptions}
use Rattle.protobuf_parse_model.specs.declared.descriptor.options.EnumOptions.{EnumOptions}
use Rattle.protobuf_parse_model.specs.declared.descriptor.options.EnumValueOptions.{EnumValueOptions}
use Rattle.protobuf_parse_model.specs.declared.descriptor.options.ServiceOptions.{ServiceOptions}
use Rattle.protobuf_parse_model.specs.declared.descriptor.options.MethodOptions.{MethodOptions}

-- FileOptions; in this and those that follow an absent option is None
pub record FileOptionValues : Type 0 where
  pub java_package : Option (List ℕ)
  pub java_outer_classname : Option (List ℕ)
  pub optimize_for : Option OptimizeMode
  pub java_multiple_files : Option Bool
  pub go_package : Option (List ℕ)
  pub cc_generic_services : Option Bool
  pub java_generic_services : Option Bool
  pub py_generic_services : Option Bool
  pub java_generate_equals_and_hash : Option Bool
  pub deprecated : Option Bool
  pub java_string_check_utf8 : Option Bool
  pub cc_enable_arenas : Option Bool
  pub objc_class_prefix : Option (List ℕ)
  pub csharp_namespace : Option (List ℕ)
  pub swift_prefix : Option (List ℕ)
  pub php_class_prefix : Option (List ℕ)
  pub php_namespace : Option (List ℕ)
  pub php_metadata_namespace : Option (List ℕ)
  pub ruby_package : Option (List ℕ)
  pub custom : List ℕ

-- MessageOptions
pub record MessageOptionValues : Type 0 where
  pub message_set_wire_format : Option Bool
  pub no_standard_descriptor_accessor : Option Bool
  pub deprecated : Option Bool
  pub map_entry : Option Bool
  pub custom : List ℕ

-- FieldOptions
pub record FieldOptionValues : Type 0 where
  pub ctype : Option CType
  pub packed : Option Bool
  pub deprecated : Option Bool
  pub lazy : Option Bool
  pub jstype : Option JSType
  pub weak : Option Bool
  pub unverified_lazy : Option Bool
  pub debug_redact : Option Bool
  pub custom : List ℕ

-- OneofOptions
pub record OneofOptionValues : Type 0 where
  pub custom : List ℕ

-- EnumOptions
pub record EnumOptionValues : Type 0 where
  pub allow_alias : Option Bool
  pub deprecated : Option Bool
  pub custom : List ℕ

-- EnumValueOptions
pub record EnumValueOptionValues : Type 0 where
  pub deprecated : Option Bool
  pub custom : List ℕ

-- ServiceOptions
pub record ServiceOptionValues : Type 0 where
  pub deprecated : Option Bool
  pub custom : List ℕ

-- MethodOptions
pub record MethodOptionValues : Type 0 where
  pub deprecated : Option Bool
  pub idempotency_level : Option IdempotencyLevel
  pub custom : List ℕ

-- ---- what the Rust values say

-- FileOptions
abbrev pub file_options_view : FileOptions → FileOptionValues
file_options_view o = record {
  java_package = option_map string_bytes o.java_package;
  java_outer_classname = option_map string_bytes o.java_outer_classname;
  optimize_for = o.optimize_for;
  java_multiple_files = o.java_multiple_files;
  go_package = option_map string_bytes o.go_package;
  cc_generic_services = o.cc_generic_services;
  java_generic_services = o.java_generic_services;
  py_generic_services = o.py_generic_services;
  java_generate_equals_and_hash = o.java_generate_equals_and_hash;
  deprecated = o.deprecated;
  java_string_check_utf8 = o.java_string_check_utf8;
  cc_enable_arenas = o.cc_enable_arenas;
  objc_class_prefix = option_map string_bytes o.objc_class_prefix;
  csharp_namespace = option_map string_bytes o.csharp_namespace;
  swift_prefix = option_map string_bytes o.swift_prefix;
  php_class_prefix = option_map string_bytes o.php_class_prefix;
  php_namespace = option_map string_bytes o.php_namespace;
  php_metadata_namespace = option_map string_bytes o.php_metadata_namespace;
  ruby_package = option_map string_bytes o.ruby_package;
  custom = o.custom.items;
}

-- MessageOptions
abbrev pub message_options_view : MessageOptions → MessageOptionValues
message_options_view o = record {
  message_set_wire_format = o.message_set_wire_format;
  no_standard_descriptor_accessor = o.no_standard_descriptor_accessor;
  deprecated = o.deprecated;
  map_entry = o.map_entry;
  custom = o.custom.items;
}

-- FieldOptions
abbrev pub field_options_view : FieldOptions → FieldOptionValues
field_options_view o = record {
  ctype = o.ctype;
  packed = o.packed;
  deprecated = o.deprecated;
  lazy = o.lazy;
  jstype = o.jstype;
  weak = o.weak;
  unverified_lazy = o.unverified_lazy;
  debug_redact = o.debug_redact;
  custom = o.custom.items;
}

-- OneofOptions
abbrev pub oneof_options_view : OneofOptions → OneofOptionValues
oneof_options_view o = record {
  custom = o.custom.items;
}

-- EnumOptions
abbrev pub enum_options_view : EnumOptions → EnumOptionValues
enum_options_view o = record {
  allow_alias = o.allow_alias;
  deprecated = o.deprecated;
  custom = o.custom.items;
}

-- EnumValueOptions
abbrev pub enum_value_options_view : EnumValueOptions → EnumValueOptionValues
enum_value_options_view o = record {
  deprecated = o.deprecated;
  custom = o.custom.items;
}

-- ServiceOptions
abbrev pub service_options_view : ServiceOptions → ServiceOptionValues
service_options_view o = record {
  deprecated = o.deprecated;
  custom = o.custom.items;
}

-- MethodOptions
abbrev pub method_options_view : MethodOptions → MethodOptionValues
method_options_view o = record {
  deprecated = o.deprecated;
  idempotency_level = o.idempotency_level;
  custom = o.custom.items;
}
