-- The options messages of google/protobuf/descriptor.proto: the built-in options that are set, each
-- with its number there, and behind them the bytes of the custom options as they stand.
use Rattle.std.specs.Prelude.{ℕ, List, ◌++◌}
use Rattle.protobuf_parse_model.specs.Options.{FileOptionValues, MessageOptionValues}
use Rattle.protobuf_parse_model.specs.Options.{FieldOptionValues}
use Rattle.protobuf_parse_model.specs.Options.{OneofOptionValues, EnumOptionValues}
use Rattle.protobuf_parse_model.specs.Options.{EnumValueOptionValues}
use Rattle.protobuf_parse_model.specs.Options.{ServiceOptionValues, MethodOptionValues}
use Rattle.protobuf_parse_descriptor_set.specs.Items.{Items, bytes_of, text, choice, flag, some}
use Rattle.protobuf_parse_descriptor_set.specs.Numbers.{optimize_mode_number, ctype_number}
use Rattle.protobuf_parse_descriptor_set.specs.Numbers.{jstype_number, idempotency_level_number}

-- FileOptions
unfoldable pub file_option_items : FileOptionValues → Items
file_option_items o =
    some (text 1) o.java_package
    ++ some (text 8) o.java_outer_classname
    ++ some (λ m. choice 9 (optimize_mode_number m)) o.optimize_for
    ++ some (flag 10) o.java_multiple_files
    ++ some (text 11) o.go_package
    ++ some (flag 16) o.cc_generic_services
    ++ some (flag 17) o.java_generic_services
    ++ some (flag 18) o.py_generic_services
    ++ some (flag 20) o.java_generate_equals_and_hash
    ++ some (flag 23) o.deprecated
    ++ some (flag 27) o.java_string_check_utf8
    ++ some (flag 31) o.cc_enable_arenas
    ++ some (text 36) o.objc_class_prefix
    ++ some (text 37) o.csharp_namespace
    ++ some (text 39) o.swift_prefix
    ++ some (text 40) o.php_class_prefix
    ++ some (text 41) o.php_namespace
    ++ some (text 44) o.php_metadata_namespace
    ++ some (text 45) o.ruby_package

-- MessageOptions
unfoldable pub message_option_items : MessageOptionValues → Items
message_option_items o =
    some (flag 1) o.message_set_wire_format
    ++ some (flag 2) o.no_standard_descriptor_accessor
    ++ some (flag 3) o.deprecated
    ++ some (flag 7) o.map_entry

-- FieldOptions
unfoldable pub field_option_items : FieldOptionValues → Items
field_option_items o =
    some (λ c. choice 1 (ctype_number c)) o.ctype
    ++ some (flag 2) o.packed
    ++ some (flag 3) o.deprecated
    ++ some (flag 5) o.lazy
    ++ some (λ j. choice 6 (jstype_number j)) o.jstype
    ++ some (flag 10) o.weak
    ++ some (flag 15) o.unverified_lazy
    ++ some (flag 16) o.debug_redact

-- EnumOptions
unfoldable pub enum_option_items : EnumOptionValues → Items
enum_option_items o = some (flag 2) o.allow_alias ++ some (flag 3) o.deprecated

-- EnumValueOptions
unfoldable pub enum_value_option_items : EnumValueOptionValues → Items
enum_value_option_items o = some (flag 1) o.deprecated

-- ServiceOptions
unfoldable pub service_option_items : ServiceOptionValues → Items
service_option_items o = some (flag 33) o.deprecated

-- MethodOptions
unfoldable pub method_option_items : MethodOptionValues → Items
method_option_items o = some (flag 33) o.deprecated
    ++ some (λ l. choice 34 (idempotency_level_number l)) o.idempotency_level

-- ---- with the custom options

-- FileOptions
abbrev pub file_option_bytes : FileOptionValues → List ℕ
file_option_bytes o = bytes_of (file_option_items o) ++ o.custom

-- MessageOptions
abbrev pub message_option_bytes : MessageOptionValues → List ℕ
message_option_bytes o = bytes_of (message_option_items o) ++ o.custom

-- FieldOptions
abbrev pub field_option_bytes : FieldOptionValues → List ℕ
field_option_bytes o = bytes_of (field_option_items o) ++ o.custom

-- OneofOptions, which has no built-in option
abbrev pub oneof_option_bytes : OneofOptionValues → List ℕ
oneof_option_bytes o = o.custom

-- EnumOptions
abbrev pub enum_option_bytes : EnumOptionValues → List ℕ
enum_option_bytes o = bytes_of (enum_option_items o) ++ o.custom

-- EnumValueOptions
abbrev pub enum_value_option_bytes : EnumValueOptionValues → List ℕ
enum_value_option_bytes o = bytes_of (enum_value_option_items o) ++ o.custom

-- ServiceOptions
abbrev pub service_option_bytes : ServiceOptionValues → List ℕ
service_option_bytes o = bytes_of (service_option_items o) ++ o.custom

-- MethodOptions
abbrev pub method_option_bytes : MethodOptionValues → List ℕ
method_option_bytes o = bytes_of (method_option_items o) ++ o.custom
