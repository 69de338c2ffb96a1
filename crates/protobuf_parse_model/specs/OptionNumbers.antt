-- The numbers of the built-in options and of the values of their enums, as the options messages of
-- google/protobuf/descriptor.proto declare them.
use Rattle.std.specs.Prelude.{◌≡◌, ℕ, ◌==◌, ◌&&◌, nat_lt, Bool, true, List, [], ◌∷◌, map}
use Rattle.std.specs.Prelude.{codes, bytes_eq, count_by, filter, flat_map}
use Rattle.std.specs.List.{list_all}
use Rattle.protobuf_parse_model.specs.BuiltinOptions.{Table, BuiltinKind}
use Rattle.protobuf_parse_model.specs.Descriptors.{Text}

-- names with their numbers
abbrev pub Numbers : Type 0
Numbers = List (Text × ℕ)

-- ---- options

-- those of FileOptions
abbrev pub file_numbers : Numbers
file_numbers =
    (codes "java_package", 1) ∷ (codes "java_outer_classname", 8) ∷ (codes "optimize_for", 9)
    ∷ (codes "java_multiple_files", 10) ∷ (codes "go_package", 11)
    ∷ (codes "cc_generic_services", 16) ∷ (codes "java_generic_services", 17)
    ∷ (codes "py_generic_services", 18) ∷ (codes "java_generate_equals_and_hash", 20)
    ∷ (codes "deprecated", 23) ∷ (codes "java_string_check_utf8", 27)
    ∷ (codes "cc_enable_arenas", 31) ∷ (codes "objc_class_prefix", 36)
    ∷ (codes "csharp_namespace", 37) ∷ (codes "swift_prefix", 39) ∷ (codes "php_class_prefix", 40)
    ∷ (codes "php_namespace", 41) ∷ (codes "php_metadata_namespace", 44)
    ∷ (codes "ruby_package", 45) ∷ []

-- those of MessageOptions
abbrev pub message_numbers : Numbers
message_numbers =
    (codes "message_set_wire_format", 1) ∷ (codes "no_standard_descriptor_accessor", 2)
    ∷ (codes "deprecated", 3) ∷ (codes "map_entry", 7) ∷ []

-- those of FieldOptions
abbrev pub field_numbers : Numbers
field_numbers =
    (codes "ctype", 1) ∷ (codes "packed", 2) ∷ (codes "deprecated", 3) ∷ (codes "lazy", 5)
    ∷ (codes "jstype", 6) ∷ (codes "weak", 10) ∷ (codes "unverified_lazy", 15)
    ∷ (codes "debug_redact", 16) ∷ []

-- those of OneofOptions
abbrev pub oneof_numbers : Numbers
oneof_numbers = []

-- those of EnumOptions
abbrev pub enum_numbers : Numbers
enum_numbers = (codes "allow_alias", 2) ∷ (codes "deprecated", 3) ∷ []

-- those of EnumValueOptions
abbrev pub enum_value_numbers : Numbers
enum_value_numbers = (codes "deprecated", 1) ∷ []

-- those of ServiceOptions
abbrev pub service_numbers : Numbers
service_numbers = (codes "deprecated", 33) ∷ []

-- those of MethodOptions
abbrev pub method_numbers : Numbers
method_numbers = (codes "deprecated", 33) ∷ (codes "idempotency_level", 34) ∷ []

-- ---- values of enums

-- FileOptions.OptimizeMode
abbrev pub optimize_mode_numbers : Numbers
optimize_mode_numbers = (codes "SPEED", 1) ∷ (codes "CODE_SIZE", 2) ∷ (codes "LITE_RUNTIME", 3) ∷ []

-- FieldOptions.CType
abbrev pub c_type_numbers : Numbers
c_type_numbers = (codes "STRING", 0) ∷ (codes "CORD", 1) ∷ (codes "STRING_PIECE", 2) ∷ []

-- FieldOptions.JSType
abbrev pub js_type_numbers : Numbers
js_type_numbers = (codes "JS_NORMAL", 0) ∷ (codes "JS_STRING", 1) ∷ (codes "JS_NUMBER", 2) ∷ []

-- MethodOptions.IdempotencyLevel
abbrev pub idempotency_level_numbers : Numbers
idempotency_level_numbers = (codes "IDEMPOTENCY_UNKNOWN", 0) ∷ (codes "NO_SIDE_EFFECTS", 1)
    ∷ (codes "IDEMPOTENT", 2) ∷ []

-- ---- names that have numbers

-- the names of such a table
abbrev pub names_of : Numbers → List Text
names_of numbers = map (λ (n : Text × ℕ). n.0) numbers

-- the name stands once among these
abbrev pub stands_once : List Text → Text → Bool
stands_once names name = count_by (λ (n : Text). bytes_eq n name) names == 1

-- each number is higher than the one before it
abbrev pub ascend_above : ℕ → Numbers → Bool
ascend_above low [] = true
ascend_above low (n ∷ numbers) = nat_lt low n.1 && ascend_above n.1 numbers

-- the numbers rise from entry to entry
abbrev pub ascend : Numbers → Bool
ascend [] = true
ascend (n ∷ numbers) = ascend_above n.1 numbers

-- Just these names have numbers, each name one, and no number is that of two names.
pub record AreNumbered (names : List Text) (numbers : Numbers) : Type 0 where
  pub each : list_all (stands_once (names_of numbers)) names ≡ true
  pub no_other : list_all (stands_once names) (names_of numbers) ≡ true
  pub ascending : ascend numbers ≡ true

-- whether an entry has that name
abbrev pub entry_has_name : Text → Text × BuiltinKind → Bool
entry_has_name name entry = bytes_eq entry.0 name

-- the entries of a table in the order of their numbers
abbrev pub in_order : Table → Numbers → Table
in_order table numbers = flat_map (λ (n : Text × ℕ). filter (entry_has_name n.0) table) numbers
