-- The options messages of google/protobuf/descriptor.proto: the built-in options by their numbers
-- there, and the bytes of all other records as they stand, which are the custom options. A record
-- with the number of a built-in option is that option where it has the option's wire type and, of
-- an enum, the number of one of its values; else it is kept with the others.
use Rattle.std.specs.Prelude.{ℕ, ℤ, Bool, true, false, not, ◌&&◌, ◌||◌, ◌==◌, nat_lt, List, [], ◌∷◌}
use Rattle.std.specs.Prelude.{filter, flat_map, Option, Some, None, Ok}
use Rattle.std.specs.List.{list_any}
use Rattle.protobuf_parse_records.specs.Views.{Content, WireRecord, varint, fixed64}
use Rattle.protobuf_parse_records.specs.Views.{fixed32, delimited, group}
use Rattle.protobuf_parse_records.specs.Wire.{◌>>=◌}
use Rattle.protobuf_parse_model.specs.Options.{FileOptionValues, MessageOptionValues}
use Rattle.protobuf_parse_model.specs.Options.{FieldOptionValues, OneofOptionValues}
use Rattle.protobuf_parse_model.specs.Options.{EnumOptionValues, EnumValueOptionValues}
use Rattle.protobuf_parse_model.specs.Options.{ServiceOptionValues, MethodOptionValues}
use Rattle.protobuf_parse_set_reader.specs.Answers.{Answer}
use Rattle.protobuf_parse_set_reader.specs.Values.{BodyView, last_of, one, text_in, int_of}
use Rattle.protobuf_parse_set_reader.specs.Choices.{optimize_mode_numbered, ctype_numbered}
use Rattle.protobuf_parse_set_reader.specs.Choices.{jstype_numbered, idempotency_level_numbered}

-- ---- which records set a built-in option

-- whether there is one
abbrev pub is_there : {A : Type 0} → Option A → Bool
is_there (Some x) = true
is_there None = false

-- a truth value
abbrev pub truth_said : Content → Option Bool
truth_said (varint n) = Some (nat_lt 0 n)
truth_said (fixed64 n) = None
truth_said (fixed32 n) = None
truth_said (delimited s) = None
truth_said (group s) = None

-- a value of an enum, `of` its number
abbrev pub value_said : {A : Type 0} → (ℤ → Option A) → Content → Option A
value_said of (varint n) = of (int_of n)
value_said of (fixed64 n) = None
value_said of (fixed32 n) = None
value_said of (delimited s) = None
value_said of (group s) = None

-- whether these are bytes behind a length
abbrev pub are_bytes : Content → Bool
are_bytes (delimited s) = true
are_bytes (varint n) = false
are_bytes (fixed64 n) = false
are_bytes (fixed32 n) = false
are_bytes (group s) = false

-- whether the record has one of these numbers
abbrev pub has_number : List ℕ → WireRecord → Bool
has_number numbers r = list_any (λ n. r.number == n) numbers

-- whether the record is a truth value with one of these numbers
abbrev pub sets_flag : List ℕ → WireRecord → Bool
sets_flag numbers r = has_number numbers r && is_there (truth_said r.content)

-- whether it is a text with one of them
abbrev pub sets_text : List ℕ → WireRecord → Bool
sets_text numbers r = has_number numbers r && are_bytes r.content

-- whether it is a value of the enum with one of them
abbrev pub sets_value : {A : Type 0} → (ℤ → Option A) → List ℕ → WireRecord → Bool
sets_value of numbers r = has_number numbers r && is_there (value_said of r.content)

-- ---- the two kinds of records

-- the message of those that set a built-in option
abbrev pub built_in : (WireRecord → Bool) → BodyView → BodyView
built_in sets b = record { start = b.start; records = filter sets b.records }

-- the bytes of the others
abbrev pub custom : (WireRecord → Bool) → BodyView → List ℕ
custom sets b = flat_map (λ (r : WireRecord). r.whole.bytes)
    (filter (λ (r : WireRecord). not (sets r)) b.records)

-- ---- what those say that set a built-in option

-- what one says, if there is one
abbrev pub said_by : {A : Type 0} → (Content → Option A) → Option WireRecord → Option A
said_by said None = None
said_by said (Some r) = said r.content

-- a truth value
abbrev pub flag : ℕ → BodyView → Option Bool
flag n b = said_by truth_said (last_of n b)

-- a value of an enum
abbrev pub choice : {A : Type 0} → (ℤ → Option A) → ℕ → BodyView → Option A
choice of n b = said_by (value_said of) (last_of n b)

-- ---- the messages

-- whether a record sets a built-in option of FileOptions; likewise for those that follow
abbrev pub sets_file_option : WireRecord → Bool
sets_file_option r =
    sets_text (1 ∷ 8 ∷ 11 ∷ 36 ∷ 37 ∷ 39 ∷ 40 ∷ 41 ∷ 44 ∷ 45 ∷ []) r
    || sets_flag (10 ∷ 16 ∷ 17 ∷ 18 ∷ 20 ∷ 23 ∷ 27 ∷ 31 ∷ []) r
    || sets_value optimize_mode_numbered (9 ∷ []) r

-- FileOptions, of its built-in options and the bytes of the custom ones
unfoldable pub file_options_in : BodyView → List ℕ → Answer FileOptionValues
file_options_in b others = do
  java_package ← one text_in 1 b
  java_outer_classname ← one text_in 8 b
  go_package ← one text_in 11 b
  objc_class_prefix ← one text_in 36 b
  csharp_namespace ← one text_in 37 b
  swift_prefix ← one text_in 39 b
  php_class_prefix ← one text_in 40 b
  php_namespace ← one text_in 41 b
  php_metadata_namespace ← one text_in 44 b
  ruby_package ← one text_in 45 b
  Ok (record {
    java_package = java_package;
    java_outer_classname = java_outer_classname;
    optimize_for = choice optimize_mode_numbered 9 b;
    java_multiple_files = flag 10 b;
    go_package = go_package;
    cc_generic_services = flag 16 b;
    java_generic_services = flag 17 b;
    py_generic_services = flag 18 b;
    java_generate_equals_and_hash = flag 20 b;
    deprecated = flag 23 b;
    java_string_check_utf8 = flag 27 b;
    cc_enable_arenas = flag 31 b;
    objc_class_prefix = objc_class_prefix;
    csharp_namespace = csharp_namespace;
    swift_prefix = swift_prefix;
    php_class_prefix = php_class_prefix;
    php_namespace = php_namespace;
    php_metadata_namespace = php_metadata_namespace;
    ruby_package = ruby_package;
    custom = others;
  })

-- FileOptions
unfoldable pub file_options_of : BodyView → Answer FileOptionValues
file_options_of b = file_options_in (built_in sets_file_option b) (custom sets_file_option b)

-- MessageOptions
abbrev pub sets_message_option : WireRecord → Bool
sets_message_option r = sets_flag (1 ∷ 2 ∷ 3 ∷ 7 ∷ []) r

-- MessageOptions, of its built-in options and the bytes of the custom ones
abbrev pub message_options_in : BodyView → List ℕ → MessageOptionValues
message_options_in b others = record {
  message_set_wire_format = flag 1 b;
  no_standard_descriptor_accessor = flag 2 b;
  deprecated = flag 3 b;
  map_entry = flag 7 b;
  custom = others;
}

-- MessageOptions
unfoldable pub message_options_of : BodyView → Answer MessageOptionValues
message_options_of b =
    Ok (message_options_in (built_in sets_message_option b) (custom sets_message_option b))

-- FieldOptions
abbrev pub sets_field_option : WireRecord → Bool
sets_field_option r =
    sets_flag (2 ∷ 3 ∷ 5 ∷ 10 ∷ 15 ∷ 16 ∷ []) r
    || sets_value ctype_numbered (1 ∷ []) r
    || sets_value jstype_numbered (6 ∷ []) r

-- FieldOptions, of its built-in options and the bytes of the custom ones
abbrev pub field_options_in : BodyView → List ℕ → FieldOptionValues
field_options_in b others = record {
  ctype = choice ctype_numbered 1 b;
  packed = flag 2 b;
  deprecated = flag 3 b;
  lazy = flag 5 b;
  jstype = choice jstype_numbered 6 b;
  weak = flag 10 b;
  unverified_lazy = flag 15 b;
  debug_redact = flag 16 b;
  custom = others;
}

-- FieldOptions
unfoldable pub field_options_of : BodyView → Answer FieldOptionValues
field_options_of b =
    Ok (field_options_in (built_in sets_field_option b) (custom sets_field_option b))

-- OneofOptions, which has no built-in option
abbrev pub sets_oneof_option : WireRecord → Bool
sets_oneof_option r = false

-- OneofOptions
unfoldable pub oneof_options_of : BodyView → Answer OneofOptionValues
oneof_options_of b = Ok (record { custom = custom sets_oneof_option b })

-- EnumOptions
abbrev pub sets_enum_option : WireRecord → Bool
sets_enum_option r = sets_flag (2 ∷ 3 ∷ []) r

-- EnumOptions, of its built-in options and the bytes of the custom ones
abbrev pub enum_options_in : BodyView → List ℕ → EnumOptionValues
enum_options_in b others =
    record { allow_alias = flag 2 b; deprecated = flag 3 b; custom = others }

-- EnumOptions
unfoldable pub enum_options_of : BodyView → Answer EnumOptionValues
enum_options_of b =
    Ok (enum_options_in (built_in sets_enum_option b) (custom sets_enum_option b))

-- EnumValueOptions
abbrev pub sets_enum_value_option : WireRecord → Bool
sets_enum_value_option r = sets_flag (1 ∷ []) r

-- EnumValueOptions, of its built-in options and the bytes of the custom ones
abbrev pub enum_value_options_in : BodyView → List ℕ → EnumValueOptionValues
enum_value_options_in b others = record { deprecated = flag 1 b; custom = others }

-- EnumValueOptions
unfoldable pub enum_value_options_of : BodyView → Answer EnumValueOptionValues
enum_value_options_of b = Ok
    (enum_value_options_in (built_in sets_enum_value_option b) (custom sets_enum_value_option b))

-- ServiceOptions
abbrev pub sets_service_option : WireRecord → Bool
sets_service_option r = sets_flag (33 ∷ []) r

-- ServiceOptions, of its built-in options and the bytes of the custom ones
abbrev pub service_options_in : BodyView → List ℕ → ServiceOptionValues
service_options_in b others = record { deprecated = flag 33 b; custom = others }

-- ServiceOptions
unfoldable pub service_options_of : BodyView → Answer ServiceOptionValues
service_options_of b =
    Ok (service_options_in (built_in sets_service_option b) (custom sets_service_option b))

-- MethodOptions
abbrev pub sets_method_option : WireRecord → Bool
sets_method_option r =
    sets_flag (33 ∷ []) r || sets_value idempotency_level_numbered (34 ∷ []) r

-- MethodOptions, of its built-in options and the bytes of the custom ones
abbrev pub method_options_in : BodyView → List ℕ → MethodOptionValues
method_options_in b others = record {
  deprecated = flag 33 b;
  idempotency_level = choice idempotency_level_numbered 34 b;
  custom = others;
}

-- MethodOptions
unfoldable pub method_options_of : BodyView → Answer MethodOptionValues
method_options_of b =
    Ok (method_options_in (built_in sets_method_option b) (custom sets_method_option b))
