-- The listing of descriptors: a line a construct, each part of it below it and two spaces further
-- in.
use Rattle.std.specs.Prelude.{ℕ, ℤ, pos, negsuc, ◌+◌, ◌*◌, ◌==◌, ◌||◌, Bool, true, false, List, []}
use Rattle.std.specs.Prelude.{◌∷◌, ◌++◌, flat_map, codes, replicate, Option, Some, None, option_map}
use Rattle.std.specs.Fmt.{signed_decimal}
use Rattle.hex.specs.Hex.{encode_lower}
use Rattle.protobuf_parse_base.specs.Characters as char
use Rattle.protobuf_parse_base.specs.Escapes.{escaped_bytes}
use Rattle.protobuf_parse_model.specs.declared.descriptor.FieldType.{FieldType}
use Rattle.protobuf_parse_model.specs.declared.descriptor.FieldType.TheVariants as kind
use Rattle.protobuf_parse_model.specs.Words.{label_word, type_word, optimize_mode_word}
use Rattle.protobuf_parse_model.specs.Words.{c_type_word, js_type_word, idempotency_level_word}
use Rattle.protobuf_parse_model.specs.Options.{FileOptionValues, MessageOptionValues}
use Rattle.protobuf_parse_model.specs.Options.{FieldOptionValues}
use Rattle.protobuf_parse_model.specs.Options.{OneofOptionValues, EnumOptionValues}
use Rattle.protobuf_parse_model.specs.Options.{EnumValueOptionValues}
use Rattle.protobuf_parse_model.specs.Options.{ServiceOptionValues, MethodOptionValues}
use Rattle.protobuf_parse_model.specs.Descriptors.{Text, Range, FieldDescriptor, OneofDescriptor}
use Rattle.protobuf_parse_model.specs.Descriptors.{EnumValueDescriptor, EnumDescriptor}
use Rattle.protobuf_parse_model.specs.Descriptors.{MessageParts, MessageDescriptor, a_message}
use Rattle.protobuf_parse_model.specs.Descriptors.{MessageDescriptors, no_messages, messages}
use Rattle.protobuf_parse_model.specs.Descriptors.{MethodDescriptor, ServiceDescriptor}
use Rattle.protobuf_parse_model.specs.Descriptors.{FileDescriptor}

-- ---- pieces

-- a line so many levels in, with its line feed
abbrev pub line : ℕ → Text → Text
line level words = replicate (2 * level) char.space ++ words ++ char.newline ∷ []

-- in double quotes, with the bytes escaped as in a string of the language
unfoldable pub quoted : Text → Text
quoted bytes = char.quote ∷ (escaped_bytes bytes ++ char.quote ∷ [])

-- an absent text prints as nothing
abbrev pub text_or_nothing : Option Text → Text
text_or_nothing None = []
text_or_nothing (Some text) = text

-- a line of these words and the text, where there is one
abbrev pub line_if_some : ℕ → Text → Option Text → Text
line_if_some level words None = []
line_if_some level words (Some text) = line level (words ++ text)

-- both ends of a range
abbrev pub range_words : ℤ → ℤ → Text
range_words start end = signed_decimal start ++ codes " " ++ signed_decimal end

-- a range behind these words
unfoldable pub range_line : ℕ → Text → Range → Text
range_line level words r = line level (words ++ range_words r.start r.end)

-- a reserved name
unfoldable pub reserved_name_line : ℕ → Text → Text
reserved_name_line level name = line level (codes "reserved_name " ++ quoted name)

-- ---- options: those that are set, in the order of their numbers, and then the bytes of the custom
-- ones

-- a truth value
abbrev pub listed_truth : Bool → Text
listed_truth true = codes "true"
listed_truth false = codes "false"

-- an option's name, and the words of its value where it is set
abbrev pub Setting : Type 0
Setting = Text × Option Text

-- an option whose value prints with these words
abbrev pub setting : {A : Type 0} → (A → Text) → Text → Option A → Setting
setting words name value = (name, option_map words value)

-- an option that is a text
abbrev pub text_setting : Text → Option Text → Setting
text_setting = setting quoted

-- an option that is a truth value
abbrev pub truth_setting : Text → Option Bool → Setting
truth_setting = setting listed_truth

-- an option that is set
abbrev pub value_line : ℕ → Text → Option Text → Text
value_line level name None = []
value_line level name (Some value) = line level (codes "option " ++ name ++ codes " = " ++ value)

-- an option, where it is set
abbrev pub setting_line : ℕ → Setting → Text
setting_line level s = value_line level s.0 s.1

-- the bytes of custom options in hexadecimal digits, where there are any
abbrev pub custom_line : ℕ → Text → Text
custom_line level [] = []
custom_line level (b ∷ bytes) = line level (codes "custom " ++ encode_lower (b ∷ bytes))

-- the lines of some settings
abbrev pub setting_lines : ℕ → List Setting → Text
setting_lines level settings = flat_map (setting_line level) settings

-- numbers 1 to 11
abbrev pub first_file_settings : FileOptionValues → List Setting
first_file_settings o =
    text_setting (codes "java_package") o.java_package
    ∷ text_setting (codes "java_outer_classname") o.java_outer_classname
    ∷ setting optimize_mode_word (codes "optimize_for") o.optimize_for
    ∷ truth_setting (codes "java_multiple_files") o.java_multiple_files
    ∷ text_setting (codes "go_package") o.go_package
    ∷ []

-- numbers 16 to 31
abbrev pub middle_file_settings : FileOptionValues → List Setting
middle_file_settings o =
    truth_setting (codes "cc_generic_services") o.cc_generic_services
    ∷ truth_setting (codes "java_generic_services") o.java_generic_services
    ∷ truth_setting (codes "py_generic_services") o.py_generic_services
    ∷ truth_setting (codes "java_generate_equals_and_hash") o.java_generate_equals_and_hash
    ∷ truth_setting (codes "deprecated") o.deprecated
    ∷ truth_setting (codes "java_string_check_utf8") o.java_string_check_utf8
    ∷ truth_setting (codes "cc_enable_arenas") o.cc_enable_arenas
    ∷ []

-- numbers 36 to 45
abbrev pub last_file_settings : FileOptionValues → List Setting
last_file_settings o =
    text_setting (codes "objc_class_prefix") o.objc_class_prefix
    ∷ text_setting (codes "csharp_namespace") o.csharp_namespace
    ∷ text_setting (codes "swift_prefix") o.swift_prefix
    ∷ text_setting (codes "php_class_prefix") o.php_class_prefix
    ∷ text_setting (codes "php_namespace") o.php_namespace
    ∷ text_setting (codes "php_metadata_namespace") o.php_metadata_namespace
    ∷ text_setting (codes "ruby_package") o.ruby_package
    ∷ []

-- MessageOptions
abbrev pub message_settings : MessageOptionValues → List Setting
message_settings o =
    truth_setting (codes "message_set_wire_format") o.message_set_wire_format
    ∷ truth_setting (codes "no_standard_descriptor_accessor") o.no_standard_descriptor_accessor
    ∷ truth_setting (codes "deprecated") o.deprecated
    ∷ truth_setting (codes "map_entry") o.map_entry
    ∷ []

-- FieldOptions
abbrev pub field_settings : FieldOptionValues → List Setting
field_settings o =
    setting c_type_word (codes "ctype") o.ctype
    ∷ truth_setting (codes "packed") o.packed
    ∷ truth_setting (codes "deprecated") o.deprecated
    ∷ truth_setting (codes "lazy") o.lazy
    ∷ setting js_type_word (codes "jstype") o.jstype
    ∷ truth_setting (codes "weak") o.weak
    ∷ truth_setting (codes "unverified_lazy") o.unverified_lazy
    ∷ truth_setting (codes "debug_redact") o.debug_redact
    ∷ []

-- EnumOptions
abbrev pub enum_settings : EnumOptionValues → List Setting
enum_settings o = truth_setting (codes "allow_alias") o.allow_alias
    ∷ truth_setting (codes "deprecated") o.deprecated ∷ []

-- MethodOptions
abbrev pub method_settings : MethodOptionValues → List Setting
method_settings o = truth_setting (codes "deprecated") o.deprecated
    ∷ setting idempotency_level_word (codes "idempotency_level") o.idempotency_level ∷ []

-- FileOptions, where the file has them
unfoldable pub file_option_lines : ℕ → Option FileOptionValues → Text
file_option_lines level None = []
file_option_lines level (Some o) =
    setting_lines level (first_file_settings o) ++ setting_lines level (middle_file_settings o)
    ++ setting_lines level (last_file_settings o) ++ custom_line level o.custom

-- MessageOptions, where the message has them
unfoldable pub message_option_lines : ℕ → Option MessageOptionValues → Text
message_option_lines level None = []
message_option_lines level (Some o) = setting_lines level (message_settings o)
    ++ custom_line level o.custom

-- FieldOptions, where the field or the extension has them
unfoldable pub field_option_lines : ℕ → Option FieldOptionValues → Text
field_option_lines level None = []
field_option_lines level (Some o) = setting_lines level (field_settings o)
    ++ custom_line level o.custom

-- OneofOptions, where the oneof has them
unfoldable pub oneof_option_lines : ℕ → Option OneofOptionValues → Text
oneof_option_lines level None = []
oneof_option_lines level (Some o) = custom_line level o.custom

-- EnumOptions, where the enum has them
unfoldable pub enum_option_lines : ℕ → Option EnumOptionValues → Text
enum_option_lines level None = []
enum_option_lines level (Some o) = setting_lines level (enum_settings o)
    ++ custom_line level o.custom

-- EnumValueOptions, where the enum's value has them
unfoldable pub enum_value_option_lines : ℕ → Option EnumValueOptionValues → Text
enum_value_option_lines level None = []
enum_value_option_lines level (Some o) =
    setting_line level (truth_setting (codes "deprecated") o.deprecated)
    ++ custom_line level o.custom

-- ServiceOptions, where the service has them
unfoldable pub service_option_lines : ℕ → Option ServiceOptionValues → Text
service_option_lines level None = []
service_option_lines level (Some o) =
    setting_line level (truth_setting (codes "deprecated") o.deprecated)
    ++ custom_line level o.custom

-- MethodOptions, where the method has them
unfoldable pub method_option_lines : ℕ → Option MethodOptionValues → Text
method_option_lines level None = []
method_option_lines level (Some o) = setting_lines level (method_settings o)
    ++ custom_line level o.custom

-- ---- fields

-- whether the type is declared elsewhere, and prints with its name
abbrev pub is_named : FieldType → Bool
is_named kind.Message = true
is_named kind.Enum = true
is_named kind.Group = true
is_named _ = false

-- the name behind a type that has one
abbrev pub name_words : Bool → Option Text → Text
name_words false name = []
name_words true name = codes " " ++ text_or_nothing name

-- a field's type
abbrev pub type_words : FieldType → Option Text → Text
type_words type_ name = type_word type_ ++ name_words (is_named type_) name

-- the default, where there is one
abbrev pub default_words : Option Text → Text
default_words None = []
default_words (Some value) = codes " default " ++ quoted value

-- the index of the oneof, where there is one
abbrev pub oneof_words : Option ℤ → Text
oneof_words None = []
oneof_words (Some index) = codes " oneof " ++ signed_decimal index

-- these words where it is so
abbrev pub words_if : Bool → Text → Text
words_if false words = []
words_if true words = words

-- `LABEL TYPE NAME = NUMBER`
unfoldable pub field_front : FieldDescriptor → Text
field_front f = label_word f.label ++ codes " " ++ type_words f.type_ f.type_name ++ codes " "
    ++ f.name ++ codes " = " ++ signed_decimal f.number

-- ` json "J"`, and what else is set
unfoldable pub field_back : FieldDescriptor → Text
field_back f =
    codes " json " ++ quoted f.json_name ++ default_words f.default_value
    ++ oneof_words f.oneof_index ++ words_if f.proto3_optional (codes " proto3_optional")

-- a field's line without its first word
abbrev pub field_words : FieldDescriptor → Text
field_words f = field_front f ++ field_back f

-- a field's line begins with these words
unfoldable pub field_lines_after : Text → ℕ → FieldDescriptor → Text
field_lines_after words level f = line level (words ++ field_words f)
    ++ field_option_lines (level + 1) f.options

-- a field with its options
abbrev pub field_lines : ℕ → FieldDescriptor → Text
field_lines level f = field_lines_after (codes "field ") level f

-- the first words of an extension: which message it extends
abbrev pub extension_front : FieldDescriptor → Text
extension_front f = codes "extension " ++ text_or_nothing f.extendee ++ codes " "

-- an extension with its options
abbrev pub extension_lines : ℕ → FieldDescriptor → Text
extension_lines level f = field_lines_after (extension_front f) level f

-- ---- what else is declared

-- a oneof with its options
abbrev pub oneof_lines : ℕ → OneofDescriptor → Text
oneof_lines level o = line level (codes "oneof " ++ o.name)
    ++ oneof_option_lines (level + 1) o.options

-- a value's name and number
unfoldable pub enum_value_words : EnumValueDescriptor → Text
enum_value_words v = v.name ++ codes " = " ++ signed_decimal v.number

-- a value with its options
abbrev pub enum_value_lines : ℕ → EnumValueDescriptor → Text
enum_value_lines level v = line level (codes "value " ++ enum_value_words v)
    ++ enum_value_option_lines (level + 1) v.options

-- what stands below an enum's line
unfoldable pub enum_parts : ℕ → EnumDescriptor → Text
enum_parts level e =
    enum_option_lines level e.options ++ flat_map (enum_value_lines level) e.value
    ++ flat_map (range_line level (codes "reserved_range ")) e.reserved_range
    ++ flat_map (reserved_name_line level) e.reserved_name

-- an enum with what stands below it
abbrev pub enum_lines : ℕ → EnumDescriptor → Text
enum_lines level e = line level (codes "enum " ++ e.name) ++ enum_parts (level + 1) e

-- the options, fields and oneofs of a message
unfoldable pub message_front : ℕ → MessageParts → Text
message_front level m = message_option_lines level m.options ++ flat_map (field_lines level) m.field
    ++ flat_map (oneof_lines level) m.oneof_decl

-- its enums and extensions
unfoldable pub message_middle : ℕ → MessageParts → Text
message_middle level m = flat_map (enum_lines level) m.enum_type
    ++ flat_map (extension_lines level) m.extension

-- its ranges and reserved names
unfoldable pub message_back : ℕ → MessageParts → Text
message_back level m =
    flat_map (range_line level (codes "extension_range ")) m.extension_range
    ++ flat_map (range_line level (codes "reserved_range ")) m.reserved_range
    ++ flat_map (reserved_name_line level) m.reserved_name

abbrev mutual
  -- a message with all that stands in it
  pub message_lines : ℕ → MessageDescriptor → Text
  message_lines level (a_message m inside) =
      line level (codes "message " ++ m.name)
      ++ (message_front (level + 1) m ++ all_message_lines (level + 1) inside
      ++ message_middle (level + 1) m ++ message_back (level + 1) m)

  -- messages that stand side by side
  pub all_message_lines : ℕ → MessageDescriptors → Text
  all_message_lines level no_messages = []
  all_message_lines level (messages m ms) = message_lines level m ++ all_message_lines level ms

-- a method's name, what it takes and returns, and whether these are streams
unfoldable pub method_words : MethodDescriptor → Text
method_words m =
    m.name ++ codes " " ++ m.input_type ++ codes " " ++ m.output_type
    ++ words_if m.client_streaming (codes " client_streaming")
    ++ words_if m.server_streaming (codes " server_streaming")

-- a method with its options
abbrev pub method_lines : ℕ → MethodDescriptor → Text
method_lines level m = line level (codes "method " ++ method_words m)
    ++ method_option_lines (level + 1) m.options

-- a service with its options and its methods
abbrev pub service_lines : ℕ → ServiceDescriptor → Text
service_lines level s = line level (codes "service " ++ s.name)
    ++ service_option_lines (level + 1) s.options ++ flat_map (method_lines (level + 1)) s.method

-- ---- files

-- a position from 0 on, where the number is one
abbrev pub position_of : ℤ → Option ℕ
position_of (pos p) = Some p
position_of (negsuc p) = None

-- whether that position is this one
abbrev pub is_at : ℕ → Option ℕ → Bool
is_at i None = false
is_at i (Some p) = p == i

-- whether the numbers have this position
abbrev pub is_position : ℕ → List ℤ → Bool
is_position i [] = false
is_position i (p ∷ ps) = is_at i (position_of p) || is_position i ps

-- an import that is listed as public and as weak prints as public
abbrev pub import_words : Bool → Bool → Text
import_words true is_weak = codes "import public "
import_words false true = codes "import weak "
import_words false false = codes "import "

-- the imports from the position i on, with the positions of the public and of the weak ones
abbrev pub import_lines : List ℤ → List ℤ → ℕ → List Text → Text
import_lines public weak i [] = []
import_lines public weak i (path ∷ paths) =
    line 1 (import_words (is_position i public) (is_position i weak) ++ path)
    ++ import_lines public weak (i + 1) paths

-- the lines of a file before its options
unfoldable pub file_front : FileDescriptor → Text
file_front f =
    line 0 (codes "file " ++ text_or_nothing f.name)
    ++ line 1 (codes "syntax " ++ text_or_nothing f.syntax)
    ++ line_if_some 1 (codes "package ") f.«package»
    ++ import_lines f.public_dependency f.weak_dependency 0 f.dependency

-- those of what it declares
unfoldable pub file_back : FileDescriptor → Text
file_back f =
    flat_map (message_lines 1) f.message_type ++ flat_map (enum_lines 1) f.enum_type
    ++ flat_map (service_lines 1) f.service ++ flat_map (extension_lines 1) f.extension

-- a file: its front, its options and what it declares
abbrev pub file_lines : FileDescriptor → Text
file_lines f = file_front f ++ file_option_lines 1 f.options ++ file_back f

-- the files in order
abbrev pub listing_of : List FileDescriptor → Text
listing_of files = flat_map file_lines files
