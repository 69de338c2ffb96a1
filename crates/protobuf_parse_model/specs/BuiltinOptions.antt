-- The options that the language knows by name: which there are, what their statements set, and what
-- is wrong in them.
--
-- The table is that of the options messages in google/protobuf/descriptor.proto: FileOptions,
-- MessageOptions, FieldOptions, OneofOptions, EnumOptions, EnumValueOptions, ServiceOptions and
-- MethodOptions. An option is set by the last statement with its name: a text by a string, a truth
-- value by `true` or `false`, a value of an enum by its name. Protocol Buffers Language Guide,
-- "Options" (https://protobuf.dev).
use Rattle.std.specs.Prelude.{Bool, List, [], ◌∷◌, ◌++◌, map, flat_map, codes, bytes_eq, Option}
use Rattle.std.specs.Prelude.{Some, None, option_map, if◌then◌else◌}
use Rattle.std.specs.Borrow.{Bor}
use Rattle.std.specs.List.{find, last_or}
use Rattle.protobuf_parse_lexer.specs.Decoder.{text_of}
use Rattle.protobuf_parse_syntax.specs.Trees.{ConstantSyntax, truth, dotted, string}
use Rattle.protobuf_parse_syntax.specs.Trees.{OptionNameSyntax, builtin, custom, OptionSyntax}
use Rattle.protobuf_parse_syntax.specs.Trees.{option_syntax}
use Rattle.protobuf_parse_syntax.specs.declared.tree.option.ProtobufOption.{ProtobufOption}
use Rattle.protobuf_parse_model.specs.declared.error.ElabErrorKind.TheVariants.{StrLitDecode}
use Rattle.protobuf_parse_model.specs.declared.error.ElabErrorKind.TheVariants.{BuiltinOptionNotFound}
use Rattle.protobuf_parse_model.specs.declared.error.ElabErrorKind.TheVariants.{BuiltinOptionPointsToNonSingularField}
use Rattle.protobuf_parse_model.specs.declared.error.ElabErrorKind.TheVariants.{InconvertibleValue}
use Rattle.protobuf_parse_model.specs.Descriptors.{Text}
use Rattle.protobuf_parse_model.specs.Words.{Words, words_of, optimize_modes, c_types, js_types}
use Rattle.protobuf_parse_model.specs.Words.{idempotency_levels}
use Rattle.protobuf_parse_model.specs.Faults.{Wrong, Fault, placed}
use Rattle.protobuf_parse_model.specs.Duplicates.{fault, stands_in}

-- ---- statements

-- statements without where they lie in memory
abbrev pub options_seen : List (Bor ProtobufOption) → List OptionSyntax
options_seen os = map (λ (o : Bor ProtobufOption). option_syntax o.now) os

-- the value that a statement gives to the built-in option of that name, if it sets that
abbrev pub value_if_named : Text → ConstantSyntax → OptionNameSyntax → List ConstantSyntax
value_if_named name value (builtin n) = if bytes_eq n name then value ∷ [] else []
value_if_named name value (custom parts) = []

-- the values that statements give to it, in order
abbrev pub values_named : Text → List OptionSyntax → List ConstantSyntax
values_named name os = flat_map (λ (o : OptionSyntax). value_if_named name o.value o.name) os

-- the last of them
abbrev pub last_value : Text → List OptionSyntax → Option ConstantSyntax
last_value name os = last_or None (values_named name os)

-- an options message is there exactly where a statement stands
abbrev pub where_any : {A : Type 0} → List OptionSyntax → A → Option A
where_any [] options = None
where_any (o ∷ os) options = Some options

-- ---- values

-- what a string says, if it is a text
abbrev pub text_said : ConstantSyntax → Option Text
text_said (string pieces) = text_of pieces
text_said _ = None

-- `true` and `false`
abbrev pub truth_said : ConstantSyntax → Option Bool
truth_said (truth b) = Some b
truth_said _ = None

-- what the first entry of that name has
abbrev pub under_name : {A : Type 0} → List (Text × A) → Text → Option A
under_name table name = option_map (λ e. e.1) (find (λ e. bytes_eq e.0 name) table)

-- a word, which names the value of an enum
abbrev pub word_said : {A : Type 0} → Words A → ConstantSyntax → Option A
word_said words (dotted n) = under_name words n
word_said words _ = None

-- what the last statement with the name says
abbrev pub set_by : {A : Type 0} → (ConstantSyntax → Option A) → Option ConstantSyntax → Option A
set_by said None = None
set_by said (Some value) = said value

-- an option that is a text
abbrev pub text_option : List OptionSyntax → Text → Option Text
text_option os name = set_by text_said (last_value name os)

-- an option that is a truth value
abbrev pub truth_option : List OptionSyntax → Text → Option Bool
truth_option os name = set_by truth_said (last_value name os)

-- an option that is a value of an enum
abbrev pub word_option : {A : Type 0} → Words A → List OptionSyntax → Text → Option A
word_option words os name = set_by (word_said words) (last_value name os)

-- ---- which options there are

-- what an option holds: a text, a truth value, or a value of an enum, which these words name
pub data BuiltinKind : Type 0 where
  a_text : BuiltinKind
  a_truth : BuiltinKind
  a_word : List Text → BuiltinKind

-- the options of an options message by their names
abbrev pub Table : Type 0
Table = List (Text × BuiltinKind)

-- options that are texts
abbrev pub text_entries : List Text → Table
text_entries names = map (λ (n : Text). (n, a_text)) names

-- options that are truth values
abbrev pub truth_entries : List Text → Table
truth_entries names = map (λ (n : Text). (n, a_truth)) names

-- an option that is a value of an enum
abbrev pub word_entry : {A : Type 0} → Text → Words A → Table
word_entry name words = (name, a_word (words_of words)) ∷ []

-- FileOptions
abbrev pub file_table : Table
file_table =
    text_entries (codes "java_package" ∷ codes "java_outer_classname" ∷ codes "go_package"
    ∷ codes "objc_class_prefix" ∷ codes "csharp_namespace" ∷ codes "swift_prefix"
    ∷ codes "php_class_prefix" ∷ codes "php_namespace" ∷ codes "php_metadata_namespace"
    ∷ codes "ruby_package" ∷ [])
    ++ truth_entries (codes "java_multiple_files" ∷ codes "cc_generic_services"
    ∷ codes "java_generic_services" ∷ codes "py_generic_services"
    ∷ codes "java_generate_equals_and_hash" ∷ codes "deprecated" ∷ codes "java_string_check_utf8"
    ∷ codes "cc_enable_arenas" ∷ [])
    ++ word_entry (codes "optimize_for") optimize_modes

-- MessageOptions
abbrev pub message_table : Table
message_table =
    truth_entries (codes "message_set_wire_format" ∷ codes "no_standard_descriptor_accessor"
    ∷ codes "deprecated" ∷ codes "map_entry" ∷ [])

-- FieldOptions
abbrev pub field_table : Table
field_table =
    truth_entries (codes "packed" ∷ codes "deprecated" ∷ codes "lazy" ∷ codes "weak"
    ∷ codes "unverified_lazy" ∷ codes "debug_redact" ∷ [])
    ++ word_entry (codes "ctype") c_types ++ word_entry (codes "jstype") js_types

-- OneofOptions, which has no option of its own
abbrev pub oneof_table : Table
oneof_table = []

-- EnumOptions
abbrev pub enum_table : Table
enum_table = truth_entries (codes "allow_alias" ∷ codes "deprecated" ∷ [])

-- EnumValueOptions
abbrev pub enum_value_table : Table
enum_value_table = truth_entries (codes "deprecated" ∷ [])

-- ServiceOptions
abbrev pub service_table : Table
service_table = truth_entries (codes "deprecated" ∷ [])

-- MethodOptions
abbrev pub method_table : Table
method_table = truth_entries (codes "deprecated" ∷ [])
    ++ word_entry (codes "idempotency_level") idempotency_levels

-- ---- what is wrong

-- E13 for a value of another kind, E9 for a string that is no text
abbrev pub string_faults : Text → Option Text → List Wrong
string_faults name (Some text) = []
string_faults name None = fault StrLitDecode name

-- what is wrong in the value of an option of that kind
abbrev pub builtin_value_faults : Text → BuiltinKind → ConstantSyntax → List Wrong
builtin_value_faults name a_text (string pieces) = string_faults name (text_of pieces)
builtin_value_faults name a_truth (truth b) = []
builtin_value_faults name (a_word words) (dotted n) =
    if stands_in n words then [] else fault InconvertibleValue name
builtin_value_faults name _ _ = fault InconvertibleValue name

-- E11 for a name that the table doesn't have
abbrev pub builtin_kind_faults : Text → ConstantSyntax → Option BuiltinKind → List Wrong
builtin_kind_faults name value None = fault BuiltinOptionNotFound name
builtin_kind_faults name value (Some kind) = builtin_value_faults name kind value

-- every table has `uninterpreted_option`, which can't be set
abbrev pub builtin_faults : Table → Text → ConstantSyntax → List Wrong
builtin_faults table name value =
    if bytes_eq name (codes "uninterpreted_option")
    then fault BuiltinOptionPointsToNonSingularField name
    else builtin_kind_faults name value (under_name table name)

-- of one statement; a custom option has no such fault
abbrev pub named_faults : Table → ConstantSyntax → OptionNameSyntax → List Wrong
named_faults table value (builtin name) = builtin_faults table name value
named_faults table value (custom parts) = []

-- at the option
abbrev pub option_faults : Table → OptionSyntax → List Fault
option_faults table o = placed o.place (named_faults table o.value o.name)

-- of several statements
abbrev pub options_faults : Table → List OptionSyntax → List Fault
options_faults table os = flat_map (option_faults table) os
