-- What is wrong in the custom options of a file.
use Rattle.std.specs.Prelude.{ℤ, pos, int_le, not, ◌&&◌, List, [], ◌∷◌, ◌++◌, flat_map, codes}
use Rattle.std.specs.Prelude.{bytes_eq, Option, Some, None, is_some, option_to_list, if◌then◌else◌}
use Rattle.protobuf_parse_lexer.specs.Decoder.{decode, text_of}
use Rattle.protobuf_parse_syntax.specs.Trees.{Pieces, ConstantNameSyntax, regular_name}
use Rattle.protobuf_parse_syntax.specs.Trees.{extension_name, url_name, ConstantSyntax, integer}
use Rattle.protobuf_parse_syntax.specs.Trees.{truth, dotted, string, list, fields, ConstantList}
use Rattle.protobuf_parse_syntax.specs.Trees.{no_constants, more_constants, ConstantFieldList}
use Rattle.protobuf_parse_syntax.specs.Trees.{no_fields, more_fields, OptionPartSyntax, direct}
use Rattle.protobuf_parse_syntax.specs.Trees.{extension, OptionNameSyntax, builtin, custom}
use Rattle.protobuf_parse_syntax.specs.Trees.{OptionSyntax, FileSyntax}
use Rattle.protobuf_parse_model.specs.declared.error.ElabErrorKind.TheVariants.{ExtensionNotFound}
use Rattle.protobuf_parse_model.specs.declared.error.ElabErrorKind.TheVariants.{WrongExtensionType}
use Rattle.protobuf_parse_model.specs.declared.error.ElabErrorKind.TheVariants.{ExtensionIsNotMessage}
use Rattle.protobuf_parse_model.specs.declared.error.ElabErrorKind.TheVariants.{UnknownFieldName}
use Rattle.protobuf_parse_model.specs.declared.error.ElabErrorKind.TheVariants.{UnknownEnumValue}
use Rattle.protobuf_parse_model.specs.declared.error.ElabErrorKind.TheVariants.{UnsupportedExtensionType}
use Rattle.protobuf_parse_model.specs.declared.error.ElabErrorKind.TheVariants.{IntegerOutOfRange}
use Rattle.protobuf_parse_model.specs.declared.error.ElabErrorKind.TheVariants.{MessageFieldRequiresMessageConstant}
use Rattle.protobuf_parse_model.specs.declared.error.ElabErrorKind.TheVariants.{FloatOptionValue}
use Rattle.protobuf_parse_model.specs.declared.error.ElabErrorKind.TheVariants.{OptionFieldNumber}
use Rattle.protobuf_parse_model.specs.declared.error.ElabErrorKind.TheVariants.{GroupStepInOptionName}
use Rattle.protobuf_parse_model.specs.declared.error.ElabErrorKind.TheVariants.{TypeUrlInConstant}
use Rattle.protobuf_parse_model.specs.declared.error.ElabErrorKind.TheVariants.{UninterpretedOptionName}
use Rattle.protobuf_parse_model.specs.Descriptors.{Text, FieldDescriptor, FileDescriptor}
use Rattle.protobuf_parse_model.specs.Faults.{Wrong, Fault, placed}
use Rattle.protobuf_parse_model.specs.Declarations.{Declared}
use Rattle.protobuf_parse_model.specs.Duplicates.{fault, fault_when, stands_in}
use Rattle.protobuf_parse_model.specs.declared.customs.Construct.{Construct}
use Rattle.protobuf_parse_model.specs.Environment.{no_customs, part_text, option_path_text}
use Rattle.protobuf_parse_model.specs.BuiltinOptions.{Table, string_faults}
pub use Rattle.protobuf_parse_model.specs.OptionTables.{table_of, option_names_in}
use Rattle.protobuf_parse_model.specs.Linking.{before_others}
use Rattle.protobuf_parse_elaboration.specs.FileDescriptor.{environment, file_faults}
use Rattle.protobuf_parse_elaboration.specs.OptionSets.{OptionSet, option_sets}
use Rattle.protobuf_parse_wire.specs.Kinds.{shape_of_kind, fits}
use Rattle.protobuf_parse_options.specs.OptionFields.{OptionScope, options_message, field_named}
use Rattle.protobuf_parse_options.specs.OptionFields.{number_of_value, extension_meant}
use Rattle.protobuf_parse_options.specs.OptionFields.{extends_message, part_field, constant_field}
use Rattle.protobuf_parse_options.specs.OptionFields.{type_name_of, Takes, integers, truths}
use Rattle.protobuf_parse_options.specs.OptionFields.{names_of_values, texts, octets, messages}
use Rattle.protobuf_parse_options.specs.OptionFields.{floats, groups, type_takes}
use Rattle.protobuf_parse_options.specs.CustomOptions.{scope_of}

-- ---- names as they are written

-- a name in brackets, as in constants for messages
abbrev pub bracketed : Text → Text
bracketed name = codes "[" ++ name ++ codes "]"

-- ---- one value given to one field

-- E22 for a float, E19 for any other field that doesn't take such a value
abbrev pub not_taken : Text → Takes → List Wrong
not_taken name floats = fault FloatOptionValue name
not_taken name _ = fault UnsupportedExtensionType name

-- E20 for an integer that is out of range
abbrev pub integer_faults : Text → Takes → ℤ → List Wrong
integer_faults name (integers k) z =
    fault_when (not (fits (shape_of_kind k) z)) IntegerOutOfRange name
integer_faults name other z = not_taken name other

-- of `true` or `false`
abbrev pub truth_faults : Text → Takes → List Wrong
truth_faults name truths = []
truth_faults name other = not_taken name other

-- E18 for a name that no value of the enum has
abbrev pub value_name_faults : Text → Takes → Text → Option ℤ → List Wrong
value_name_faults name names_of_values value number =
    fault_when (not (is_some number)) UnknownEnumValue value
value_name_faults name other value number = not_taken name other

-- E9 for a string that says nothing; the fault tells the option's name
abbrev pub string_value_faults : Text → Text → Takes → Pieces → List Wrong
string_value_faults option name texts pieces = string_faults option (text_of pieces)
string_value_faults option name octets pieces = string_faults option (decode pieces)
string_value_faults option name other pieces = not_taken name other

-- E21 for a message constant that is given to any other field but a message
abbrev pub message_value_faults : Text → Takes → List Wrong → List Wrong
message_value_faults name messages inside = inside
message_value_faults name other inside = fault MessageFieldRequiresMessageConstant name

-- E23 for a number that can't stand in a tag
abbrev pub number_faults : FieldDescriptor → List Wrong
number_faults f =
    fault_when (not (int_le (pos 1) f.number && int_le f.number (pos 536870911))) OptionFieldNumber
    f.name

-- ---- fields and extensions

-- E17 for a name that no field of the message has
abbrev pub field_name_faults : OptionScope → Text → Text → List Wrong
field_name_faults at message name =
    fault_when (not (is_some (field_named at.files message name))) UnknownFieldName name

-- E14 for an extension that isn't found, E15 for one that extends no such message
abbrev pub extension_name_faults : List FileDescriptor → Text → Text
    → Option (Declared FieldDescriptor)
    → List Wrong
extension_name_faults files message name None = fault ExtensionNotFound name
extension_name_faults files message name (Some d) =
    fault_when (not (extends_message files message d.what)) WrongExtensionType name

-- ---- constants

-- in a constant for a message: E26 for a type URL
abbrev pub constant_name_faults : OptionScope → Text → ConstantNameSyntax → List Wrong
constant_name_faults at message (regular_name name) = field_name_faults at message name
constant_name_faults at message (extension_name name) =
    extension_name_faults at.files message name (extension_meant at name)
constant_name_faults at message (url_name name) = fault TypeUrlInConstant (bracketed name)

abbrev mutual
  -- of the constant that the option of that name gives to a field
  pub constant_faults : OptionScope → Text → FieldDescriptor → ConstantSyntax → List Wrong
  constant_faults at option f (integer z) = integer_faults f.name (type_takes f.type_) z
  constant_faults at option f (truth b) = truth_faults f.name (type_takes f.type_)
  constant_faults at option f (dotted name) =
      value_name_faults f.name (type_takes f.type_) name
      (number_of_value at.files (type_name_of f) name)
  constant_faults at option f (string pieces) =
      string_value_faults option f.name (type_takes f.type_) pieces
  constant_faults at option f (list cs) = list_faults at option f cs
  constant_faults at option f (fields fs) =
      message_value_faults f.name (type_takes f.type_) (member_faults at option (type_name_of f) fs)

  -- of each item of a list
  pub list_faults : OptionScope → Text → FieldDescriptor → ConstantList → List Wrong
  list_faults at option f no_constants = []
  list_faults at option f (more_constants c cs) =
      constant_faults at option f c ++ list_faults at option f cs

  -- of each field of a constant for that message
  pub member_faults : OptionScope → Text → Text → ConstantFieldList → List Wrong
  member_faults at option message no_fields = []
  member_faults at option message (more_fields name c fs) =
      constant_name_faults at message name
      ++ flat_map (λ (g : FieldDescriptor). number_faults g ++ constant_faults at option g c)
      (option_to_list (constant_field at message name))
      ++ member_faults at option message fs

-- ---- names

-- of a part of an option's name, which means a field of the message
abbrev pub part_faults : OptionScope → Text → OptionPartSyntax → List Wrong
part_faults at message (direct name) = field_name_faults at message name
part_faults at message (extension name) =
    extension_name_faults at.files message name (extension_meant at name)

-- where other parts follow: E24 for a group, E16 for any other field but a message
abbrev pub step_faults : Text → Takes → List Wrong → List Wrong
step_faults part messages inside = inside
step_faults part groups inside = fault GroupStepInOptionName part
step_faults part other inside = fault ExtensionIsNotMessage part

-- from the message on, for the option of that name with that value
abbrev pub path_faults : OptionScope → Text → ConstantSyntax → Text → List OptionPartSyntax
    → List Wrong
path_faults at option value message [] = []
path_faults at option value message (p ∷ []) =
    part_faults at message p
    ++ flat_map (λ (g : FieldDescriptor). number_faults g ++ constant_faults at option g value)
    (option_to_list (part_field at message p))
path_faults at option value message (p ∷ q ∷ ps) =
    part_faults at message p
    ++ flat_map (λ (g : FieldDescriptor). number_faults g
    ++ step_faults (part_text p) (type_takes g.type_)
    (path_faults at option value (type_name_of g) (q ∷ ps))) (option_to_list
    (part_field at message p))

-- A name that goes on from a built-in option: E28 from `uninterpreted_option`, E16 from any other,
-- as none is a message, E17 where there is no such option.
abbrev pub builtin_step_faults : Table → Text → List Wrong
builtin_step_faults table name =
    if bytes_eq name (codes "uninterpreted_option") then fault UninterpretedOptionName name
    else (if stands_in name (option_names_in table) then fault ExtensionIsNotMessage name
    else fault UnknownFieldName name)

-- of a name by its parts: it begins at the options message of the construct
abbrev pub custom_faults : OptionScope → Construct → ConstantSyntax → List OptionPartSyntax
    → List Wrong
custom_faults at construct value [] = []
custom_faults at construct value (direct name ∷ ps) = builtin_step_faults (table_of construct) name
custom_faults at construct value (extension name ∷ ps) =
    path_faults at (option_path_text (extension name ∷ ps)) value (options_message construct)
    (extension name ∷ ps)

-- of an option, where it is custom
abbrev pub custom_name_faults : OptionScope → Construct → ConstantSyntax → OptionNameSyntax
    → List Wrong
custom_name_faults at construct value (builtin name) = []
custom_name_faults at construct value (custom parts) = custom_faults at construct value parts

-- ---- the statements of a construct, and of a file

-- the first, if there is one
abbrev pub first_of : List Wrong → List Wrong
first_of [] = []
first_of (w ∷ ws) = w ∷ []

-- Of each option the first thing that is wrong in it, at the option.
abbrev pub option_faults_at : OptionScope → Construct → OptionSyntax → List Fault
option_faults_at at construct o =
    placed o.place (first_of (custom_name_faults at construct o.value o.name))

-- of several statements
abbrev pub custom_statement_faults : OptionScope → Construct → List OptionSyntax → List Fault
custom_statement_faults at construct os = flat_map (option_faults_at at construct) os

-- of all sets of options of a file
abbrev pub custom_option_faults : (files visible : List FileDescriptor) → FileSyntax → List Fault
custom_option_faults files visible t =
    flat_map
    (λ (s : OptionSet). custom_statement_faults (scope_of files visible s) s.construct s.statements)
    (option_sets t)

-- The faults that stand in a file which sees the trees `seen`, in three steps, of which each later
-- one is looked at only where no earlier one has a fault: those of names that are declared twice in
-- what it reaches, which are given; its own, its custom options left out; and, since its descriptor
-- says then what every type is, those of its custom options, by the descriptors of the files that
-- it reaches and of those that it sees.
abbrev pub elaboration_faults : (repeats : List Fault) (seen : List FileSyntax)
    (files visible : List FileDescriptor) → FileSyntax → List Fault
elaboration_faults repeats seen files visible t =
    before_others repeats
    (before_others (file_faults (environment seen no_customs t) t)
    (custom_option_faults files visible t))
