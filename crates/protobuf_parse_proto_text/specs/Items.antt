-- What is said of a construct by options: `NAME = VALUE` each, and what can't be told.
use Rattle.std.specs.Prelude.{ℕ, ℤ, pos, Bool, List, [], ◌∷◌, ◌++◌, map, flat_map}
use Rattle.std.specs.Prelude.{codes, Option, Some, None, Ok, Err, unwrap_or}
use Rattle.std.specs.Prelude.{if◌then◌else◌, ◌==◌}
use Rattle.std.specs.Fmt.{signed_decimal}
use Rattle.hex.specs.Hex.{encode_lower}
use Rattle.protobuf_parse_base.specs.Characters as char
use Rattle.protobuf_parse_model.specs.Descriptors.{Text, FileDescriptor, FieldDescriptor}
use Rattle.protobuf_parse_model.specs.Options.{FileOptionValues, MessageOptionValues}
use Rattle.protobuf_parse_model.specs.Options.{FieldOptionValues, OneofOptionValues}
use Rattle.protobuf_parse_model.specs.Options.{EnumOptionValues, EnumValueOptionValues}
use Rattle.protobuf_parse_model.specs.Options.{ServiceOptionValues, MethodOptionValues}
use Rattle.protobuf_parse_wire.specs.Trees.{ValueTree, Fields, number, truth, bytes, message}
use Rattle.protobuf_parse_wire.specs.Trees.{no_fields, field}
use Rattle.protobuf_parse_wire.specs.Reading.{WireRead}
use Rattle.protobuf_parse_index.specs.Walk.{Standing}
use Rattle.protobuf_parse_index.specs.Lookups.{field_numbered, extension_numbered, value_name}
use Rattle.protobuf_parse_index.specs.Options.{Named, options_said, without_dot}
use Rattle.protobuf_parse_listing.specs.Listing.{Setting, quoted, listed_truth, truth_setting, line}
use Rattle.protobuf_parse_listing.specs.Listing.{first_file_settings, middle_file_settings}
use Rattle.protobuf_parse_listing.specs.Listing.{last_file_settings, message_settings}
use Rattle.protobuf_parse_listing.specs.Listing.{field_settings, enum_settings, method_settings}

-- ---- built-in options

-- a name and its value
abbrev pub item : Text → Text → Text
item name value = name ++ codes " = " ++ value

-- an option, where it is set
abbrev pub item_if_some : Text → Option Text → List Text
item_if_some name None = []
item_if_some name (Some value) = item name value ∷ []

-- a built-in option, where it is set
abbrev pub setting_items : Setting → List Text
setting_items s = item_if_some s.0 s.1

-- those of some options that are set
abbrev pub set_items : List Setting → List Text
set_items settings = flat_map setting_items settings

-- ---- values of custom options

-- the full name of the type that a field holds, or no text
abbrev pub type_name_of : FieldDescriptor → Text
type_name_of f = unwrap_or f.type_name []

-- the name of an enum's value, or else the number
abbrev pub number_words : Option Text → ℤ → Text
number_words (Some name) n = name
number_words None n = signed_decimal n

-- an extension by its full name in brackets
abbrev pub extension_inside : Option (Standing FieldDescriptor) → ℤ → Text
extension_inside (Some e) n = codes "[" ++ without_dot e.name ++ codes "]"
extension_inside None n = signed_decimal n

-- a field by its name, where it extends nothing
abbrev pub own_or : Option Text → (name other : Text) → Text
own_or None name other = name
own_or (Some extendee) name other = other

-- A field inside a message: by its name, or as an extension. What is unknown goes by its number.
abbrev pub name_inside : Option FieldDescriptor → Option (Standing FieldDescriptor) → ℤ → Text
name_inside (Some f) e n = own_or f.extendee f.name (extension_inside e n)
name_inside None e n = signed_decimal n

-- the field of that number inside the message of that name
abbrev pub inner_name : List FileDescriptor → (of : Text) → ℕ → Text
inner_name files of n = name_inside (field_numbered files of (pos n))
    (extension_numbered files of (pos n)) (pos n)

-- the full name of the type that a field holds, if one is known
abbrev pub type_if_some : Option FieldDescriptor → Text
type_if_some None = []
type_if_some (Some f) = type_name_of f

-- the same of the field of that number
abbrev pub inner_type : List FileDescriptor → (of : Text) → ℕ → Text
inner_type files of n = type_if_some (field_numbered files of (pos n))

abbrev mutual
  -- a value whose enum or message has the name
  pub value_text : List FileDescriptor → (of : Text) → ValueTree → Text
  value_text files of (number n) = number_words (value_name files of n) n
  value_text files of (truth b) = listed_truth b
  value_text files of (bytes bs) = quoted bs
  value_text files of (message fs) = codes "{" ++ inner_text files of fs ++ codes " }"

  -- the fields of a message of that name: ` NAME: VALUE` each
  pub inner_text : List FileDescriptor → (of : Text) → Fields → Text
  inner_text files of no_fields = []
  inner_text files of (field n v fs) =
      codes " " ++ inner_name files of n ++ codes ": " ++ value_text files (inner_type files of n) v
      ++ inner_text files of fs

-- `(shop.owner)` as `(.shop.owner)`, which nothing hides
abbrev pub rooted : Text → Text
rooted [] = []
rooted (c ∷ cs) = if c == char.open_paren then codes "(." ++ cs else c ∷ cs

-- a custom option
abbrev pub named_item : List FileDescriptor → Named → Text
named_item files o = item (rooted o.name) (value_text files (type_name_of o.field) o.value)

-- ---- what is said of a construct

-- options as `NAME = VALUE`, and the bytes of custom ones that can't be told in hexadecimal digits
pub record Said : Type 0 where
  pub items : List Text
  pub untold : Option Text

-- nothing is said of what has no options
abbrev pub nothing : Said
nothing = record { items = []; untold = None }

-- the built-in ones and the custom ones that were read
abbrev pub told_said : List FileDescriptor → (built_in : List Text) → List Named → Said
told_said files built_in options =
    record { items = built_in ++ map (named_item files) options; untold = None }

-- the built-in ones, and the bytes of those that can't be told
abbrev pub untold_said : (built_in : List Text) → List ℕ → Said
untold_said built_in bs = record { items = built_in; untold = Some (encode_lower bs) }

-- by what was read of the bytes
abbrev pub said_by : List FileDescriptor → (built_in : List Text) → List ℕ → WireRead (List Named)
    → Said
said_by files built_in bs (Ok options) = told_said files built_in options
said_by files built_in bs (Err fault) = untold_said built_in bs

-- the built-in ones, and the custom ones of that options message
unfoldable pub said_of : List FileDescriptor → (of : Text) → (built_in : List Text) → List ℕ → Said
said_of files of built_in bs = said_by files built_in bs (options_said files of bs)

-- of a file
abbrev pub file_said : List FileDescriptor → Option FileOptionValues → Said
file_said files None = nothing
file_said files (Some o) = said_of files (codes ".google.protobuf.FileOptions")
    (set_items (first_file_settings o) ++ set_items (middle_file_settings o)
    ++ set_items (last_file_settings o)) o.custom

-- of a message
abbrev pub message_said : List FileDescriptor → Option MessageOptionValues → Said
message_said files None = nothing
message_said files (Some o) = said_of files (codes ".google.protobuf.MessageOptions")
    (set_items (message_settings o)) o.custom

-- of a field, behind what is said already
abbrev pub field_said : List FileDescriptor → (already : List Text) → Option FieldOptionValues
    → Said
field_said files already None = record { items = already; untold = None }
field_said files already (Some o) = said_of files (codes ".google.protobuf.FieldOptions")
    (already ++ set_items (field_settings o)) o.custom

-- of a oneof
abbrev pub oneof_said : List FileDescriptor → Option OneofOptionValues → Said
oneof_said files None = nothing
oneof_said files (Some o) = said_of files (codes ".google.protobuf.OneofOptions") [] o.custom

-- of an enum
abbrev pub enum_said : List FileDescriptor → Option EnumOptionValues → Said
enum_said files None = nothing
enum_said files (Some o) =
    said_of files (codes ".google.protobuf.EnumOptions") (set_items (enum_settings o)) o.custom

-- the option `deprecated`, where it is set
abbrev pub deprecated_alone : Option Bool → List Text
deprecated_alone deprecated = setting_items (truth_setting (codes "deprecated") deprecated)

-- of an enum's value
abbrev pub value_said : List FileDescriptor → Option EnumValueOptionValues → Said
value_said files None = nothing
value_said files (Some o) = said_of files (codes ".google.protobuf.EnumValueOptions")
    (deprecated_alone o.deprecated) o.custom

-- of a service
abbrev pub service_said : List FileDescriptor → Option ServiceOptionValues → Said
service_said files None = nothing
service_said files (Some o) = said_of files (codes ".google.protobuf.ServiceOptions")
    (deprecated_alone o.deprecated) o.custom

-- of a method
abbrev pub method_said : List FileDescriptor → Option MethodOptionValues → Said
method_said files None = nothing
method_said files (Some o) =
    said_of files (codes ".google.protobuf.MethodOptions") (set_items (method_settings o)) o.custom

-- ---- how it is written

-- a comment with the bytes that can't be told, where there are any
abbrev pub untold_line : ℕ → Option Text → Text
untold_line level None = []
untold_line level (Some digits) =
    line level (codes "// custom options that can't be told: " ++ digits)

-- an option as a statement
abbrev pub option_line : ℕ → Text → Text
option_line level i = line level (codes "option " ++ i ++ codes ";")

-- options as statements, one on a line
unfoldable pub said_lines : ℕ → Said → Text
said_lines level said = untold_line level said.untold ++ flat_map (option_line level) said.items

-- an option behind a comma
abbrev pub after_comma : Text → Text
after_comma i = codes ", " ++ i

-- options in brackets, where there are any
abbrev pub brackets : List Text → Text
brackets [] = []
brackets (i ∷ is) = codes " [" ++ i ++ flat_map after_comma is ++ codes "]"
