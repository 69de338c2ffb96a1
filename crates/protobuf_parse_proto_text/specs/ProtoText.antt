-- The text of a descriptor in the language of `.proto` files.
use Rattle.std.specs.Prelude.{ℕ, ℤ, pos, ◌-ℤ◌, ◌+◌, ◌*◌, ◌&&◌, not, Bool, true, false}
use Rattle.std.specs.Prelude.{List, [], ◌∷◌, ◌++◌, map, flat_map, codes, replicate, Option, Some}
use Rattle.std.specs.Prelude.{None}
use Rattle.std.specs.Prelude.{bytes_eq, length, slice_get, if◌then◌else◌}
use Rattle.std.specs.Fmt.{signed_decimal}
use Rattle.std.specs.Ordering.{int_eq}
use Rattle.protobuf_parse_base.specs.Characters as char
use Rattle.protobuf_parse_base.specs.Cases.{json_name_text}
use Rattle.protobuf_parse_model.specs.declared.descriptor.FieldType.{FieldType}
use Rattle.protobuf_parse_model.specs.declared.descriptor.FieldType.TheVariants as kind
use Rattle.protobuf_parse_model.specs.Words.{label_word, type_word}
use Rattle.protobuf_parse_model.specs.Descriptors.{Text, Range, FieldDescriptor, FileDescriptor}
use Rattle.protobuf_parse_model.specs.Descriptors.{EnumValueDescriptor}
use Rattle.protobuf_parse_model.specs.Descriptors.{EnumDescriptor, MethodDescriptor}
use Rattle.protobuf_parse_model.specs.Descriptors.{ServiceDescriptor, MessageParts}
use Rattle.protobuf_parse_model.specs.Descriptors.{MessageDescriptor, MessageDescriptors}
use Rattle.protobuf_parse_model.specs.Descriptors.{a_message, no_messages, messages}
use Rattle.protobuf_parse_model.specs.Descriptors.{messages_of_list}
use Rattle.protobuf_parse_wire.specs.Declarations.{name_within, package_scope}
use Rattle.protobuf_parse_listing.specs.Listing.{line, quoted, is_named, is_position, import_words}
use Rattle.protobuf_parse_proto_text.specs.Pieces.{blank, close, quoted_line, range_line}
use Rattle.protobuf_parse_proto_text.specs.Pieces.{reserved_name_line}
use Rattle.protobuf_parse_proto_text.specs.Items.{item, type_name_of, Said, file_said, message_said}
use Rattle.protobuf_parse_proto_text.specs.Items.{field_said, oneof_said, enum_said, value_said}
use Rattle.protobuf_parse_proto_text.specs.Items.{service_said, method_said, said_lines}
use Rattle.protobuf_parse_proto_text.specs.Items.{untold_line, brackets}
use Rattle.protobuf_parse_proto_text.specs.Order.{Block, alone, in_oneof, extending, Member, Part}
use Rattle.protobuf_parse_proto_text.specs.Order.{begins, ends, declares, holds, is_repeated}
use Rattle.protobuf_parse_proto_text.specs.Order.{message_members, extension_members, parts_of}

-- ---- enums

-- a value, with its options in brackets
unfoldable pub value_words : (said : Said) → EnumValueDescriptor → Text
value_words said v =
    v.name ++ codes " = " ++ signed_decimal v.number ++ brackets said.items ++ codes ";\n"

-- the line of a value, below a comment where some of its options can't be told
abbrev pub value_line_of : ℕ → (said : Said) → EnumValueDescriptor → Text
value_line_of level said v = untold_line level said.untold
    ++ (replicate (2 * level) char.space ++ value_words said v)

-- a value of an enum
abbrev pub value_line : List FileDescriptor → ℕ → EnumValueDescriptor → Text
value_line files level v = value_line_of level (value_said files v.options) v

-- a reserved range of an enum, both ends among it
abbrev pub enum_range_line : ℕ → Range → Text
enum_range_line level r = range_line level (codes "reserved ") r.start r.end false

-- what stands in the braces of an enum
unfoldable pub enum_body : List FileDescriptor → ℕ → EnumDescriptor → Text
enum_body files level e =
    said_lines level (enum_said files e.options) ++ flat_map (value_line files level) e.value
    ++ flat_map (enum_range_line level) e.reserved_range
    ++ flat_map (reserved_name_line level) e.reserved_name

-- an enum
abbrev pub enum_text : List FileDescriptor → ℕ → EnumDescriptor → Text
enum_text files level e =
    blank level ++ line level (codes "enum " ++ e.name ++ codes " {")
    ++ enum_body files (level + 1) e ++ close level

-- ---- services

-- what a method takes or gives
abbrev pub payload : (is_stream : Bool) → Text → Text
payload true name = codes "(stream " ++ name ++ codes ")"
payload false name = codes "(" ++ name ++ codes ")"

-- `rpc F(stream .a.Q) returns (.a.R)`
unfoldable pub method_front : MethodDescriptor → Text
method_front m =
    codes "  rpc " ++ m.name ++ payload m.client_streaming m.input_type ++ codes " returns "
    ++ payload m.server_streaming m.output_type

-- the end of a method, with these statements in braces if there are any
abbrev pub method_back : Text → Text
method_back [] = codes ";\n"
method_back (c ∷ cs) = codes " {\n" ++ c ∷ cs ++ close 1

-- a method
abbrev pub method_text : List FileDescriptor → MethodDescriptor → Text
method_text files m = method_front m ++ method_back (said_lines 2 (method_said files m.options))

-- a service
abbrev pub service_text : List FileDescriptor → ServiceDescriptor → Text
service_text files s =
    blank 0 ++ line 0 (codes "service " ++ s.name ++ codes " {")
    ++ said_lines 1 (service_said files s.options) ++ flat_map (method_text files) s.method
    ++ close 0

-- ---- fields

-- a type: the full name of one that is declared elsewhere
abbrev pub type_text : FieldDescriptor → Text
type_text f = if is_named f.type_ then type_name_of f else type_word f.type_

-- whether no label is written: in proto3 only `repeated` is, and an `optional` that was
abbrev pub hides_label : (proto3 : Bool) → FieldDescriptor → Bool
hides_label proto3 f = proto3 && (not (is_repeated f.label) && not f.proto3_optional)

-- a label
abbrev pub label_text : (proto3 : Bool) → FieldDescriptor → Text
label_text proto3 f = if hides_label proto3 f then [] else label_word f.label ++ codes " "

-- in a oneof no label is written
abbrev pub label_in : (proto3 : Bool) → Block → FieldDescriptor → Text
label_in proto3 (in_oneof i o) f = []
label_in proto3 (extending e) f = label_text proto3 f
label_in proto3 alone f = label_text proto3 f

-- `map<KEY, VALUE> `, by the fields of the entry
abbrev pub map_text : List FieldDescriptor → Text
map_text (key ∷ value ∷ []) =
    codes "map<" ++ type_text key ++ codes ", " ++ type_text value ++ codes "> "
map_text _ = []

-- whether it is a group
abbrev pub is_group : FieldType → Bool
is_group kind.Group = true
is_group _ = false

-- what stands before the number of a field that makes a message: a group, or a map
abbrev pub made_words : (proto3 : Bool) → Member → MessageParts → Text
made_words proto3 m parts =
    if is_group m.field.type_
    then label_in proto3 m.block m.field ++ codes "group " ++ parts.name
    else map_text parts.field ++ m.field.name

-- what stands before the number
abbrev pub member_words : (proto3 : Bool) → Member → Option MessageParts → Text
member_words proto3 m None =
    label_in proto3 m.block m.field ++ type_text m.field ++ codes " " ++ m.field.name
member_words proto3 m (Some parts) = made_words proto3 m parts

-- A default: a string is escaped and in quotes, and bytes, which are escaped already, in quotes.
abbrev pub default_text : FieldType → Text → Text
default_text kind.String value = quoted value
default_text kind.Bytes value = char.quote ∷ value ++ char.quote ∷ []
default_text _ value = value

-- the default, where there is one
abbrev pub default_items : FieldType → Option Text → List Text
default_items type_ None = []
default_items type_ (Some value) = item (codes "default") (default_text type_ value) ∷ []

-- the name in JSON, where it isn't the one that comes of the field's name
abbrev pub json_items : FieldDescriptor → List Text
json_items f = if bytes_eq (json_name_text f.name) f.json_name then [] else
    item (codes "json_name") (quoted f.json_name) ∷ []

-- what stands in brackets behind a field, and above it
abbrev pub said_of_field : List FileDescriptor → FieldDescriptor → Said
said_of_field files f =
    field_said files (default_items f.type_ f.default_value ++ json_items f) f.options

-- a field up to its end
abbrev pub front_of : (proto3 : Bool) → ℕ → (said : Said) → Member → Option MessageParts → Text
front_of proto3 level said m made =
    untold_line level said.untold ++ replicate (2 * level) char.space ++ member_words proto3 m made
    ++ (codes " = " ++ signed_decimal m.field.number ++ brackets said.items)

-- a field up to its end, which is a semicolon or the body of a group
unfoldable pub member_front : List FileDescriptor → (proto3 : Bool) → ℕ → Member
    → Option MessageParts → Text
member_front files proto3 level m made =
    front_of proto3 level (said_of_field files m.field) m made

-- how far in the fields of the block stand
abbrev pub level_in : ℕ → Block → ℕ
level_in level alone = level
level_in level (in_oneof i o) = level + 1
level_in level (extending e) = level + 1

-- the opening of a block, with the options of a oneof
unfoldable pub opening : List FileDescriptor → ℕ → Block → Text
opening files level alone = []
opening files level (in_oneof i o) =
    line level (codes "oneof " ++ o.name ++ codes " {")
    ++ said_lines (level + 1) (oneof_said files o.options)
opening files level (extending e) =
    blank level ++ line level (codes "extend " ++ e ++ codes " {")

-- the end of a block
unfoldable pub closing : ℕ → Block → Text
closing level alone = []
closing level (in_oneof i o) = close level
closing level (extending e) = close level

-- ---- messages

-- a range for extensions, or a reserved one, whose end is behind it
abbrev pub numbers_line : ℕ → Text → Range → Text
numbers_line level words r =
    range_line level words r.start (r.end -ℤ pos 1) (int_eq r.end (pos 536870912))

-- the ranges and the reserved names of a message
unfoldable pub message_ranges : ℕ → MessageParts → Text
message_ranges level m =
    flat_map (numbers_line level (codes "extensions ")) m.extension_range
    ++ flat_map (numbers_line level (codes "reserved ")) m.reserved_range
    ++ flat_map (reserved_name_line level) m.reserved_name

-- a message that stands in another or in a file: what it says itself, and the text in its braces
pub record Inner : Type 0 where
  pub parts : MessageParts
  pub body : ℕ → Text

-- a message
abbrev pub message_text : ℕ → Inner → Text
message_text level i =
    blank level ++ line level (codes "message " ++ i.parts.name ++ codes " {")
    ++ i.body (level + 1) ++ close level

-- a message, if there is one
abbrev pub message_if_some : ℕ → Option Inner → Text
message_if_some level None = []
message_if_some level (Some i) = message_text level i

-- the message that stands at the position
abbrev pub inner_at : List Inner → Option ℕ → Option Inner
inner_at inner None = None
inner_at inner (Some at) = slice_get inner at

-- the end of a field: the body of a group, or a semicolon
abbrev pub member_back : ℕ → (is_group : Bool) → Option Inner → Text
member_back level group None = codes ";\n"
member_back level true (Some i) = codes " {\n" ++ i.body (level + 1) ++ close level
member_back level false (Some i) = codes ";\n"

-- what a message says itself
abbrev pub parts_if_some : Option Inner → Option MessageParts
parts_if_some None = None
parts_if_some (Some i) = Some i.parts

-- a field or an extension, at the level of its block
abbrev pub member_at : List FileDescriptor → (proto3 : Bool) → ℕ → Member → Option Inner → Text
member_at files proto3 level m i =
    member_front files proto3 level m (parts_if_some i)
    ++ member_back level (is_group m.field.type_) i

-- a field or an extension
abbrev pub member_text : List FileDescriptor → (proto3 : Bool) → ℕ → List Inner → Member → Text
member_text files proto3 level inner m =
    member_at files proto3 (level_in level m.block) m (inner_at inner m.made)

-- a part of a body
abbrev pub part_text : List FileDescriptor → (proto3 : Bool) → ℕ → List Inner → Part → Text
part_text files proto3 level inner (begins b) = opening files level b
part_text files proto3 level inner (ends b) = closing level b
part_text files proto3 level inner (declares m) = member_text files proto3 level inner m
part_text files proto3 level inner (holds at) = message_if_some level (slice_get inner at)

-- the options and the enums of a message
unfoldable pub body_front : List FileDescriptor → ℕ → MessageParts → Text
body_front files level m = said_lines level (message_said files m.options)
    ++ flat_map (enum_text files level) m.enum_type

-- the parts of the messages
abbrev pub parts_of_inner : List Inner → List MessageParts
parts_of_inner inner = map (λ (i : Inner). i.parts) inner

-- the fields, the extensions and the messages of a message that has the full name
abbrev pub body_parts : (scope : Text) → MessageParts → List Inner → List Part
body_parts scope m inner = parts_of (length inner) (message_members scope (parts_of_inner inner) m)

-- what stands in the braces of a message that has the full name
unfoldable pub body_of : List FileDescriptor → (proto3 : Bool) → (scope : Text) → MessageParts
    → List Inner → ℕ → Text
body_of files proto3 scope m inner level =
    body_front files level m
    ++ flat_map (part_text files proto3 level inner) (body_parts scope m inner)
    ++ message_ranges level m

abbrev mutual
  -- a message in the scope
  pub inner_of : List FileDescriptor → (proto3 : Bool) → (scope : Text) → MessageDescriptor → Inner
  inner_of files proto3 scope (a_message m nested) = record {
    parts = m;
    body =
        body_of files proto3 (name_within scope m.name) m
        (all_inner files proto3 (name_within scope m.name) nested);
  }

  -- messages that stand side by side
  pub all_inner : List FileDescriptor → (proto3 : Bool) → (scope : Text) → MessageDescriptors
      → List Inner
  all_inner files proto3 scope no_messages = []
  all_inner files proto3 scope (messages m ms) =
      inner_of files proto3 scope m ∷ all_inner files proto3 scope ms

-- ---- files

-- the syntax, `proto2` where none is given
abbrev pub syntax_of : Option Text → Text
syntax_of None = codes "proto2"
syntax_of (Some syntax) = syntax

-- whether it is proto3
abbrev pub is_proto3 : Option Text → Bool
is_proto3 None = false
is_proto3 (Some syntax) = bytes_eq syntax (codes "proto3")

-- a package whose name is not empty
abbrev pub named_package : Text → Text
named_package [] = []
named_package (c ∷ cs) = blank 0 ++ line 0 (codes "package " ++ c ∷ cs ++ codes ";")

-- the package, where there is one
abbrev pub package_text : Option Text → Text
package_text None = []
package_text (Some name) = named_package name

-- the imports from the position i on, with the positions of the public and of the weak ones
abbrev pub import_lines : (public weak : List ℤ) → ℕ → List Text → Text
import_lines public weak i [] = []
import_lines public weak i (path ∷ paths) =
    quoted_line (import_words (is_position i public) (is_position i weak)) path
    ++ import_lines public weak (i + 1) paths

-- the imports, with an empty line before them where there are any
abbrev pub imports_before : (public weak : List ℤ) → List Text → Text
imports_before public weak [] = []
imports_before public weak (path ∷ paths) =
    blank 0 ++ import_lines public weak 0 (path ∷ paths)

-- the imports of a file
abbrev pub imports_text : FileDescriptor → Text
imports_text f = imports_before f.public_dependency f.weak_dependency f.dependency

-- lines with an empty line before them, where there are any
abbrev pub part_if_any : Text → Text
part_if_any [] = []
part_if_any (c ∷ cs) = blank 0 ++ c ∷ cs

-- the syntax, the package and the imports
unfoldable pub file_front : FileDescriptor → Text
file_front f =
    quoted_line (codes "syntax = ") (syntax_of f.syntax) ++ package_text f.«package»
    ++ imports_text f

-- the messages of a file
abbrev pub file_inner : List FileDescriptor → FileDescriptor → List Inner
file_inner files f = all_inner files (is_proto3 f.syntax) (package_scope f.«package»)
    (messages_of_list f.message_type)

-- its messages and extensions in order
abbrev pub file_parts : FileDescriptor → List Inner → List Part
file_parts f inner = parts_of (length inner)
    (extension_members (package_scope f.«package») (parts_of_inner inner) f.extension)

-- its messages and extensions
abbrev pub file_declared : List FileDescriptor → FileDescriptor → List Inner → Text
file_declared files f inner =
    flat_map (part_text files (is_proto3 f.syntax) 0 inner) (file_parts f inner)

-- The text of a file: its front, its options, its enums, its messages and extensions, and its
-- services. The files, one of which it may be, are those that custom options are told by.
abbrev pub file_text : List FileDescriptor → FileDescriptor → Text
file_text files f =
    file_front f ++ part_if_any (said_lines 0 (file_said files f.options))
    ++ flat_map (enum_text files 0) f.enum_type ++ file_declared files f (file_inner files f)
    ++ flat_map (service_text files) f.service
