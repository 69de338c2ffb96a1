-- Custom options by their names.
use Rattle.std.specs.Prelude.{ℕ, pos, ℤ, List, [], ◌∷◌, ◌++◌, Option, Some, None, Ok, Err, codes}
use Rattle.std.specs.Prelude.{if◌then◌else◌, ◌==◌, string_bytes}
use Rattle.protobuf_parse_base.specs.Characters as char
use Rattle.protobuf_parse_model.specs.Descriptors.{Text, FileDescriptor, FieldDescriptor}
use Rattle.protobuf_parse_model.specs.Descriptors.{field_view}
use Rattle.protobuf_parse_wire.specs.declared.fault.ReadFault.TheVariants.{UnknownNumber}
use Rattle.protobuf_parse_wire.specs.Reading.{WireRead, ◌>>=◌, reader}
use Rattle.protobuf_parse_wire.specs.Trees.{Field, ValueTree}
use Rattle.protobuf_parse_wire.specs.Views.{read_value_view}
use Rattle.protobuf_parse_index.specs.Lookups.{extension_numbered, field_numbered, own_field}
use Rattle.protobuf_parse_index.specs.Walk.{Standing}
use Rattle.protobuf_parse_index.specs.declared.options.NamedOption as code

-- a full name without its first dot
abbrev pub without_dot : Text → Text
without_dot [] = []
without_dot (c ∷ cs) = if c == char.dot then cs else c ∷ cs

-- ---- names in options

-- an extension's full name in parentheses, without its first dot
abbrev pub extension_name : Option (Standing FieldDescriptor) → Option Text
extension_name None = None
extension_name (Some e) = Some (codes "(" ++ without_dot e.name ++ codes ")")

-- a field that the message declares by its name; an extension by its full name in parentheses
abbrev pub name_of : Option FieldDescriptor → Option (Standing FieldDescriptor) → Option Text
name_of (Some own) extension = Some own.name
name_of None extension = extension_name extension

-- what statements of options call the field of that number
abbrev pub name_in_options : List FileDescriptor → (message : Text) → ℤ → Option Text
name_in_options files message n =
    name_of (own_field files message n) (extension_numbered files message n)

-- ---- custom options

-- a custom option: what statements call it, the descriptor of its extension, and its value
pub record Named : Type 0 where
  pub name : Text
  pub field : FieldDescriptor
  pub value : ValueTree

-- a field that was read, by its name and its descriptor; a number without these is told
abbrev pub named_as : Option Text → Option FieldDescriptor → ValueTree → WireRead Named
named_as (Some name) (Some field) value =
    Ok (record { name = name; field = field; value = value })
named_as (Some name) None value = Err UnknownNumber
named_as None field value = Err UnknownNumber

-- a field of the options message that was read
abbrev pub name_one : List FileDescriptor → (message : Text) → Field → WireRead Named
name_one files message f =
    named_as (name_in_options files message (pos f.number))
    (field_numbered files message (pos f.number)) f.value

-- the fields that were read, in order
abbrev pub name_each : List FileDescriptor → (message : Text) → List Field → WireRead (List Named)
name_each files message [] = Ok []
name_each files message (f ∷ fs) = do
  first ← name_one files message f
  others ← name_each files message fs
  Ok (first ∷ others)

-- The custom options that the bytes of the options message say, or what is wrong with the bytes.
-- No bytes say none.
abbrev pub options_said : List FileDescriptor → (message : Text) → List ℕ → WireRead (List Named)
options_said files message [] = Ok []
options_said files message (b ∷ bs) = do
  fields ← reader files message (b ∷ bs)
  name_each files message fields

-- what the Rust value says
abbrev pub named_option_view : code.NamedOption → Named
named_option_view o = record {
  name = string_bytes o.name;
  field = field_view o.field.now;
  value = read_value_view o.value;
}
