-- What files declare of the fields of a message, by their numbers.
use Rattle.std.specs.Prelude.{ℕ, ℤ, pos, Bool, true, false, List, Option, Some, None, option_map}
use Rattle.std.specs.Prelude.{bytes_eq, codes}
use Rattle.protobuf_parse_syntax.specs.declared.tree.field.Label.{Label}
use Rattle.protobuf_parse_syntax.specs.declared.tree.field.Label.TheVariants as label
use Rattle.protobuf_parse_model.specs.Descriptors.{Text, FileDescriptor, FieldDescriptor}
use Rattle.protobuf_parse_model.specs.Descriptors.{MessageDescriptor}
use Rattle.protobuf_parse_index.specs.Lookups.{extension_numbered, field_numbered, file_named}
use Rattle.protobuf_parse_index.specs.Lookups.{message_named}
use Rattle.protobuf_parse_index.specs.Walk.{Standing}
use Rattle.protobuf_parse_decode.specs.Sorts.{Sort, sort_of}

-- what counts of a field's declaration
pub record Declared : Type 0 where
  pub sort : Sort
  pub repeated : Bool
  pub type_name : Option Text

-- the declarations of a message's fields, by their numbers
abbrev pub FieldsByNumber : Type 0
FieldsByNumber = ℕ → Option Declared

-- the fields of a message, by its name, if there is such a message
abbrev pub Enter : Type 0
Enter = Option Text → Option FieldsByNumber

-- ---- strings

-- whether a syntax is proto3
abbrev pub is_proto3_syntax : Option Text → Bool
is_proto3_syntax None = false
is_proto3_syntax (Some s) = bytes_eq s (codes "proto3")

-- whether a file has that syntax
abbrev pub is_proto3 : FileDescriptor → Bool
is_proto3 f = is_proto3_syntax f.syntax

-- the same of a file that may not be there
abbrev pub is_in_proto3 : Option FileDescriptor → Bool
is_in_proto3 None = false
is_in_proto3 (Some f) = is_proto3 f

-- whether the file of that path has it
abbrev pub path_in_proto3 : List FileDescriptor → Option Text → Bool
path_in_proto3 files None = false
path_in_proto3 files (Some path) = is_in_proto3 (file_named files path)

-- The path of the file that declares a message's field with that number: an extension, which has
-- an extendee, stands where it is declared, and each other field where the message is.
abbrev pub path_declaring : List FileDescriptor → (message : Text) → ℤ → (extendee : Option Text)
    → Option Text
path_declaring files message n None =
    option_map (λ (m : Standing MessageDescriptor). m.file) (message_named files message)
path_declaring files message n (Some extendee) =
    option_map (λ (e : Standing FieldDescriptor). e.file) (extension_numbered files message n)

-- whether a file with the syntax proto3 declares the field
unfoldable pub stands_in_proto3 : List FileDescriptor → (message : Text) → ℤ → FieldDescriptor
    → Bool
stands_in_proto3 files message n f =
    path_in_proto3 files (path_declaring files message n f.extendee)

-- ---- fields

-- whether a label is that of a repeated field
abbrev pub is_repeated : Label → Bool
is_repeated label.Optional = false
is_repeated label.Required = false
is_repeated label.Repeated = true

-- A field's declaration. A string has to be UTF-8 in proto3 (Protocol Buffers Language Guide,
-- "Scalar Value Types").
abbrev pub declaration : List FileDescriptor → (message : Text) → ℤ → FieldDescriptor → Declared
declaration files message n f = record {
  sort = sort_of (stands_in_proto3 files message n f) f.type_;
  repeated = is_repeated f.label;
  type_name = f.type_name;
}

-- The declarations of the fields of the message of that name: of its own fields, and else of its
-- extensions.
unfoldable pub declared_in : List FileDescriptor → (message : Text) → FieldsByNumber
declared_in files message n =
    option_map (declaration files message (pos n)) (field_numbered files message (pos n))

-- the messages that files declare
unfoldable pub entered : List FileDescriptor → Enter
entered files None = None
entered files (Some message) =
    option_map (λ (m : Standing MessageDescriptor). declared_in files message)
    (message_named files message)
