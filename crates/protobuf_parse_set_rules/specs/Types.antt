-- The messages and enums that the files of a set declare: by full names, each with the position of
-- its file among them. A message stands before the enums and the messages inside it.
use Rattle.std.specs.Prelude.{ℕ, List, [], ◌∷◌, ◌++◌, map, flat_map, Option, slice_get}
use Rattle.std.specs.Option.{option_and_then}
use Rattle.protobuf_parse_model.specs.Descriptors.{Text, EnumDescriptor, FileDescriptor}
use Rattle.protobuf_parse_model.specs.Descriptors.{MessageDescriptor, MessageDescriptors}
use Rattle.protobuf_parse_model.specs.Descriptors.{a_message, messages, no_messages}
use Rattle.protobuf_parse_model.specs.declared.scope.seen.TypeKind.{TypeKind}
use Rattle.protobuf_parse_model.specs.declared.scope.seen.TypeKind.TheVariants as kind
use Rattle.protobuf_parse_set_rules.specs.Names.{package_scope, within}
use Rattle.protobuf_parse_set_rules.specs.Positions.{by_position, position_in}

-- a message or an enum that is declared
pub record DeclaredType : Type 0 where
  pub name : Text
  pub kind : TypeKind
  pub file : ℕ

-- an enum of the file at that position, in the scope
abbrev pub enum_declared : ℕ → Text → EnumDescriptor → DeclaredType
enum_declared n scope e = record { name = within scope e.name; kind = kind.Enum; file = n }

abbrev mutual
  -- a message with what stands in it
  pub types_around : ℕ → Text → MessageDescriptor → List DeclaredType
  types_around n scope (a_message parts nested) =
      record { name = within scope parts.name; kind = kind.Message; file = n }
      ∷ (map (enum_declared n (within scope parts.name)) parts.enum_type
      ++ types_inside n (within scope parts.name) nested)

  -- messages that stand side by side
  pub types_inside : ℕ → Text → MessageDescriptors → List DeclaredType
  types_inside n scope no_messages = []
  types_inside n scope (messages m ms) = types_around n scope m ++ types_inside n scope ms

-- those of a file
abbrev pub file_types : ℕ → FileDescriptor → List DeclaredType
file_types n f =
    flat_map (types_around n (package_scope f.«package»)) f.message_type
    ++ map (enum_declared n (package_scope f.«package»)) f.enum_type

-- those of all files
abbrev pub set_types : List FileDescriptor → List DeclaredType
set_types files = by_position file_types 0 files

-- the name of a type
abbrev pub type_name : DeclaredType → Text
type_name t = t.name

-- the type that has the full name; of several the first
abbrev pub type_named : List DeclaredType → Text → Option DeclaredType
type_named types name =
    option_and_then (slice_get types) (position_in (map type_name types) name)
