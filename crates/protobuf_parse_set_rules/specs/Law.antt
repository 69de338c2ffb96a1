-- What follows where nothing is told of a set: each field of a message, group or enum type has the
-- full name of one that is declared in its own file or in one before it.
use Rattle.std.specs.Prelude.{◌≡◌, ℕ, ◌≤◌, List, [], ◌++◌, flat_map, Option, Some, slice_get}
use Rattle.std.specs.List.{All}
use Rattle.std.specs.Option.{option_and_then}
use Rattle.protobuf_parse_model.specs.Descriptors.{Text, FieldDescriptor, FileDescriptor}
use Rattle.protobuf_parse_model.specs.Descriptors.{MessageDescriptor, MessageDescriptors}
use Rattle.protobuf_parse_model.specs.Descriptors.{a_message, messages, no_messages}
use Rattle.protobuf_parse_model.specs.declared.descriptor.FieldType.{FieldType}
use Rattle.protobuf_parse_model.specs.declared.descriptor.FieldType.TheVariants as type
use Rattle.protobuf_parse_model.specs.declared.scope.seen.TypeKind.{TypeKind}
use Rattle.protobuf_parse_model.specs.declared.scope.seen.TypeKind.TheVariants as kind
use Rattle.protobuf_parse_set_rules.specs.Rules.{set_breaches}
use Rattle.protobuf_parse_set_rules.specs.Types.{DeclaredType, set_types, type_named}

abbrev mutual
  -- the fields and extensions of a message and of those inside it
  pub fields_around : MessageDescriptor → List FieldDescriptor
  fields_around (a_message parts nested) =
      parts.field ++ (parts.extension ++ fields_inside nested)

  -- of messages that stand side by side
  pub fields_inside : MessageDescriptors → List FieldDescriptor
  fields_inside no_messages = []
  fields_inside (messages m ms) = fields_around m ++ fields_inside ms

-- those of a file
abbrev pub fields_of : FileDescriptor → List FieldDescriptor
fields_of f = flat_map fields_around f.message_type ++ f.extension

-- A type of that kind has the full name, and is declared in the file at position n of the set or in
-- one before it.
abbrev pub IsDeclared : List FileDescriptor → ℕ → TypeKind → Option Text → Type 0
IsDeclared files n k name =
    (t : DeclaredType) × (option_and_then (type_named (set_types files)) name ≡ Some t)
    × (t.kind ≡ k) × (t.file ≤ n)

-- That is so of a field of this type that names one.
abbrev pub NamesOne : List FileDescriptor → ℕ → FieldType → Option Text → Type 0
NamesOne files n type.Message name = IsDeclared files n kind.Message name
NamesOne files n type.Group name = IsDeclared files n kind.Message name
NamesOne files n type.Enum name = IsDeclared files n kind.Enum name
NamesOne files n _ name = Unit {0}

-- Where nothing is told of a set, that is so of each field and extension of each of its files.
abbrev pub TypesAreDeclared : Type 0
TypesAreDeclared =
    (files : List FileDescriptor) → set_breaches files ≡ [] → (n : ℕ) (f : FileDescriptor)
    → slice_get files n ≡ Some f
    → All (λ (d : FieldDescriptor). NamesOne files n d.type_ d.type_name) (fields_of f)
