-- What a file's descriptor declares, by full names and by the paths of `SourceCodeInfo`, in the
-- order of the paths. The numbers are those of the fields in descriptor.proto. Protocol Buffers
-- Language Guide (proto2), "Packages and Name Resolution" (https://protobuf.dev).
use Rattle.std.specs.Prelude.{ℕ, ◌+◌, ℤ, pos, negsuc, ◌==◌, ◌&&◌, Bool, false, List, [], ◌∷◌, ◌++◌}
use Rattle.std.specs.Prelude.{Option, Some, None, if◌then◌else◌}
use Rattle.std.specs.List.{list_any}
use Rattle.protobuf_parse_model.specs.Descriptors.{Text, FileDescriptor, FieldDescriptor}
use Rattle.protobuf_parse_model.specs.Descriptors.{EnumDescriptor, EnumValueDescriptor}
use Rattle.protobuf_parse_model.specs.Descriptors.{MessageDescriptor, MessageDescriptors}
use Rattle.protobuf_parse_model.specs.Descriptors.{MessageParts, MethodDescriptor}
use Rattle.protobuf_parse_model.specs.Descriptors.{OneofDescriptor, ServiceDescriptor, a_message}
use Rattle.protobuf_parse_model.specs.Descriptors.{messages, no_messages}
use Rattle.protobuf_parse_source_info.specs.Parts.{next, nth}
use Rattle.protobuf_parse_source_info.specs.Walks.{Path}
use Rattle.protobuf_parse_wire.specs.Declarations.{name_within, package_scope}
use Rattle.protobuf_parse_locations.specs.declared.declaration.DeclarationKind.{DeclarationKind}
use Rattle.protobuf_parse_locations.specs.declared.declaration.DeclarationKind.TheVariants as kind

-- what is declared, its full name and its path
pub record DeclarationAt : Type 0 where
  pub kind : DeclarationKind
  pub name : Text
  pub path : Path

-- what has that name in the scope
abbrev pub named : DeclarationKind → (scope name : Text) → Path → DeclarationAt
named k scope name p = record { kind = k; name = name_within scope name; path = p }

-- What the items of a list declare, from an index on: the list is that field of what stands at a
-- path, and what an item declares is said by its own path.
abbrev pub items : {X : Type 0} → (Path → X → List DeclarationAt) → Path → (field index : ℕ)
    → List X → List DeclarationAt
items what p n i [] = []
items what p n i (x ∷ xs) = what (nth p n i) x ++ items what p n (next i) xs

-- ---- fields and oneofs

-- a field, or an extension
abbrev pub field_at : DeclarationKind → (scope : Text) → Path → FieldDescriptor
    → List DeclarationAt
field_at k scope p f = named k scope f.name p ∷ []

-- a oneof
abbrev pub oneof_at : (scope : Text) → Path → OneofDescriptor → List DeclarationAt
oneof_at scope p o = named kind.Oneof scope o.name p ∷ []

-- whether that is the index
abbrev pub is_index : ℕ → Option ℤ → Bool
is_index at None = false
is_index at (Some (pos i)) = i == at
is_index at (Some (negsuc i)) = false

-- A oneof is synthetic if an `optional` field of proto3 is in it: no text has it.
abbrev pub is_synthetic : List FieldDescriptor → ℕ → Bool
is_synthetic fs at =
    list_any (λ (f : FieldDescriptor). f.proto3_optional && is_index at f.oneof_index) fs

-- those of the oneofs, from an index on, that a text has
abbrev pub written : List FieldDescriptor → ℕ → List OneofDescriptor → List OneofDescriptor
written fs at [] = []
written fs at (o ∷ os) =
    if is_synthetic fs at then written fs (at + 1) os else o ∷ written fs (at + 1) os

-- ---- enums

-- a value of an enum
abbrev pub value_at : (scope : Text) → Path → EnumValueDescriptor → List DeclarationAt
value_at scope p v = named kind.Value scope v.name p ∷ []

-- an enum, and its values, which stand in the scope around it
abbrev pub enum_at : (scope : Text) → Path → EnumDescriptor → List DeclarationAt
enum_at scope p e =
    named kind.Enum scope e.name p ∷ items (value_at scope) p 2 0 e.value  -- value

-- ---- messages

-- what stands in a message behind its fields and the messages inside it
abbrev pub behind_messages : (scope : Text) → Path → MessageParts → List DeclarationAt
behind_messages scope p m =
    items (enum_at scope) p 4 0 m.enum_type  -- enum_type
    ++ items (field_at kind.Extension scope) p 6 0 m.extension  -- extension
    ++ items (oneof_at scope) p 8 0 (written m.field 0 m.oneof_decl)  -- oneof_decl

abbrev mutual
  -- a message, and what stands in it
  pub message_at : (scope : Text) → Path → MessageDescriptor → List DeclarationAt
  message_at scope p (a_message m nested) =
      named kind.Message scope m.name p
      ∷ (items (field_at kind.Field (name_within scope m.name)) p 2 0 m.field  -- field
      ++ messages_at (name_within scope m.name) p 0 nested  -- nested_type
      ++ behind_messages (name_within scope m.name) p m)

  -- the messages inside the one at a path, from an index on
  pub messages_at : (scope : Text) → Path → (index : ℕ) → MessageDescriptors → List DeclarationAt
  messages_at scope p i no_messages = []
  messages_at scope p i (messages m ms) =
      message_at scope (nth p 3 i) m ++ messages_at scope p (next i) ms

-- ---- services

-- a method
abbrev pub method_at : (scope : Text) → Path → MethodDescriptor → List DeclarationAt
method_at scope p m = named kind.Method scope m.name p ∷ []

-- a service, and its methods
abbrev pub service_at : (scope : Text) → Path → ServiceDescriptor → List DeclarationAt
service_at scope p s =
    named kind.Service scope s.name p
    ∷ items (method_at (name_within scope s.name)) p 2 0 s.method  -- method

-- ---- files

-- what stands in a file of that package
abbrev pub in_package : (scope : Text) → FileDescriptor → List DeclarationAt
in_package scope f =
    items (message_at scope) [] 4 0 f.message_type  -- message_type
    ++ items (enum_at scope) [] 5 0 f.enum_type  -- enum_type
    ++ items (service_at scope) [] 6 0 f.service  -- service
    ++ items (field_at kind.Extension scope) [] 7 0 f.extension  -- extension

-- all that a file declares
abbrev pub declarations_of : FileDescriptor → List DeclarationAt
declarations_of f = in_package (package_scope f.«package») f
