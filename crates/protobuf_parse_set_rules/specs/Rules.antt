-- The rules of descriptor sets, and what breaks them. A file's own rules come first, then its
-- messages, each before those inside it, then its enums, its services and its extensions.
use Rattle.std.specs.Prelude.{ℕ, ℤ, Bool, true, false, not, is_none, is_some, List, [], ◌∷◌, ◌++◌}
use Rattle.std.specs.Prelude.{length, flat_map, Option, Some, None, unwrap_or}
use Rattle.protobuf_parse_model.specs.Descriptors.{Text, EnumDescriptor, EnumValueDescriptor}
use Rattle.protobuf_parse_model.specs.Descriptors.{FieldDescriptor, FileDescriptor}
use Rattle.protobuf_parse_model.specs.Descriptors.{MessageDescriptor, MessageDescriptors}
use Rattle.protobuf_parse_model.specs.Descriptors.{MessageParts, MethodDescriptor}
use Rattle.protobuf_parse_model.specs.Descriptors.{OneofDescriptor, ServiceDescriptor}
use Rattle.protobuf_parse_model.specs.Descriptors.{a_message, messages, no_messages}
use Rattle.protobuf_parse_model.specs.declared.descriptor.FieldType.{FieldType}
use Rattle.protobuf_parse_model.specs.declared.descriptor.FieldType.TheVariants as type
use Rattle.protobuf_parse_model.specs.declared.scope.seen.TypeKind.{TypeKind}
use Rattle.protobuf_parse_model.specs.declared.scope.seen.TypeKind.TheVariants as kind
use Rattle.protobuf_parse_set_rules.specs.declared.rule.SetRule.TheVariants as rule
use Rattle.protobuf_parse_set_rules.specs.Breaches.{Site, SetBreach, breach_if}
use Rattle.protobuf_parse_set_rules.specs.Names.{is_identifier, is_package, package_scope, within}
use Rattle.protobuf_parse_set_rules.specs.Positions.{by_position, is_position}
use Rattle.protobuf_parse_set_rules.specs.Sights.{Known, Paths, Sight, file_before, known_of}
use Rattle.protobuf_parse_set_rules.specs.Sights.{path_of, sight_of}

-- what has the name in the scope
abbrev pub named : (file scope name : Text) → Site
named file scope name = record { file = file; construct = within scope name }

-- ---- names and positions

-- D9 where the name of what is declared is no identifier
abbrev pub name_breaches : Site → (name : Text) → List SetBreach
name_breaches at name = breach_if (not (is_identifier name)) at rule.NotIdentifier name

-- D9 for a package, which is a name of several parts
abbrev pub package_breaches : Site → Text → List SetBreach
package_breaches at [] = []
package_breaches at (c ∷ cs) = breach_if (not (is_package (c ∷ cs))) at rule.NotIdentifier (c ∷ cs)

-- D8 where the position is none of the message's so many oneofs
abbrev pub oneof_breaches : Site → (oneofs : ℕ) → Option ℤ → List SetBreach
oneof_breaches at oneofs None = []
oneof_breaches at oneofs (Some i) =
    breach_if (not (is_position oneofs i)) at (rule.NoSuchOneof i) []

-- ---- types that are named

-- whether it is a message
abbrev pub is_message : Option TypeKind → Bool
is_message None = false
is_message (Some kind.Message) = true
is_message (Some kind.Enum) = false

-- whether it is an enum
abbrev pub is_enum : Option TypeKind → Bool
is_enum None = false
is_enum (Some kind.Message) = false
is_enum (Some kind.Enum) = true

-- what the name means, if there is one
abbrev pub meaning : Sight → Option Text → Option TypeKind
meaning sees None = None
meaning sees (Some name) = sees name

-- whether a field of that type has the name of such a type: a message, or an enum; a field of a
-- scalar type needs none
abbrev pub type_stands : Sight → FieldType → Option Text → Bool
type_stands sees type.Message name = is_message (meaning sees name)
type_stands sees type.Group name = is_message (meaning sees name)
type_stands sees type.Enum name = is_enum (meaning sees name)
type_stands sees _ name = true

-- D4 where it hasn't
abbrev pub type_breaches : Sight → Site → FieldType → Option Text → List SetBreach
type_breaches sees at type name =
    breach_if (not (type_stands sees type name)) at rule.TypeNotSeen (unwrap_or name [])

-- D5 where an extension extends nothing that the file sees
abbrev pub extendee_breaches : Sight → Site → Option Text → List SetBreach
extendee_breaches sees at name =
    breach_if (is_none (meaning sees name)) at rule.ExtendeeNotSeen (unwrap_or name [])

-- D6 where a field of a message extends one
abbrev pub own_extendee_breaches : Site → Option Text → List SetBreach
own_extendee_breaches at name =
    breach_if (is_some name) at rule.ExtendeeOfField (unwrap_or name [])

-- D7 where a method takes or gives nothing that the file sees
abbrev pub method_type_breaches : Sight → Site → Text → List SetBreach
method_type_breaches sees at name =
    breach_if (is_none (sees name)) at rule.MethodTypeNotSeen name

-- ---- declarations

-- what fields and extensions have in common
abbrev pub both_breaches : Sight → Site → (oneofs : ℕ) → FieldDescriptor → List SetBreach
both_breaches sees at oneofs f =
    name_breaches at f.name
    ++ (type_breaches sees at f.type_ f.type_name ++ oneof_breaches at oneofs f.oneof_index)

-- a field of a message with so many oneofs
abbrev pub field_breaches : Sight → (file scope : Text) → (oneofs : ℕ) → FieldDescriptor
    → List SetBreach
field_breaches sees file scope oneofs f =
    both_breaches sees (named file scope f.name) oneofs f
    ++ own_extendee_breaches (named file scope f.name) f.extendee

-- an extension, which stands in no oneof
abbrev pub extension_breaches : Sight → (file scope : Text) → FieldDescriptor → List SetBreach
extension_breaches sees file scope f =
    both_breaches sees (named file scope f.name) 0 f
    ++ extendee_breaches sees (named file scope f.name) f.extendee

-- a oneof
abbrev pub oneof_name_breaches : (file scope : Text) → OneofDescriptor → List SetBreach
oneof_name_breaches file scope o = name_breaches (named file scope o.name) o.name

-- a value, which stands beside its enum
abbrev pub value_breaches : (file scope : Text) → EnumValueDescriptor → List SetBreach
value_breaches file scope v = name_breaches (named file scope v.name) v.name

-- an enum, and then its values
abbrev pub enum_breaches : (file scope : Text) → EnumDescriptor → List SetBreach
enum_breaches file scope e =
    name_breaches (named file scope e.name) e.name ++ flat_map (value_breaches file scope) e.value

-- all of a message but the messages inside it, in the scope of what stands in it
abbrev pub parts_breaches : Sight → (file inside : Text) → MessageParts → List SetBreach
parts_breaches sees file inside parts =
    flat_map (field_breaches sees file inside (length parts.oneof_decl)) parts.field
    ++ (flat_map (oneof_name_breaches file inside) parts.oneof_decl
    ++ (flat_map (enum_breaches file inside) parts.enum_type
    ++ flat_map (extension_breaches sees file inside) parts.extension))

abbrev mutual
  -- a message, and then those inside it
  pub message_breaches : Sight → (file scope : Text) → MessageDescriptor → List SetBreach
  message_breaches sees file scope (a_message parts nested) =
      name_breaches (named file scope parts.name) parts.name
      ++ (parts_breaches sees file (within scope parts.name) parts
      ++ nested_breaches sees file (within scope parts.name) nested)

  -- messages that stand side by side
  pub nested_breaches : Sight → (file scope : Text) → MessageDescriptors → List SetBreach
  nested_breaches sees file scope no_messages = []
  nested_breaches sees file scope (messages m ms) =
      message_breaches sees file scope m ++ nested_breaches sees file scope ms

-- a method: what it takes, and what it gives
abbrev pub method_breaches : Sight → (file scope : Text) → MethodDescriptor → List SetBreach
method_breaches sees file scope m =
    name_breaches (named file scope m.name) m.name
    ++ (method_type_breaches sees (named file scope m.name) m.input_type
    ++ method_type_breaches sees (named file scope m.name) m.output_type)

-- a service, and then its methods
abbrev pub service_breaches : Sight → (file scope : Text) → ServiceDescriptor → List SetBreach
service_breaches sees file scope s =
    name_breaches (named file scope s.name) s.name
    ++ flat_map (method_breaches sees file (within scope s.name)) s.method

-- what a file declares, in the scope of its package
abbrev pub declared_breaches : Sight → (file scope : Text) → FileDescriptor → List SetBreach
declared_breaches sees file scope f =
    flat_map (message_breaches sees file scope) f.message_type
    ++ (flat_map (enum_breaches file scope) f.enum_type
    ++ (flat_map (service_breaches sees file scope) f.service
    ++ flat_map (extension_breaches sees file scope) f.extension))

-- ---- files

-- D1 where a file before it has the path
abbrev pub path_breaches : Paths → ℕ → Site → (path : Text) → List SetBreach
path_breaches paths n at path = breach_if (is_some (file_before paths n path)) at rule.FileTwice []

-- D2 where no file before it has the path that it imports
abbrev pub import_breaches : Paths → ℕ → Site → (path : Text) → List SetBreach
import_breaches paths n at path =
    breach_if (is_none (file_before paths n path)) at rule.ImportNotBefore path

-- D3 where the position of a public or weak import is none of the so many imports
abbrev pub index_breaches : (imports : ℕ) → Site → ℤ → List SetBreach
index_breaches imports at i = breach_if (not (is_position imports i)) at (rule.NoSuchImport i) []

-- of the file itself
abbrev pub own_breaches : Paths → ℕ → Site → FileDescriptor → List SetBreach
own_breaches paths n at f =
    path_breaches paths n at (path_of f)
    ++ (flat_map (import_breaches paths n at) f.dependency
    ++ (flat_map (index_breaches (length f.dependency) at) f.public_dependency
    ++ (flat_map (index_breaches (length f.dependency) at) f.weak_dependency
    ++ package_breaches at (unwrap_or f.«package» []))))

-- the file as a construct
abbrev pub file_site : FileDescriptor → Site
file_site f = record { file = path_of f; construct = package_scope f.«package» }

-- of the file at that position
abbrev pub file_breaches : Known → ℕ → FileDescriptor → List SetBreach
file_breaches known n f =
    own_breaches known.paths n (file_site f) f
    ++ declared_breaches (sight_of known n f) (path_of f) (package_scope f.«package») f

-- of all files
abbrev pub set_breaches : List FileDescriptor → List SetBreach
set_breaches files = by_position (file_breaches (known_of files)) 0 files
