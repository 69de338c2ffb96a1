-- Full names: no two things that files declare have one. A value of an enum stands beside its enum.
-- A package and each front of it may be declared by any number of files, but then nothing else has
-- that name. Protocol Buffers Language Guide (proto2), "Packages" (https://protobuf.dev); the
-- comment of EnumValueDescriptorProto in google/protobuf/descriptor.proto.
use Rattle.std.specs.Prelude.{pos, List, [], ◌∷◌, ◌++◌, map, flat_map, Option, Some, None}
use Rattle.std.specs.Prelude.{option_and_then}
use Rattle.protobuf_parse_base.specs.Names.{dotted_parts}
use Rattle.protobuf_parse_model.specs.Descriptors.{Text, EnumDescriptor, EnumValueDescriptor}
use Rattle.protobuf_parse_model.specs.Descriptors.{FieldDescriptor, MethodDescriptor}
use Rattle.protobuf_parse_model.specs.Descriptors.{OneofDescriptor, ServiceDescriptor}
use Rattle.protobuf_parse_wire.specs.Declarations.{name_within}
use Rattle.protobuf_parse_rules.specs.Claims.{Claim, Rules, conflicts}
use Rattle.protobuf_parse_rules.specs.Bodies.{Content, BodyParts, enums_of, extensions_of, of_file}
use Rattle.protobuf_parse_rules.specs.Bodies.{of_message, services_of}
use Rattle.protobuf_parse_rules.specs.Rules.{Breach, Broken, broken_by}
use Rattle.protobuf_parse_rules.specs.declared.kind.NamedKind.{NamedKind}
use Rattle.protobuf_parse_rules.specs.declared.kind.NamedKind.TheVariants as kind
use Rattle.protobuf_parse_rules.specs.declared.rule.Rule.TheVariants as rule

-- what has a full name, in the file of that path
pub record Named : Type 0 where
  pub file : Text
  pub kind : NamedKind
  pub name : Text

-- what has that name in the scope
abbrev pub named_in : (file scope : Text) → NamedKind → (name : Text) → Named
named_in file scope k name = record { file = file; kind = k; name = name_within scope name }

-- fields, or extensions
abbrev pub fields_named : (file scope : Text) → NamedKind → List FieldDescriptor → List Named
fields_named file scope k fields =
    map (λ (f : FieldDescriptor). named_in file scope k f.name) fields

-- oneofs
abbrev pub oneofs_named : (file scope : Text) → List OneofDescriptor → List Named
oneofs_named file scope oneofs =
    map (λ (o : OneofDescriptor). named_in file scope kind.Oneof o.name) oneofs

-- values of an enum, whose scope is the one around the enum
abbrev pub values_named : (file scope : Text) → List EnumValueDescriptor → List Named
values_named file scope values =
    map (λ (v : EnumValueDescriptor). named_in file scope kind.EnumValue v.name) values

-- an enum, and its values beside it
abbrev pub enum_named : (file scope : Text) → EnumDescriptor → List Named
enum_named file scope e =
    named_in file scope kind.Enum e.name ∷ values_named file scope e.value

-- methods, whose scope is the service
abbrev pub methods_named : (file scope : Text) → List MethodDescriptor → List Named
methods_named file scope methods =
    map (λ (m : MethodDescriptor). named_in file scope kind.Method m.name) methods

-- a service, and its methods in it
abbrev pub service_named : (file scope : Text) → ServiceDescriptor → List Named
service_named file scope s =
    named_in file scope kind.Service s.name
    ∷ methods_named file (name_within scope s.name) s.method

-- the fronts of a package, by the parts between its dots: the shortest first, and the package last
abbrev pub packages_named : (file scope : Text) → (parts : List Text) → List Named
packages_named file scope [] = []
packages_named file scope (part ∷ parts) =
    named_in file scope kind.Package part
    ∷ packages_named file (name_within scope part) parts

-- the package of a file, if it has one
abbrev pub package_named : (file : Text) → Option Text → List Named
package_named file None = []
package_named file (Some name) = packages_named file [] (dotted_parts name)

-- a message, its fields and its oneofs; or a file's package
abbrev pub own_named : (file scope : Text) → Content → List Named
own_named file scope (of_message m) =
    record { file = file; kind = kind.Message; name = scope }
    ∷ (fields_named file scope kind.Field m.field ++ oneofs_named file scope m.oneof_decl)
own_named file scope (of_file f) = package_named file f.«package»

-- what stands in it: enums, services and extensions
abbrev pub inner_named : (file scope : Text) → Content → List Named
inner_named file scope content =
    flat_map (enum_named file scope) (enums_of content)
    ++ (flat_map (service_named file scope) (services_of content)
    ++ fields_named file scope kind.Extension (extensions_of content))

-- all that a body declares
abbrev pub names_at : BodyParts → List Named
names_at p = own_named p.file p.scope p.content ++ inner_named p.file p.scope p.content

-- what it claims: its full name
abbrev pub name_claim : Named → Claim
name_claim n = record {
  thing = record { number = pos 0; name = n.name; scope = [] };
  who = record { file = n.file; name = n.name; number = pos 0; kind = Some n.kind };
}

-- something of that kind, where the first of the name is of the other kind and stands in the file
abbrev pub name_taken : (file : Text) → NamedKind → (first : NamedKind) → Option Broken
name_taken file kind.Package kind.Package = None
name_taken file k first = Some (broken_by (rule.NameInUse k first) file)

-- C45: the full name is another one's
abbrev pub name_rule : Rules
name_rule c other = option_and_then (λ (k : NamedKind).
    option_and_then (name_taken other.file k) other.kind) c.who.kind

-- each thing that has the full name of one before it
abbrev pub names_in_use : List BodyParts → List Breach
names_in_use all = conflicts name_rule [] (map name_claim (flat_map names_at all))
