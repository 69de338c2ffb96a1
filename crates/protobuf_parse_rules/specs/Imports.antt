-- Imports that nothing in a file needs. An import is needed where the file names a type of the file
-- imported, or may set options by extensions that this declares; where it hands on imports of its
-- own, publicly, it may be needed for these. One that the file itself hands on may be needed by
-- others. Protocol Buffers Language Guide (proto3), "Importing Definitions" (https://protobuf.dev).
-- Of files with one path, and of types with one name, the first counts.
use Rattle.std.specs.Prelude.{ℕ, ℤ, Bool, false, not, ◌&&◌, ◌||◌, if◌then◌else◌, List, [], ◌∷◌}
use Rattle.std.specs.Prelude.{◌++◌, flat_map, bytes_eq, codes, Option, Some, None, option_to_list}
use Rattle.std.specs.List.{list_any}
use Rattle.std.specs.Option.{option_map_or}
use Rattle.protobuf_parse_model.specs.Descriptors.{Text, FieldDescriptor, MethodDescriptor}
use Rattle.protobuf_parse_model.specs.Descriptors.{ServiceDescriptor}
use Rattle.protobuf_parse_rules.specs.Customs.{are_any, sets_custom}
use Rattle.protobuf_parse_rules.specs.Lookups.{NamedEnum, NamedMessage, enum_named, message_named}
use Rattle.protobuf_parse_rules.specs.Bodies.{Content, BodyParts, extensions_of, fields_of, of_file}
use Rattle.protobuf_parse_rules.specs.Bodies.{of_message, services_of}
use Rattle.protobuf_parse_rules.specs.Positions.{by_position, is_named}
use Rattle.protobuf_parse_rules.specs.Ranges.{is_among}
use Rattle.protobuf_parse_rules.specs.Rules.{Breach, Broken, Site, breaches_at, broken_by}
use Rattle.protobuf_parse_rules.specs.Runtimes.{NamedFile, file_named}
use Rattle.protobuf_parse_rules.specs.declared.rule.Rule.TheVariants as rule

-- ---- types of another file

-- whether the name is that of a message of the file with the path
abbrev pub is_message_of : List BodyParts → (path name : Text) → Bool
is_message_of all path name =
    option_map_or (λ (m : NamedMessage). bytes_eq m.file path) (message_named all name) false

-- whether it is that of an enum of the file with the path
abbrev pub is_enum_of : List BodyParts → (path name : Text) → Bool
is_enum_of all path name =
    option_map_or (λ (e : NamedEnum). bytes_eq e.file path) (enum_named all name) false

-- whether the file with that path declares the type with that full name
abbrev pub declared_in : List BodyParts → (path name : Text) → Bool
declared_in all path name = is_message_of all path name || is_enum_of all path name

-- the full names of types that a field says
abbrev pub field_types : FieldDescriptor → List Text
field_types f = option_to_list f.type_name ++ option_to_list f.extendee

-- those that a method says
abbrev pub method_types : MethodDescriptor → List Text
method_types m = m.input_type ∷ m.output_type ∷ []

-- those that its methods say
abbrev pub service_types : ServiceDescriptor → List Text
service_types s = flat_map method_types s.method

-- the full names of types that stand in a body
abbrev pub types_named : Content → List Text
types_named content = flat_map field_types (fields_of content)
    ++ (flat_map field_types (extensions_of content)
    ++ flat_map service_types (services_of content))

-- whether something with the first path names a type, of these names, of the file with the other
abbrev pub names_there : List BodyParts → (file : Text) → List Text → (from to : Text) → Bool
names_there all file names from to = bytes_eq file from && list_any (declared_in all to) names

-- whether a body is one of the first file and names a type of the other
abbrev pub body_names : List BodyParts → (from to : Text) → BodyParts → Bool
body_names all from to p = names_there all p.file (types_named p.content) from to

-- whether the first file names a type of the other
abbrev pub file_names : List BodyParts → (from to : Text) → Bool
file_names all from to = list_any (body_names all from to) all

-- ---- options by extensions of another file

-- the path, where the test says so
abbrev pub path_if : Bool → Text → List Text
path_if test path = if test then path ∷ [] else []

-- the path of the file, where the body sets custom options
abbrev pub setting_path : BodyParts → List Text
setting_path p = path_if (sets_custom p.content) p.file

-- the path of the file, where the body declares extensions
abbrev pub extending_path : BodyParts → List Text
extending_path p = path_if (are_any (extensions_of p.content)) p.file

-- whether a file sets custom options anywhere, and another one declares extensions anywhere
abbrev pub may_set : List BodyParts → (from to : Text) → Bool
may_set all from to =
    is_among to (flat_map extending_path all) && is_among from (flat_map setting_path all)

-- whether the first file needs the import of that path
abbrev pub is_needed : List BodyParts → (from path : Text) → Bool
is_needed all from path = file_names all from path || may_set all from path

-- ---- imports

-- the file with that path is there, and hands on no imports
abbrev pub hands_on_none : List BodyParts → (path : Text) → Bool
hands_on_none all path =
    option_map_or (λ (f : NamedFile). not (are_any f.what.public_dependency)) (file_named all path)
    false

-- the file that declares the messages of options, which each file may need
abbrev pub is_of_options : (path : Text) → Bool
is_of_options path = bytes_eq path (codes "google/protobuf/descriptor.proto")

-- whether an import of that path is of no use to the file
abbrev pub is_unused : List BodyParts → (from path : Text) → Bool
is_unused all from path =
    (hands_on_none all path && not (is_of_options path)) && not (is_needed all from path)

-- C48 for such an import, unless it is handed on
abbrev pub unused_import : List BodyParts → (from : Text) → (handed_on : Bool) → (path : Text)
    → Option Broken
unused_import all from handed_on path = if not handed_on && is_unused all from path
    then Some (broken_by rule.ImportUnused path) else None

-- an import at that position, where those at these are public
abbrev pub import_breaches : List BodyParts → Site → (publics : List ℤ) → ℕ → (path : Text)
    → List Breach
import_breaches all site publics n path =
    breaches_at site (unused_import all site.file (is_named publics n) path ∷ [])

-- of the imports of a file, in order
abbrev pub unused_in : List BodyParts → Site → Content → List Breach
unused_in all site (of_message m) = []
unused_in all site (of_file f) =
    by_position (import_breaches all site f.public_dependency) 0 f.dependency

-- each import of the body that nothing needs
abbrev pub unused_imports : List BodyParts → BodyParts → List Breach
unused_imports all p =
    unused_in all (record { file = p.file; construct = p.scope }) p.content
