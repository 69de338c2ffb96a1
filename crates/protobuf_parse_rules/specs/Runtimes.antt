-- The runtime that a file is for: one that says `optimize_for = LITE_RUNTIME` is for the lite one,
-- and then a file that doesn't say so doesn't import it, no extension in it is of a message of a
-- file that doesn't say so, and it has no services of the generic kind. The comments of
-- `optimize_for` and `cc_generic_services` in google/protobuf/descriptor.proto. Nothing is told of
-- files and messages that aren't there; of files with one path, the first counts.
use Rattle.std.specs.Prelude.{Bool, true, false, ◌&&◌, ◌||◌, if◌then◌else◌, List, [], ◌∷◌, ◌++◌}
use Rattle.std.specs.Prelude.{flat_map, find, bytes_eq, Option, Some, None, option_and_then}
use Rattle.std.specs.Prelude.{option_map, unwrap_or}
use Rattle.std.specs.Option.{option_map_or}
use Rattle.protobuf_parse_model.specs.Descriptors.{Text, FieldDescriptor, FileDescriptor}
use Rattle.protobuf_parse_model.specs.Descriptors.{ServiceDescriptor}
use Rattle.protobuf_parse_model.specs.Options.{FileOptionValues}
use Rattle.protobuf_parse_model.specs.declared.descriptor.options.OptimizeMode.{OptimizeMode}
use Rattle.protobuf_parse_model.specs.declared.descriptor.options.OptimizeMode.TheVariants as mode
use Rattle.protobuf_parse_wire.specs.Declarations.{name_within}
use Rattle.protobuf_parse_rules.specs.Names.{Named, names_at}
use Rattle.protobuf_parse_rules.specs.Bodies.{Content, BodyParts, extensions_of, of_file}
use Rattle.protobuf_parse_rules.specs.Bodies.{of_message}
use Rattle.protobuf_parse_rules.specs.Rules.{Breach, Broken, Site, breaches_at, broken, broken_by}
use Rattle.protobuf_parse_rules.specs.declared.rule.Rule.TheVariants as rule

-- ---- files by their paths, and what they declare

-- a file, by its path
pub record NamedFile : Type 0 where
  pub path : Text
  pub what : FileDescriptor

-- a file, where that is what is there
abbrev pub file_in : (path : Text) → Content → List NamedFile
file_in path (of_message m) = []
file_in path (of_file f) = record { path = path; what = f } ∷ []

-- the file of a body
abbrev pub file_at : BodyParts → List NamedFile
file_at p = file_in p.file p.content

-- the file of that path
abbrev pub file_named : List BodyParts → Text → Option NamedFile
file_named all path = find (λ (f : NamedFile). bytes_eq f.path path) (flat_map file_at all)

-- the path of the file of the first of those that have names that has this one
abbrev pub declaring_file : List Named → Text → Option Text
declaring_file named name = option_map (λ (n : Named). n.file)
    (find (λ (n : Named). bytes_eq n.name name) named)

-- ---- the lite runtime

-- whether it is the lite runtime
abbrev pub is_lite_mode : OptimizeMode → Bool
is_lite_mode mode.LiteRuntime = true
is_lite_mode _ = false

-- whether a file is for the lite runtime
abbrev pub is_lite : FileDescriptor → Bool
is_lite f = option_map_or is_lite_mode
    (option_and_then (λ (o : FileOptionValues). o.optimize_for) f.options) false

-- a file with that path, and for the lite runtime or not
abbrev pub is_lite_path : List BodyParts → Text → Bool
is_lite_path all path = option_map_or (λ (f : NamedFile). is_lite f.what)
    (file_named all path) false

-- C49 for a file that is not for the lite runtime and imports that path
abbrev pub of_lite_path : List BodyParts → (path : Text) → Option Broken
of_lite_path all path =
    if is_lite_path all path then Some (broken_by rule.LiteImport path) else None

-- C49 at a file with such an import
abbrev pub lite_import : List BodyParts → Site → (path : Text) → List Breach
lite_import all site path = breaches_at site (of_lite_path all path ∷ [])

-- of all its imports
abbrev pub lite_imports : List BodyParts → Site → FileDescriptor → List Breach
lite_imports all site f =
    if is_lite f then [] else flat_map (lite_import all site) f.dependency

-- C50 for an extension, in a file for the lite runtime, of what has that full name
abbrev pub lite_extendee : List Named → List BodyParts → Text → Option Broken
lite_extendee named all name = option_and_then (λ (path : Text).
    if is_lite_path all path then None else Some (broken_by rule.LiteExtension name))
    (declaring_file named name)

-- C50 at such an extension
abbrev pub lite_extension : List Named → List BodyParts → (file scope : Text) → FieldDescriptor
    → List Breach
lite_extension named all file scope e =
    breaches_at (record { file = file; construct = name_within scope e.name })
    (option_and_then (lite_extendee named all) e.extendee ∷ [])

-- of all extensions of a body
abbrev pub lite_extensions : List Named → List BodyParts → BodyParts → List Breach
lite_extensions named all p = if is_lite_path all p.file
    then flat_map (lite_extension named all p.file p.scope) (extensions_of p.content) else []

-- whether options ask for services of the generic kind, in C++ or in Java
abbrev pub is_generic_in : FileOptionValues → Bool
is_generic_in o = unwrap_or o.cc_generic_services false || unwrap_or o.java_generic_services false

-- whether the options of a file do
abbrev pub has_generic_services : FileDescriptor → Bool
has_generic_services f = option_map_or is_generic_in f.options false

-- C51 at a service
abbrev pub lite_service : (file scope : Text) → ServiceDescriptor → List Breach
lite_service file scope s =
    breaches_at (record { file = file; construct = name_within scope s.name })
    (Some (broken rule.LiteService) ∷ [])

-- of all services of a file whose options do and which is for the lite runtime
abbrev pub lite_services : (file scope : Text) → FileDescriptor → List Breach
lite_services file scope f = if is_lite f && has_generic_services f
    then flat_map (lite_service file scope) f.service else []

-- a file's imports and services
abbrev pub lite_file : List BodyParts → (file scope : Text) → Content → List Breach
lite_file all file scope (of_message m) = []
lite_file all file scope (of_file f) =
    lite_imports all (record { file = file; construct = scope }) f ++ lite_services file scope f

-- of a body, where these have full names
abbrev pub runtimes_among : List Named → List BodyParts → BodyParts → List Breach
runtimes_among named all p =
    lite_extensions named all p ++ lite_file all p.file p.scope p.content

-- of a body, where all have names that the bodies declare
abbrev pub runtime_breaches : List BodyParts → BodyParts → List Breach
runtime_breaches all p = runtimes_among (flat_map names_at all) all p
