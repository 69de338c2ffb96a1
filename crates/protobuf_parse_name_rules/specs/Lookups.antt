-- What names mean where not all files that are reached are seen: a file sees itself, the files that
-- it imports, and what these import publicly (Protocol Buffers Language Guide (proto3), "Importing
-- Definitions", https://protobuf.dev).
use Rattle.std.specs.Prelude.{Bool, false, ◌||◌, List, Option, Some, None, map, flat_map}
use Rattle.std.specs.Prelude.{option_to_list, if◌then◌else◌}
use Rattle.protobuf_parse_base.specs.Names.{absolute_text, fronts}
use Rattle.protobuf_parse_model.specs.Declarations.{Declared, Scope, inside}
use Rattle.protobuf_parse_model.specs.Declarations.{scope_of_package}
use Rattle.protobuf_parse_model.specs.Descriptors.{Text, FieldDescriptor, FileDescriptor}
use Rattle.protobuf_parse_index.specs.Lookups.{enum_named, extension_named, file_named}
use Rattle.protobuf_parse_index.specs.Lookups.{message_named, service_named}
use Rattle.protobuf_parse_index.specs.Walk.{Standing}
use Rattle.protobuf_parse_text_rules.specs.Options.{stands_in}

-- ---- files

-- those that are reached, and the paths of those that the file sees
pub record NameFiles : Type 0 where
  pub reached : List FileDescriptor
  pub seen : List Text

-- what a file sees of those: which paths are those of seen files, and which packages they have
pub record Sight : Type 0 where
  pub reached : List FileDescriptor
  pub sees : Text → Bool
  pub has_package : Text → Bool

-- the descriptors of those that are seen
abbrev pub seen_files : NameFiles → List FileDescriptor
seen_files files =
    flat_map (λ (path : Text). option_to_list (file_named files.reached path)) files.seen

-- the full names of the package of a file, and of those around it
abbrev pub packages_of : FileDescriptor → List Text
packages_of file = map absolute_text (fronts (scope_of_package file.«package»))

-- the full names of the packages of all of these
abbrev pub packages_among : List FileDescriptor → List Text
packages_among files = flat_map packages_of files

-- what is seen
abbrev pub sight_of : NameFiles → Sight
sight_of files = record {
  reached = files.reached;
  sees = λ path. stands_in path files.seen;
  has_package = λ name. stands_in name (packages_among (seen_files files));
}

-- a sight, and the scope from which names are looked up
pub record Viewpoint : Type 0 where
  pub sight : Sight
  pub scope : Scope

-- the same from inside what has the name
abbrev pub within : Viewpoint → Text → Viewpoint
within at name = record { sight = at.sight; scope = inside at.scope name }

-- ---- full names

-- whether a declaration that was found stands in a file that is seen
abbrev pub is_seen : {X : Type 0} → Sight → Option (Standing X) → Bool
is_seen sight None = false
is_seen sight (Some d) = sight.sees d.file

-- whether the full name is that of a message or an enum that is seen
abbrev pub is_type : Sight → Text → Bool
is_type sight name =
    is_seen sight (message_named sight.reached name)
    || is_seen sight (enum_named sight.reached name)

-- whether it is that of an extension that is seen
abbrev pub is_extension : Sight → Text → Bool
is_extension sight name = is_seen sight (extension_named sight.reached name)

-- whether it is that of something in which names may stand: a message, an enum, a service or a
-- package
abbrev pub holds_names : Sight → Text → Bool
holds_names sight name = is_type sight name
    || (is_seen sight (service_named sight.reached name) || sight.has_package name)

-- the extension that was found, if its file is seen
abbrev pub seen_extension : Sight → Text → Option (Standing FieldDescriptor)
    → Option (Declared FieldDescriptor)
seen_extension sight name None = None
seen_extension sight name (Some d) =
    if sight.sees d.file then Some (record { name = name; what = d.what }) else None

-- the extension of that full name, if it is seen
abbrev pub extensions : Sight → Text → Option (Declared FieldDescriptor)
extensions sight name = seen_extension sight name (extension_named sight.reached name)
