-- Files, by their paths.
use Rattle.std.specs.Prelude.{not, List, ◌++◌, ◌∷◌, [], Option, Some, None}
use Rattle.protobuf_parse_model.specs.Descriptors.{FileDescriptor}
use Rattle.protobuf_parse_index.specs.Lookups.{file_named}
use Rattle.protobuf_parse_index.specs.Walk.{path_of}
use Rattle.protobuf_parse_changes.specs.Changes.{Changed, Site, changed, changed_if, site}
use Rattle.protobuf_parse_changes.specs.Options.{option_changes, options_of}
use Rattle.protobuf_parse_changes.specs.Same.{same_text}
use Rattle.protobuf_parse_changes.specs.declared.kind.ChangeKind.TheVariants as kind

-- a file that both have
abbrev pub kept_file : Site → (old new : FileDescriptor) → List Changed
kept_file at old new =
    changed_if (not (same_text old.«package» new.«package»)) kind.PackageChanged at
    ++ option_changes at (options_of old) (options_of new)

-- an old file, and the new file that has its path
abbrev pub file_or_none : Site → FileDescriptor → Option FileDescriptor → List Changed
file_or_none at old None = changed kind.FileRemoved at ∷ []
file_or_none at old (Some new) = kept_file at old new

-- an old file
abbrev pub file_changes : (new_files : List FileDescriptor) → FileDescriptor → List Changed
file_changes new_files f =
    file_or_none (site (path_of f) []) f (file_named new_files (path_of f))
