-- Extensions, by their full names.
use Rattle.std.specs.Prelude.{not, List, ◌++◌, ◌∷◌, [], Option, Some, None}
use Rattle.std.specs.Ordering.{int_eq}
use Rattle.protobuf_parse_model.specs.Descriptors.{FieldDescriptor, FileDescriptor}
use Rattle.protobuf_parse_index.specs.Lookups.{extension_named}
use Rattle.protobuf_parse_index.specs.Walk.{Standing}
use Rattle.protobuf_parse_changes.specs.Changes.{Changed, Site, changed, changed_if, site}
use Rattle.protobuf_parse_changes.specs.Fields.{shape_changes}
use Rattle.protobuf_parse_changes.specs.Same.{same_text}
use Rattle.protobuf_parse_changes.specs.declared.kind.ChangeKind.TheVariants as kind

-- an extension that both declare
abbrev pub kept_extension : Site → (old new : FieldDescriptor) → List Changed
kept_extension at old new =
    changed_if (not (int_eq old.number new.number)) kind.ExtensionNumberChanged at
    ++ (changed_if (not (same_text old.extendee new.extendee)) kind.ExtendeeChanged at
    ++ shape_changes at old new)

-- an extension of the old files, and what has its name in the new ones
abbrev pub extension_or_none : Site → FieldDescriptor → Option (Standing FieldDescriptor)
    → List Changed
extension_or_none at old None = changed kind.ExtensionRemoved at ∷ []
extension_or_none at old (Some new) = kept_extension at old new.what

-- an extension of the old files
abbrev pub extension_changes : (new_files : List FileDescriptor) → Standing FieldDescriptor
    → List Changed
extension_changes new_files e =
    extension_or_none (site e.file e.name) e.what (extension_named new_files e.name)
