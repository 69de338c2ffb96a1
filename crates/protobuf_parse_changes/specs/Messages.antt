-- Messages, by their full names.
use Rattle.std.specs.Prelude.{Bool, true, false, not, ◌&&◌, List, ◌++◌, flat_map}
use Rattle.std.specs.Prelude.{Option, Some, None, unwrap_or}
use Rattle.std.specs.Option.{option_and_then}
use Rattle.protobuf_parse_model.specs.Descriptors.{FileDescriptor, MessageDescriptor}
use Rattle.protobuf_parse_model.specs.Descriptors.{OneofDescriptor, parts_seen}
use Rattle.protobuf_parse_model.specs.Options.{MessageOptionValues}
use Rattle.protobuf_parse_index.specs.Lookups.{message_named}
use Rattle.protobuf_parse_index.specs.Walk.{Standing}
use Rattle.protobuf_parse_changes.specs.Changes.{Changed, Site, changed_if, inside, site}
use Rattle.protobuf_parse_changes.specs.Fields.{field_changes, new_field_changes}
use Rattle.protobuf_parse_changes.specs.Oneofs.{has_oneof}
use Rattle.protobuf_parse_changes.specs.declared.kind.ChangeKind.TheVariants as kind

-- whether the message was made for the entries of a map
abbrev pub is_map_entry : MessageDescriptor → Bool
is_map_entry m =
    unwrap_or
    (option_and_then (λ (o : MessageOptionValues). o.map_entry) (parts_seen m).options)
    false

-- a oneof that the old message has, and the new one has not
abbrev pub oneof_changes : Site → (old new : MessageDescriptor) → OneofDescriptor → List Changed
oneof_changes at old new o =
    changed_if (has_oneof old o.name && not (has_oneof new o.name)) kind.OneofRemoved
    (inside at o.name None)

-- a message that both declare
abbrev pub kept_message : (old_files new_files : List FileDescriptor) → Site
    → (old new : MessageDescriptor) → List Changed
kept_message old_files new_files at old new =
    flat_map (field_changes new_files at old new) (parts_seen old).field
    ++ (flat_map (oneof_changes at old new) (parts_seen old).oneof_decl
    ++ flat_map (new_field_changes old_files at old) (parts_seen new).field)

-- a message of the old files, and what has its name in the new ones; the message that was made for
-- a map's entries is gone with the map's field, which is told
abbrev pub message_or_none : (old_files new_files : List FileDescriptor) → Site → MessageDescriptor
    → Option (Standing MessageDescriptor) → List Changed
message_or_none old_files new_files at old None =
    changed_if (not (is_map_entry old)) kind.MessageRemoved at
message_or_none old_files new_files at old (Some new) =
    kept_message old_files new_files at old new.what

-- a message of the old files
abbrev pub message_changes : (old_files new_files : List FileDescriptor)
    → Standing MessageDescriptor → List Changed
message_changes old_files new_files m =
    message_or_none old_files new_files (site m.file m.name) m.what
    (message_named new_files m.name)
