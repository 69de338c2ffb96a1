-- Enums by their full names, and their values by their numbers.
use Rattle.std.specs.Prelude.{Bool, false, not, ◌&&◌, List, ◌++◌, ◌∷◌, [], flat_map, codes, bytes_eq}
use Rattle.std.specs.Prelude.{Option, Some, None}
use Rattle.std.specs.Bool.{beq}
use Rattle.std.specs.List.{list_any}
use Rattle.std.specs.Ordering.{int_eq}
use Rattle.protobuf_parse_model.specs.Descriptors.{Text, EnumDescriptor, EnumValueDescriptor}
use Rattle.protobuf_parse_model.specs.Descriptors.{FileDescriptor}
use Rattle.protobuf_parse_index.specs.Lookups.{enum_named, file_named, value_name}
use Rattle.protobuf_parse_index.specs.Walk.{Standing}
use Rattle.protobuf_parse_changes.specs.Changes.{Changed, Site, changed, changed_if, inside, site}
use Rattle.protobuf_parse_changes.specs.Reserved.{in_enum_ranges, is_among}
use Rattle.protobuf_parse_changes.specs.declared.kind.ChangeKind.TheVariants as kind

-- ---- openness

-- whether the syntax is proto3
abbrev pub is_proto3_syntax : Option Text → Bool
is_proto3_syntax None = false
is_proto3_syntax (Some s) = bytes_eq s (codes "proto3")

-- whether it is a file of proto3, whose enums are open (Protocol Buffers, "Enum Behavior")
abbrev pub is_proto3 : Option FileDescriptor → Bool
is_proto3 None = false
is_proto3 (Some f) = is_proto3_syntax f.syntax

-- whether the enums of the file of that path are open
abbrev pub is_open : List FileDescriptor → (path : Text) → Bool
is_open files path = is_proto3 (file_named files path)

-- ---- values

-- a value of the old enum whose number the new enum doesn't declare
abbrev pub removed_value : Site → (new : EnumDescriptor) → EnumValueDescriptor → List Changed
removed_value at new v =
    changed kind.EnumValueRemoved at
    ∷ (changed_if (not (in_enum_ranges v.number new.reserved_range)) kind.NumberNotReserved at
    ++ changed_if (not (is_among v.name new.reserved_name)) kind.NameNotReserved at)

-- whether the value has that number and name
abbrev pub is_same_value : (v w : EnumValueDescriptor) → Bool
is_same_value v w = int_eq v.number w.number && bytes_eq v.name w.name

-- whether one of the values has the same number and name
abbrev pub has_value : List EnumValueDescriptor → EnumValueDescriptor → Bool
has_value values v = list_any (is_same_value v) values

-- A value of the old enum, and the name of the first value that has its number in the new one. It
-- is renamed if no value of the number has its name.
abbrev pub value_or_none : Site → (new : EnumDescriptor) → EnumValueDescriptor → Option Text
    → List Changed
value_or_none at new v None = removed_value at new v
value_or_none at new v (Some name) =
    changed_if (not (bytes_eq v.name name) && not (has_value new.value v)) kind.EnumValueRenamed at

-- a value of the old enum
abbrev pub value_changes : (new_files : List FileDescriptor) → Site → (new : EnumDescriptor)
    → EnumValueDescriptor → List Changed
value_changes new_files at new v =
    value_or_none (inside at v.name (Some v.number)) new v (value_name new_files at.name v.number)

-- a value of the new enum: that it has what the old enum reserved
abbrev pub new_value_changes : Site → (old : EnumDescriptor) → EnumValueDescriptor → List Changed
new_value_changes of old w =
    let at : Site = inside of w.name (Some w.number) in
    changed_if (in_enum_ranges w.number old.reserved_range) kind.ReservedNumberUsed at
    ++ changed_if (is_among w.name old.reserved_name) kind.ReservedNameUsed at

-- ---- enums

-- an enum that both declare
abbrev pub kept_enum : (old_files new_files : List FileDescriptor) → Site
    → (old new : Standing EnumDescriptor) → List Changed
kept_enum old_files new_files at old new =
    changed_if (not (beq (is_open old_files old.file) (is_open new_files new.file)))
    kind.OpennessChanged at
    ++ (flat_map (value_changes new_files at new.what) old.what.value
    ++ flat_map (new_value_changes at old.what) new.what.value)

-- an enum of the old files, and what has its name in the new ones
abbrev pub enum_or_none : (old_files new_files : List FileDescriptor) → Site
    → Standing EnumDescriptor → Option (Standing EnumDescriptor) → List Changed
enum_or_none old_files new_files at old None = changed kind.EnumRemoved at ∷ []
enum_or_none old_files new_files at old (Some new) = kept_enum old_files new_files at old new

-- an enum of the old files
abbrev pub enum_changes : (old_files new_files : List FileDescriptor) → Standing EnumDescriptor
    → List Changed
enum_changes old_files new_files e =
    enum_or_none old_files new_files (site e.file e.name) e (enum_named new_files e.name)
