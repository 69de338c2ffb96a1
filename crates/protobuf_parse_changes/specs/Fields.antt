-- The fields of a message that both versions declare, by their numbers: which are gone, which changed
-- and which are new.
use Rattle.std.specs.Prelude.{ℤ, Bool, true, false, not, ◌&&◌, is_none, List, [], ◌∷◌, ◌++◌}
use Rattle.std.specs.Prelude.{Option, Some, None, bytes_eq, flat_map, if◌then◌else◌}
use Rattle.std.specs.Bool.{beq}
use Rattle.protobuf_parse_syntax.specs.declared.tree.field.Label.{Label}
use Rattle.protobuf_parse_syntax.specs.declared.tree.field.Label.TheVariants as label
use Rattle.protobuf_parse_model.specs.Descriptors.{Text, FileDescriptor, FieldDescriptor}
use Rattle.protobuf_parse_model.specs.Descriptors.{MessageDescriptor, parts_seen}
use Rattle.protobuf_parse_model.specs.Words.{type_word}
use Rattle.protobuf_parse_index.specs.Lookups.{field_numbered}
use Rattle.protobuf_parse_changes.specs.Changes.{Changed, Site, changed, changed_if, inside}
use Rattle.protobuf_parse_changes.specs.Oneofs.{oneof_name, still_has}
use Rattle.protobuf_parse_changes.specs.Reserved.{in_ranges, is_among}
use Rattle.protobuf_parse_changes.specs.Same.{same_text}
use Rattle.protobuf_parse_changes.specs.declared.kind.ChangeKind.TheVariants as kind

-- ---- types, labels and defaults, of fields and of extensions

-- whether the label is `repeated`
abbrev pub is_repeated : Label → Bool
is_repeated label.Optional = false
is_repeated label.Required = false
is_repeated label.Repeated = true

-- whether the label is `required`
abbrev pub is_required : Label → Bool
is_required label.Optional = false
is_required label.Required = true
is_required label.Repeated = false

-- another type, or the same type with another name: of a message, an enum or a group
abbrev pub type_changes : Site → (old new : FieldDescriptor) → List Changed
type_changes at old new =
    if bytes_eq (type_word old.type_) (type_word new.type_) then
    changed_if (not (same_text old.type_name new.type_name)) kind.TypeNameChanged at
    else changed kind.TypeChanged at ∷ []

-- repeated, or required, in one version alone
abbrev pub label_changes : Site → (old new : Label) → List Changed
label_changes at old new =
    changed_if (not (beq (is_repeated old) (is_repeated new))) kind.RepeatedChanged at
    ++ changed_if (not (beq (is_required old) (is_required new))) kind.RequiredChanged at

-- what both a field and an extension have
abbrev pub shape_changes : Site → (old new : FieldDescriptor) → List Changed
shape_changes at old new =
    type_changes at old new
    ++ (label_changes at old.label new.label
    ++ changed_if (not (same_text old.default_value new.default_value)) kind.DefaultChanged at)

-- ---- fields by their numbers

-- the field, if it isn't an extension
abbrev pub no_extension : Option FieldDescriptor → Option FieldDescriptor
no_extension None = None
no_extension (Some f) = if is_none f.extendee then Some f else None

-- the field of that number that the message of that full name declares
abbrev pub own_field : List FileDescriptor → (message : Text) → ℤ → Option FieldDescriptor
own_field files message n = no_extension (field_numbered files message n)

-- a field of the old message whose number the new message doesn't declare
abbrev pub removed_field : Site → (old new : MessageDescriptor) → FieldDescriptor → List Changed
removed_field at old new f =
    changed kind.FieldRemoved at
    ∷ (changed_if (not (in_ranges f.number (parts_seen new).reserved_range)) kind.NumberNotReserved
    at
    ++ (changed_if (not (is_among f.name (parts_seen new).reserved_name)) kind.NameNotReserved at
    ++ changed_if (still_has new (oneof_name old f)) kind.OneofMemberRemoved at))

-- a field of the old message, and the field that has its number in the new one
abbrev pub kept_field : Site → (old new : MessageDescriptor) → (f g : FieldDescriptor)
    → List Changed
kept_field at old new f g =
    changed_if (not (bytes_eq f.name g.name)) kind.FieldRenamed at
    ++ (changed_if (not (bytes_eq f.json_name g.json_name)) kind.JsonNameChanged at
    ++ (changed_if (not (same_text (oneof_name old f) (oneof_name new g))) kind.OneofChanged at
    ++ shape_changes at f g))

-- a field of the old message, and what has its number in the new one
abbrev pub field_or_none : Site → (old new : MessageDescriptor) → FieldDescriptor
    → Option FieldDescriptor → List Changed
field_or_none at old new f None = removed_field at old new f
field_or_none at old new f (Some g) = kept_field at old new f g

-- a field of the old message of that full name
abbrev pub field_changes : (new_files : List FileDescriptor) → Site → (old new : MessageDescriptor)
    → FieldDescriptor → List Changed
field_changes new_files at old new f =
    field_or_none (inside at f.name (Some f.number)) old new f
    (own_field new_files at.name f.number)

-- ---- what the new message declares

-- a field of the new message: that it has what the old message reserved, or is required and wasn't
-- there
abbrev pub new_field_changes : (old_files : List FileDescriptor) → Site → (old : MessageDescriptor)
    → FieldDescriptor → List Changed
new_field_changes old_files of old g =
    let at : Site = inside of g.name (Some g.number) in
    changed_if (in_ranges g.number (parts_seen old).reserved_range) kind.ReservedNumberUsed at
    ++ (changed_if (is_among g.name (parts_seen old).reserved_name) kind.ReservedNameUsed at
    ++ changed_if (is_required g.label && is_none (own_field old_files of.name g.number))
    kind.RequiredFieldAdded at)
