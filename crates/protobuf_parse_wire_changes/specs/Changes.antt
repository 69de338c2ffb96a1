-- The changes of fields on the wire: what bytes of the old files' messages could mean otherwise, or
-- be a fault, by the new files.
use Rattle.std.specs.Prelude.{ℤ, Bool, true, false, List, [], ◌∷◌, ◌++◌, Option, Some, None}
use Rattle.std.specs.Prelude.{if◌then◌else◌, option_map, flat_map, bytes_eq}
use Rattle.protobuf_parse_model.specs.declared.descriptor.FieldType.{FieldType}
use Rattle.protobuf_parse_model.specs.declared.descriptor.FieldType.TheVariants as types
use Rattle.protobuf_parse_model.specs.Descriptors.{Text, FileDescriptor, FieldDescriptor}
use Rattle.protobuf_parse_model.specs.Descriptors.{MessageDescriptor, parts_seen}
use Rattle.protobuf_parse_index.specs.Lookups.{field_numbered}
use Rattle.protobuf_parse_index.specs.Walk.{Standing, all_extensions, all_messages}
use Rattle.protobuf_parse_decode.specs.Declarations.{Declared, declaration}
use Rattle.protobuf_parse_wire_changes.specs.declared.change.WireChangeKind.{WireChangeKind}
use Rattle.protobuf_parse_wire_changes.specs.declared.change.WireChangeKind.TheVariants as kind
use Rattle.protobuf_parse_wire_changes.specs.declared.strength.Strength.{Strength}
use Rattle.protobuf_parse_wire_changes.specs.Partners.{Partners, partner}
use Rattle.protobuf_parse_wire_changes.specs.Seen.{has_to_be_utf8}
use Rattle.protobuf_parse_wire_changes.specs.Types.{takes_place}

-- ---- messages that go together

-- whether it is that text
abbrev pub is_text : Option Text → Text → Bool
is_text None t = false
is_text (Some s) t = bytes_eq s t

-- whether the message that a new field holds goes with the one that the old field holds
abbrev pub go_together : Partners → (old_name new_name : Option Text) → Bool
go_together partners None n = false
go_together partners (Some o) None = false
go_together partners (Some o) (Some n) = is_text (partners o) n

-- what is compared: files, which of their messages go together, and how much has to stay
pub record Comparison : Type 0 where
  pub strength : Strength
  pub old : List FileDescriptor
  pub new : List FileDescriptor
  pub partners : Partners

-- ---- one field

-- a field's type, and what else counts of its declaration
pub record Typed : Type 0 where
  pub type_ : FieldType
  pub declared : Declared

-- Numbers may be packed where the old field is repeated, and then the new one has to be.
abbrev pub repeated_change : (old new : Bool) → Option WireChangeKind
repeated_change true false = Some kind.NotRepeated
repeated_change true true = None
repeated_change false new = None

-- What needn't be UTF-8 may not have to.
abbrev pub utf8_change : (old new : Bool) → Option WireChangeKind
utf8_change false true = Some kind.BytesBecameText
utf8_change false false = None
utf8_change true new = None

-- The messages have to go together.
abbrev pub message_change : (together : Bool) → Option WireChangeKind
message_change true = None
message_change false = Some kind.OtherMessage

-- of two fields whose types can take one another's place, by the old one
abbrev pub change_inside : Partners → FieldType → (f g : Declared) → Option WireChangeKind
change_inside partners types.String f g =
    utf8_change (has_to_be_utf8 f.sort) (has_to_be_utf8 g.sort)
change_inside partners types.Bytes f g =
    utf8_change (has_to_be_utf8 f.sort) (has_to_be_utf8 g.sort)
change_inside partners types.Message f g =
    message_change (go_together partners f.type_name g.type_name)
change_inside partners types.Group f g =
    message_change (go_together partners f.type_name g.type_name)
change_inside partners t f g = repeated_change f.repeated g.repeated

-- what changed from an old field to a new one, if anything
abbrev pub change_of : Comparison → (f g : Typed) → Option WireChangeKind
change_of c f g = if takes_place c.strength f.type_ g.type_
    then change_inside c.partners f.type_ f.declared g.declared else Some kind.OtherKind

-- ---- a number

-- a change of the fields with that number, of two messages that go together
pub record Change : Type 0 where
  pub kind : WireChangeKind
  pub message : Text
  pub old_message : Text
  pub number : ℤ

-- the message's field, or extension, with that number
abbrev pub typed_in : List FileDescriptor → (message : Text) → ℤ → Option Typed
typed_in files message z = option_map
    (λ (f : FieldDescriptor).
    record { type_ = f.type_; declared = declaration files message z f })
    (field_numbered files message z)

-- what changed where both messages have a field
abbrev pub change_if_both : Comparison → Option Typed → Option Typed → Option WireChangeKind
change_if_both c None g = None
change_if_both c (Some f) None = None
change_if_both c (Some f) (Some g) = change_of c f g

-- what changed of the fields with that number
abbrev pub change_at : Comparison → (o n : Text) → ℤ → Option WireChangeKind
change_at c o n z = change_if_both c (typed_in c.old o z) (typed_in c.new n z)

-- a list of the change, if there is one
abbrev pub listed : (o n : Text) → ℤ → Option WireChangeKind → List Change
listed o n z None = []
listed o n z (Some k) = record { kind = k; message = n; old_message = o; number = z } ∷ []

-- the same of a message of the old files and the one that goes with it, if one does
abbrev pub changes_at : Comparison → (o : Text) → Option Text → ℤ → List Change
changes_at c o None z = []
changes_at c o (Some n) z = listed o n z (change_at c o n z)

-- of a message of the old files, by its full name, and the one that goes with it
abbrev pub number_changes : Comparison → (message : Text) → ℤ → List Change
number_changes c o z = changes_at c o (c.partners o) z

-- ---- all numbers

-- of the fields that a message of the old files declares itself
abbrev pub message_changes : Comparison → Standing MessageDescriptor → List Change
message_changes c m = flat_map (λ (f : FieldDescriptor). number_changes c m.name f.number)
    (parts_seen m.what).field

-- of an extension of that message
abbrev pub extendee_changes : Comparison → (extendee : Option Text) → ℤ → List Change
extendee_changes c None z = []
extendee_changes c (Some o) z = number_changes c o z

-- of an extension that the old files declare
abbrev pub extension_changes : Comparison → Standing FieldDescriptor → List Change
extension_changes c e = extendee_changes c e.what.extendee e.what.number

-- of all messages of the old files, in order, and then of all their extensions
abbrev pub all_changes : Comparison → List Change
all_changes c = flat_map (message_changes c) (all_messages c.old)
    ++ flat_map (extension_changes c) (all_extensions c.old)

-- of files, with the messages of these that go together
abbrev pub comparison : Strength → (old new : List FileDescriptor) → Comparison
comparison st old new =
    record { strength = st; old = old; new = new; partners = partner old new }

-- the changes on the wire from the old files to the new ones
abbrev pub wire_changes : Strength → (old new : List FileDescriptor) → List Change
wire_changes st old new = all_changes (comparison st old new)
