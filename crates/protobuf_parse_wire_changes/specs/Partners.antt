-- Which messages of new files go with those of old files: those of one full name, and then those to
-- which fields of one number lead.
use Rattle.std.specs.Prelude.{ℕ, zero, suc, ℤ, ◌+◌, Bool, ◌&&◌, List, [], ◌∷◌, ◌++◌, length, find}
use Rattle.std.specs.Prelude.{Option, Some, None, if◌then◌else◌, option_map, flat_map, not}
use Rattle.std.specs.Prelude.{is_some, bytes_eq, slice_get}
use Rattle.std.specs.Option.{option_and_then}
use Rattle.protobuf_parse_model.specs.Descriptors.{Text, FileDescriptor, FieldDescriptor}
use Rattle.protobuf_parse_model.specs.Descriptors.{MessageDescriptor, parts_seen}
use Rattle.protobuf_parse_index.specs.Lookups.{field_numbered, message_named}
use Rattle.protobuf_parse_index.specs.Walk.{Standing, all_messages}

-- the message of the new files that goes with one of the old files, if any does, by full names
abbrev pub Partners : Type 0
Partners = Text → Option Text

-- the full names of a message of the old files and of the one that goes with it
pub record Pair : Type 0 where
  pub old : Text
  pub new : Text

-- the message that the first pair with that one has
abbrev pub partner_in : List Pair → Partners
partner_in pairs name =
    option_map (λ (p : Pair). p.new) (find (λ (p : Pair). bytes_eq name p.old) pairs)

-- whether files declare a message of that full name
abbrev pub declares : List FileDescriptor → (name : Text) → Bool
declares files name = is_some (message_named files name)

-- ---- of one name

-- a message of the old files, with that of the same name
abbrev pub with_itself : (new : List FileDescriptor) → Standing MessageDescriptor → List Pair
with_itself new m =
    if declares new m.name then record { old = m.name; new = m.name } ∷ [] else []

-- all such pairs, in the order of the old files
abbrev pub same_names : (old new : List FileDescriptor) → List Pair
same_names old new = flat_map (with_itself new) (all_messages old)

-- ---- where fields lead

-- the message that the field of that number holds, or the enum that it is of
abbrev pub type_at : List FileDescriptor → (message : Text) → ℤ → Option Text
type_at files message z =
    option_and_then (λ (f : FieldDescriptor). f.type_name) (field_numbered files message z)

-- whether a message of the old files is in a pair
abbrev pub has_partner : List Pair → (name : Text) → Bool
has_partner pairs name = is_some (partner_in pairs name)

-- One more pair, if both are messages and the old one goes with none.
abbrev pub with_messages : (old new : List FileDescriptor) → (o n : Text) → List Pair → List Pair
with_messages old new o n pairs =
    if not (has_partner pairs o) && declares old o && declares new n
    then pairs ++ record { old = o; new = n } ∷ [] else pairs

-- the same, if both fields say a type
abbrev pub with_types : (old new : List FileDescriptor) → (o n : Option Text) → List Pair
    → List Pair
with_types old new None n pairs = pairs
with_types old new (Some o) None pairs = pairs
with_types old new (Some o) (Some n) pairs = with_messages old new o n pairs

-- the same of the fields with that number, of two messages that go together
abbrev pub with_types_at : (old new : List FileDescriptor) → Pair → ℤ → List Pair → List Pair
with_types_at old new p z pairs =
    with_types old new (type_at old p.old z) (type_at new p.new z) pairs

-- the same of the numbers of these fields
abbrev pub with_fields : (old new : List FileDescriptor) → Pair → List FieldDescriptor
    → List Pair → List Pair
with_fields old new p [] pairs = pairs
with_fields old new p (f ∷ fs) pairs =
    with_fields old new p fs (with_types_at old new p f.number pairs)

-- the fields that a message declares itself
abbrev pub fields_of : Standing MessageDescriptor → List FieldDescriptor
fields_of m = (parts_seen m.what).field

-- the same of all fields of an old message, if it is declared
abbrev pub with_message : (old new : List FileDescriptor) → Pair
    → Option (Standing MessageDescriptor) → List Pair → List Pair
with_message old new p None pairs = pairs
with_message old new p (Some m) pairs = with_fields old new p (fields_of m) pairs

-- the same of a pair, if there is one
abbrev pub with_pair : (old new : List FileDescriptor) → Option Pair → List Pair → List Pair
with_pair old new None pairs = pairs
with_pair old new (Some p) pairs = with_message old new p (message_named old p.old) pairs

-- The pairs one after another, from that position on, so many of them, with those to which their
-- fields lead behind them.
abbrev pub with_more : (old new : List FileDescriptor) → (most at : ℕ) → List Pair → List Pair
with_more old new zero at pairs = pairs
with_more old new (suc most) at pairs =
    with_more old new most (at + 1) (with_pair old new (slice_get pairs at) pairs)

-- All pairs. A message of the old files is in one at most, so there are no more than messages.
abbrev pub pairs : (old new : List FileDescriptor) → List Pair
pairs old new = with_more old new (length (all_messages old)) 0 (same_names old new)

-- the message that goes with the one of that name
abbrev pub partner : (old new : List FileDescriptor) → Partners
partner old new = partner_in (pairs old new)
