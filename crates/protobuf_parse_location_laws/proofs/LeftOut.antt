-- Where no message is that of a map's entries, nothing is left out.
use Rattle.std.proofs.Common.{◌≡◌, ℕ, List, [], ◌∷◌, refl}
use Rattle.std.specs.List.{AllByRecursion}
use Rattle.protobuf_parse_source_info.specs.Parts.{next, nth}
use Rattle.protobuf_parse_source_info.specs.Walks.{Path}
use Rattle.protobuf_parse_model.specs.Descriptors.{MessageDescriptor, MessageDescriptors, Text}
use Rattle.protobuf_parse_model.specs.Descriptors.{a_message, messages, no_messages}
use Rattle.protobuf_parse_wire.specs.Declarations.{name_within, package_scope}
use Rattle.protobuf_parse_locations.specs.Declarations.{items, message_at, messages_at}
use Rattle.protobuf_parse_location_laws.specs.Law.{EntriesAloneAreLeftOut}
use Rattle.protobuf_parse_location_laws.specs.Written.{HasNoEntries, HaveNoEntries}
use Rattle.protobuf_parse_location_laws.specs.Written.{written_message, written_messages}

mutual
  whole_message : (scope : Text) (p : Path) (m : MessageDescriptor) → HasNoEntries m
      → written_message scope p m ≡ message_at scope p m
  whole_message scope p (a_message m nested) none =
      rw (none.0, whole_messages (name_within scope m.name) p 0 nested none.1) refl

  whole_messages : (scope : Text) (p : Path) (i : ℕ) (ms : MessageDescriptors) → HaveNoEntries ms
      → written_messages scope p i ms ≡ messages_at scope p i ms
  whole_messages scope p i no_messages none = refl
  whole_messages scope p i (messages m ms) none =
      rw (whole_message scope (nth p 3 i) m none.0, whole_messages scope p (next i) ms none.1) refl

whole_items : (scope : Text) (p : Path) (n i : ℕ) (ms : List MessageDescriptor)
    → AllByRecursion HasNoEntries ms
    → items (written_message scope) p n i ms ≡ items (message_at scope) p n i ms
whole_items scope p n i [] none = refl
whole_items scope p n i (m ∷ ms) none =
    rw (whole_message scope (nth p n i) m none.0, whole_items scope p n (next i) ms none.1) refl

pub entries_alone_are_left_out : EntriesAloneAreLeftOut
entries_alone_are_left_out f none =
    rw (whole_items (package_scope f.«package») [] 4 0 f.message_type none) refl
