-- What the definitions mean for who reads a set.
use Rattle.std.specs.Prelude.{◌≡◌, ℕ, ◌<◌, ℤ, pos, negsuc, true, false, List, length}
use Rattle.std.specs.Prelude.{[], ◌∷◌, slice_get, Option, Some, None, IsPermutation}
use Rattle.std.specs.List.{slice_index_or}
use Rattle.protobuf_parse_model.specs.Descriptors.{FieldDescriptor, OneofDescriptor, MessageParts}
use Rattle.protobuf_parse_wire.specs.Trees.{Entries, entry}
use Rattle.protobuf_parse_wire.specs.Wire.{Spells}
use Rattle.protobuf_parse_descriptor_set.specs.Items.{Items}
use Rattle.protobuf_parse_descriptor_set.specs.OneofOrder.{synthetic, oneofs_in_set, moved_index}
use Rattle.protobuf_parse_descriptor_set.specs.OneofOrder.{field_in_set}

-- ---- options

-- these fields, and then the others
abbrev pub followed_by : Items → Entries → Entries
followed_by [] others = others
followed_by (i ∷ items) others = entry i.number i.kind i.value (followed_by items others)

-- Where the bytes of the custom options spell some fields, the bytes of the whole spell the
-- built-in options and then these fields: all is one message.
abbrev pub AreOneMessage : {A : Type 0} → (A → Items) → (A → List ℕ) → (A → List ℕ) → Type 0
AreOneMessage {A} built_in custom bytes = (options : A) (denoted : Entries)
    → Spells denoted (custom options)
    → Spells (followed_by (built_in options) denoted) (bytes options)

-- ---- oneofs

-- the oneof that a field says it is in, among these
abbrev pub oneof_at : List OneofDescriptor → Option ℤ → Option OneofDescriptor
oneof_at oneofs None = None
oneof_at oneofs (Some (pos i)) = slice_get oneofs i
oneof_at oneofs (Some (negsuc i)) = None

-- The set has the oneofs of the message in another order. Each field stays in its oneof, and with
-- just the fields that are in it. Behind a synthetic oneof stand synthetic ones alone.
pub record OneofsAreMoved (m : MessageParts) : Type 0 where
  pub permutation : IsPermutation m.oneof_decl (oneofs_in_set m)
  pub stays : (f : FieldDescriptor)
      → oneof_at (oneofs_in_set m) (field_in_set (synthetic m) f).oneof_index
      ≡ oneof_at m.oneof_decl f.oneof_index
  pub apart : (f g : FieldDescriptor)
      → (field_in_set (synthetic m) f).oneof_index ≡ (field_in_set (synthetic m) g).oneof_index
      → f.oneof_index ≡ g.oneof_index
  pub last : (i j : ℕ) → i < length m.oneof_decl → j < length m.oneof_decl
      → slice_index_or (synthetic m) i false ≡ false → slice_index_or (synthetic m) j false ≡ true
      → moved_index (synthetic m) i < moved_index (synthetic m) j
