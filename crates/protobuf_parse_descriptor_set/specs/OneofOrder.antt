-- The order of a message's oneofs in the set. Readers want synthetic oneofs behind all others
-- (DescriptorPool of the protobuf library: "Synthetic oneofs must be after all other oneofs"), and
-- a descriptor has its oneofs in the order of declaration. So the set has the others first, each
-- kind in its order, and the fields say the new indices. Protocol Buffers, "How To Implement Field
-- Presence for Proto3", has what a synthetic oneof is.
use Rattle.std.specs.Prelude.{ℕ, ◌+◌, ℤ, pos, negsuc, nat_lt, ◌==◌, Bool, false, not}
use Rattle.std.specs.Prelude.{List, [], ◌∷◌, ◌++◌, map, filter, count_by, take, length}
use Rattle.std.specs.Prelude.{Option, Some, None, if◌then◌else◌}
use Rattle.std.specs.List.{range_with_len, slice_index_or}
use Rattle.protobuf_parse_model.specs.Descriptors.{FieldDescriptor, OneofDescriptor, MessageParts}

-- ---- which oneofs are synthetic

-- whether a field says that it is in the oneof at an index
abbrev pub is_index : ℕ → Option ℤ → Bool
is_index index None = false
is_index index (Some (pos i)) = i == index
is_index index (Some (negsuc i)) = false

-- whether a field is in the oneof at an index
abbrev pub is_member : ℕ → FieldDescriptor → Bool
is_member index f = is_index index f.oneof_index

-- the fields in it
abbrev pub members : List FieldDescriptor → ℕ → List FieldDescriptor
members fields index = filter (is_member index) fields

-- one field alone, which is `optional` in proto3
abbrev pub is_one_optional : List FieldDescriptor → Bool
is_one_optional [] = false
is_one_optional (f ∷ []) = f.proto3_optional
is_one_optional (f ∷ g ∷ fs) = false

-- whether the oneof at an index is synthetic
abbrev pub is_synthetic : List FieldDescriptor → ℕ → Bool
is_synthetic fields index = is_one_optional (members fields index)

-- of each oneof, whether it is synthetic
abbrev pub synthetic : MessageParts → List Bool
synthetic m = map (is_synthetic m.field) (range_with_len 0 (length m.oneof_decl))

-- ---- the order

-- the elements that are marked, and the others
abbrev pub marked : {X : Type 0} → List Bool → List X → List X
marked [] xs = []
marked (b ∷ marks) [] = []
marked (b ∷ marks) (x ∷ xs) = if b then x ∷ marked marks xs else marked marks xs

-- those that are not marked
abbrev pub unmarked : {X : Type 0} → List Bool → List X → List X
unmarked marks xs = marked (map not marks) xs

-- the oneofs of a message in the order of the set
abbrev pub oneofs_in_set : MessageParts → List OneofDescriptor
oneofs_in_set m = unmarked (synthetic m) m.oneof_decl ++ marked (synthetic m) m.oneof_decl

-- ---- the index of each

-- how many of the first ones are marked, and how many aren't
abbrev pub marks_before : List Bool → ℕ → ℕ
marks_before marks index = count_by (λ b. b) (take index marks)

-- how many of the first ones are not marked
abbrev pub others_before : List Bool → ℕ → ℕ
others_before marks index = count_by not (take index marks)

-- where what stands at an index comes to stand, once what is marked stands behind all others
abbrev pub new_index : List Bool → ℕ → ℕ
new_index marks index =
    if slice_index_or marks index false then count_by not marks + marks_before marks index
    else others_before marks index

-- an index of no oneof stays as it is
abbrev pub moved_index : List Bool → ℕ → ℕ
moved_index marks index = if nat_lt index (length marks) then new_index marks index else index

-- the index that a field says in the set
abbrev pub index_in_set : List Bool → Option ℤ → Option ℤ
index_in_set marks None = None
index_in_set marks (Some (pos i)) = Some (pos (moved_index marks i))
index_in_set marks (Some (negsuc i)) = Some (negsuc i)

-- a field with another index
abbrev pub field_at : FieldDescriptor → Option ℤ → FieldDescriptor
field_at f index = record f { oneof_index = index }

-- a field as the set has it
abbrev pub field_in_set : List Bool → FieldDescriptor → FieldDescriptor
field_in_set marks f = field_at f (index_in_set marks f.oneof_index)

-- the fields of a message as the set has them
abbrev pub fields_in_set : MessageParts → List FieldDescriptor
fields_in_set m = map (field_in_set (synthetic m)) m.field
