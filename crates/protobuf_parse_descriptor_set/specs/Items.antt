-- The fields of a message with their values, in the order in which they are written. Protocol
-- Buffers Encoding, "Message Structure" (https://protobuf.dev/programming-guides/encoding/).
use Rattle.std.specs.Prelude.{ℕ, ℤ, Bool, true, false, List, [], ◌∷◌, Option, Some, None}
use Rattle.protobuf_parse_wire.specs.declared.kind.Kind.{Kind}
use Rattle.protobuf_parse_wire.specs.declared.kind.Kind.TheVariants as kinds
use Rattle.protobuf_parse_wire.specs.Trees as trees
use Rattle.protobuf_parse_wire.specs.Trees.{EntryTree}
use Rattle.protobuf_parse_wire.specs.Views.{WireItem, entries_of_list}
use Rattle.protobuf_parse_wire.specs.Encoded.{encoded}

-- fields with their values
abbrev pub Items : Type 0
Items = List WireItem

-- the bytes of a message that has them
unfoldable pub bytes_of : Items → List ℕ
bytes_of items = encoded (entries_of_list items)

-- ---- one field: its number, and its value

-- a value of a kind
abbrev pub item : ℕ → Kind → EntryTree → Items
item n kind value = record { number = n; kind = kind; value = value } ∷ []

-- a text
unfoldable pub text : ℕ → List ℕ → Items
text n t = item n kinds.String (trees.bytes t)

-- an int32
unfoldable pub int : ℕ → ℤ → Items
int n v = item n kinds.Int32 (trees.number v)

-- a value of an enum, by its number
unfoldable pub choice : ℕ → ℤ → Items
choice n v = item n kinds.Enum (trees.number v)

-- a truth value
unfoldable pub flag : ℕ → Bool → Items
flag n b = item n kinds.Bool (trees.truth b)

-- a message that has these fields
unfoldable pub part : ℕ → Items → Items
part n inside = item n kinds.Message (trees.message (entries_of_list inside))

-- a message whose bytes are given: on the wire it stands as bytes do
unfoldable pub whole : ℕ → List ℕ → Items
whole n inside = item n kinds.Bytes (trees.bytes inside)

-- ---- what need not be there

-- what is absent is not written
abbrev pub some : {A : Type 0} → (A → Items) → Option A → Items
some field None = []
some field (Some x) = field x

-- an options message, by its bytes, in which nothing is set is not written
abbrev pub options : ℕ → List ℕ → Items
options n [] = []
options n (b ∷ bs) = whole n (b ∷ bs)

-- what is false is not written
abbrev pub flag_if : ℕ → Bool → Items
flag_if n false = []
flag_if n true = flag n true
