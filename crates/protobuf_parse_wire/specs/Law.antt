-- What is spelled is read: the law between what bytes spell and the reader.
use Rattle.std.specs.Prelude.{◌≡◌, ℕ, pos, ◌+◌, ◌<◌, ◌≤◌, ◌^◌, max, List, [], ◌∷◌, ◌++◌, length}
use Rattle.std.specs.Prelude.{Contains, Some, Ok, IsTrue}
use Rattle.std.specs.Str.{IsUtf8}
use Rattle.protobuf_parse_model.specs.Descriptors.{Text, FileDescriptor, FieldDescriptor}
use Rattle.protobuf_parse_model.specs.Descriptors.{MessageParts}
use Rattle.protobuf_parse_wire.specs.declared.kind.Kind.{Kind}
use Rattle.protobuf_parse_wire.specs.Kinds.{KindShape, InRange, whole, truth, text, octets, message}
use Rattle.protobuf_parse_wire.specs.Kinds.{shape_of_kind, kind_of_field_type}
use Rattle.protobuf_parse_wire.specs.Trees as trees
use Rattle.protobuf_parse_wire.specs.Trees.{EntryTree, Entries, ValueTree, Field, fields_of_list}
use Rattle.protobuf_parse_wire.specs.Trees.{no_entries, entry}
use Rattle.protobuf_parse_wire.specs.Wire.{Spells}
use Rattle.protobuf_parse_wire.specs.Declarations.{messages_with_name, extensions_extending}
use Rattle.protobuf_parse_wire.specs.Declarations.{have_distinct_numbers}
use Rattle.protobuf_parse_wire.specs.Reading.{reader}

abbrev mutual
  -- the numbers and the values of the entries
  pub said : Entries → List Field
  said no_entries = []
  said (entry n k v others) = record { number = n; value = value_said v } ∷ said others

  -- the value of an entry
  pub value_said : EntryTree → ValueTree
  value_said (trees.number v) = trees.number v
  value_said (trees.truth b) = trees.truth b
  value_said (trees.bytes bs) = trees.bytes bs
  value_said (trees.message es) = trees.message (fields_of_list (said es))

abbrev mutual
  -- how many messages stand inside one another, the outer one too
  pub depth : Entries → ℕ
  depth no_entries = 1
  depth (entry n k v others) = max (value_depth v + 1) (depth others)

  -- of the messages in a value
  pub value_depth : EntryTree → ℕ
  value_depth (trees.number v) = 0
  value_depth (trees.truth b) = 0
  value_depth (trees.bytes bs) = 0
  value_depth (trees.message es) = depth es

-- A string is UTF-8.
abbrev pub IsText : KindShape → List ℕ → Type 0
IsText text bs = IsUtf8 bs
IsText octets bs = Unit {0}
IsText (whole word w code) bs = Unit {0}
IsText truth bs = Unit {0}
IsText message bs = Unit {0}

-- The message is declared exactly once, no two of its fields and extensions have one number, and P
-- holds of them.
pub record Enters (files : List FileDescriptor) (name : Text)
    (P : List FieldDescriptor → Type 0) : Type 0 where
  pub parts : MessageParts
  pub once : messages_with_name files name ≡ parts ∷ []
  pub distinct : IsTrue (have_distinct_numbers (parts.field ++ extensions_extending files name))
  pub inside : P (parts.field ++ extensions_extending files name)

-- The field is one of the fields, with the number and the kind. A descriptor's number has at most
-- 31 bits.
pub record IsFieldAmong (fields : List FieldDescriptor) (n : ℕ) (k : Kind)
    (f : FieldDescriptor) : Type 0 where
  pub declared : Contains fields f
  pub number : f.number ≡ pos n
  pub small : n < 2 ^ 31
  pub kind : kind_of_field_type f.type_ ≡ Some k

abbrev mutual
  -- Each entry has the number and the kind of one of the fields, and a value of that kind.
  pub Suit : List FileDescriptor → List FieldDescriptor → Entries → Type 0
  Suit files fields no_entries = Unit {0}
  Suit files fields (entry n k v others) = (f : FieldDescriptor) × IsFieldAmong fields n k f
      × ValueSuits files f (shape_of_kind k) v × Suit files fields others

  -- The value is one of such a kind; a message is one of the field's type.
  pub ValueSuits : List FileDescriptor → FieldDescriptor → KindShape → EntryTree → Type 0
  ValueSuits files f s (trees.number v) = InRange s v
  ValueSuits files f s (trees.truth b) = Unit {0}
  ValueSuits files f s (trees.bytes bs) = IsText s bs
  ValueSuits files f s (trees.message es) = (name : Text) × (f.type_name ≡ Some name)
      × Enters files name (λ fields. Suit files fields es)

-- Bytes (fewer than 2 ^ 64, as every slice has) that spell a list which suits the descriptors, with
-- at most 256 messages inside one another, are read as the numbers and values of the list.
abbrev pub SpelledIsRead : Type 0
SpelledIsRead =
    (files : List FileDescriptor) (name : Text) (es : Entries) (bs : List ℕ)
    → length bs < 2 ^ 64
    → Enters files name (λ fields. Suit files fields es)
    → depth es ≤ 256
    → Spells es bs
    → reader files name bs ≡ Ok (said es)
