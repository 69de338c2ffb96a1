-- What is left of the records of a message. Protocol Buffers Encoding
-- (https://protobuf.dev/programming-guides/encoding/), "Last One Wins".
use Rattle.std.specs.Prelude.{ℕ, zero, suc, pos, ◌^◌, ◌==◌, Bool, true, false, not, ◌&&◌, List, []}
use Rattle.std.specs.Prelude.{◌∷◌, ◌++◌, map, filter, Option, Some, None, if◌then◌else◌}
use Rattle.std.specs.Ordering.{int_eq}
use Rattle.protobuf_parse_model.specs.Descriptors.{Text, FileDescriptor}
use Rattle.protobuf_parse_decode.specs.Fields as decoded
use Rattle.protobuf_parse_decode.specs.Laws.{join}
use Rattle.protobuf_parse_merged.specs.Answers.{Answer, ◌>>=◌}
use Rattle.protobuf_parse_merged.specs.Merged.{Value, number, float, double, truth, text, bytes}
use Rattle.protobuf_parse_merged.specs.Merged.{message, Message, a_message, FieldItem, fields_of}
use Rattle.protobuf_parse_merged.specs.Merged.{Unknown}
use Rattle.protobuf_parse_merged.specs.Declarations.{Declared, FieldsByNumber, declared_in}
use Rattle.protobuf_parse_merged.specs.Occurrences.{Held, plain, inside, Occurrence, occurrences}
use Rattle.protobuf_parse_merged.specs.Occurrences.{unknown_among}
use Rattle.protobuf_parse_merged.specs.Oneofs.{counting}
use Rattle.protobuf_parse_merged.specs.Defaults.{defaults}
use Rattle.protobuf_parse_merged.specs.Maps.{arranged}

-- what is left of such records, as the message of that name
abbrev pub Inner : Type 0
Inner = Text → decoded.Fields → Answer Message

-- ---- one value

-- whether a value is the one that a field with implicit presence has where nothing is there
abbrev pub is_zero : Value → Bool
is_zero (number u v) = int_eq v (pos 0)
is_zero (float u) = u == 0
is_zero (double u) = u == 0
is_zero (truth b) = not b
is_zero (text []) = true
is_zero (text (b ∷ bs)) = false
is_zero (bytes []) = true
is_zero (bytes (b ∷ bs)) = false
is_zero (message m) = false

-- the last of what stands there
abbrev pub last_of : List Held → Option Held
last_of [] = None
last_of (h ∷ []) = Some h
last_of (h ∷ (k ∷ hs)) = last_of (k ∷ hs)

-- the fields of all messages among it, joined in order
abbrev pub joined : List Held → decoded.Fields
joined [] = decoded.no_fields
joined (plain v ∷ hs) = joined hs
joined (inside fs ∷ hs) = join fs (joined hs)

-- a value, but where a zero says nothing
abbrev pub unless_zero : (implicit : Bool) → Value → List Value
unless_zero implicit v = if implicit && is_zero v then [] else v ∷ []

-- all messages that stand there, merged as one
abbrev pub as_one : Inner → Text → List Held → Answer (List Value)
as_one inner name hs = do
  m ← inner name (joined hs)
  Some (message m ∷ [])

-- The value that counts, by the last of all: that one, or all messages merged as one.
abbrev pub by_last : Inner → Declared → List Held → Option Held → Answer (List Value)
by_last inner d hs None = Some []
by_last inner d hs (Some (plain v)) = Some (unless_zero d.implicit v)
by_last inner d hs (Some (inside fs)) = as_one inner d.type_name hs

-- ---- all values

-- what stands there, a message merged
abbrev pub value_of : Inner → Text → Held → Answer Value
value_of inner name (plain v) = Some v
value_of inner name (inside fs) = do
  m ← inner name fs
  Some (message m)

-- the same of each
abbrev pub each_value : Inner → Text → List Held → Answer (List Value)
each_value inner name [] = Some []
each_value inner name (h ∷ hs) = do
  v ← value_of inner name h
  vs ← each_value inner name hs
  Some (v ∷ vs)

-- all values, those of a map by their keys
abbrev pub all_values : Inner → Declared → List Held → Answer (List Value)
all_values inner d hs = do
  vs ← each_value inner d.type_name hs
  Some (arranged d.is_map vs)

-- ---- fields

-- the values of a field, of all that stands there
abbrev pub field_values : Inner → Option Declared → List Held → Answer (List Value)
field_values inner None hs = Some []
field_values inner (Some d) hs =
    if d.repeated then all_values inner d hs else by_last inner d hs (last_of hs)

-- all that stands there of a number, in order
abbrev pub held_at : ℕ → List Occurrence → List Held
held_at n os = map (λ (o : Occurrence). o.held) (filter (λ (o : Occurrence). o.number == n) os)

-- a field, if it has values
abbrev pub present : ℕ → List Value → List FieldItem
present n [] = []
present n (v ∷ vs) = record { number = n; values = v ∷ vs } ∷ []

-- the fields with numbers below that one, in ascending order
unfoldable pub fields_below : Inner → FieldsByNumber → List Occurrence → ℕ
    → Answer (List FieldItem)
fields_below inner declared os zero = Some []
fields_below inner declared os (suc n) = do
  fs ← fields_below inner declared os n
  vs ← field_values inner (declared n) (held_at n os)
  Some (fs ++ present n vs)

-- ---- messages

-- a message of these fields, and what is unknown
abbrev pub with_fields : Answer (List FieldItem) → List Unknown → Answer Message
with_fields fields unknown = do
  items ← fields
  Some (a_message (fields_of items) unknown)

-- a message of fields that are declared so
abbrev pub message_of : List FileDescriptor → Inner → FieldsByNumber
    → (front : List Occurrence) → decoded.Fields → Answer Message
message_of files inner declared front fs =
    with_fields
    (fields_below inner declared (counting (front ++ occurrences files declared fs)) (2 ^ 32))
    (unknown_among files declared fs)

-- What is left of records, as the message of that name, of at most so many levels of messages and
-- groups, itself one.
unfoldable pub merged_within : List FileDescriptor → (levels : ℕ) → Inner
merged_within files zero name fs = None
merged_within files (suc levels) name fs =
    message_of files (merged_within files levels) (declared_in files name) (defaults files name) fs

-- What is left of the fields of a message, by the files that declare it. The decoder gives a hundred
-- levels, and the empty message of an entry that has no value may be one more.
abbrev pub merged_message : List FileDescriptor → (name : Text) → decoded.Fields → Answer Message
merged_message files name fs = merged_within files 101 name fs
