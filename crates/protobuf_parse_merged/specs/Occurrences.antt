-- The values of a message's fields where they stand, and what is no value of a field.
use Rattle.std.specs.Prelude.{ℕ, ℤ, ◌==◌, Bool, false, not, ◌&&◌, ◌||◌, List, [], ◌∷◌, ◌++◌}
use Rattle.std.specs.Prelude.{Option, Some, None, if◌then◌else◌}
use Rattle.std.specs.Option.{option_to_list}
use Rattle.protobuf_parse_model.specs.Descriptors.{FileDescriptor}
use Rattle.protobuf_parse_decode.specs.Fields as decoded
use Rattle.protobuf_parse_merged.specs.Merged.{Value, Unknown, record_of, word_of, number, float}
use Rattle.protobuf_parse_merged.specs.Merged.{double, truth, text, bytes}
use Rattle.protobuf_parse_merged.specs.Declarations.{Declared, FieldsByNumber, declared_in}
use Rattle.protobuf_parse_merged.specs.Declarations.{is_declared}

-- what stands there: a value, or the fields of a message that is to be merged
pub data Held : Type 0 where
  plain : Value → Held
  inside : decoded.Fields → Held

-- a value of the field of that number, and the oneof of the field
pub record Occurrence : Type 0 where
  pub number : ℕ
  pub oneof : Option ℕ
  pub held : Held

-- a value that was decoded
abbrev pub held_of : decoded.Value → Held
held_of (decoded.number u v) = plain (number u v)
held_of (decoded.float u) = plain (float u)
held_of (decoded.double u) = plain (double u)
held_of (decoded.truth u b) = plain (truth b)
held_of (decoded.text bs) = plain (text bs)
held_of (decoded.bytes bs) = plain (bytes bs)
held_of (decoded.message fs) = inside fs

-- ---- what is no value of a field

-- whether a value is a number that the field's closed enum doesn't declare
abbrev pub is_undeclared : List FileDescriptor → Declared → decoded.Value → Bool
is_undeclared files d (decoded.number u v) = d.closed && not (is_declared files d.type_name v)
is_undeclared files d (decoded.float u) = false
is_undeclared files d (decoded.double u) = false
is_undeclared files d (decoded.truth u b) = false
is_undeclared files d (decoded.text bs) = false
is_undeclared files d (decoded.bytes bs) = false
is_undeclared files d (decoded.message fs) = false

-- whether one of the values is
abbrev pub any_undeclared : List FileDescriptor → Declared → decoded.Values → Bool
any_undeclared files d decoded.no_values = false
any_undeclared files d (decoded.value v vs) = is_undeclared files d v || any_undeclared files d vs

-- the same of what a record means
abbrev pub means_undeclared : List FileDescriptor → Declared → decoded.Meaning → Bool
means_undeclared files d decoded.unknown = false
means_undeclared files d (decoded.known vs) = any_undeclared files d vs

-- whether a record of the field of that number holds such a value
abbrev pub holds_undeclared : List FileDescriptor → Declared → ℕ → decoded.Fields → Bool
holds_undeclared files d n decoded.no_fields = false
holds_undeclared files d n (decoded.field m whole meaning fs) =
    ((m == n) && means_undeclared files d meaning) || holds_undeclared files d n fs

-- whether the entry of a map has a value that its closed enum doesn't declare
abbrev pub is_undeclared_entry : List FileDescriptor → (value : Option Declared) → decoded.Fields
    → Bool
is_undeclared_entry files None fs = false
is_undeclared_entry files (Some d) fs = holds_undeclared files d 2 fs

-- the varint of a number, where it is none of the field
abbrev pub stray_number : List FileDescriptor → Declared → ℕ → ℕ → ℤ → Option Unknown
stray_number files d n u v =
    if d.closed && not (is_declared files d.type_name v) then Some (word_of n u) else None

-- the record of a map's entry, where that has no value of the map
abbrev pub stray_entry : List FileDescriptor → Declared → ℕ → List ℕ → decoded.Fields
    → Option Unknown
stray_entry files d n whole fs =
    if d.is_map && is_undeclared_entry files (declared_in files d.type_name 2) fs
    then Some (record_of n whole)
    else None

-- what a value of a record is, if it is none of the field (Protocol Buffers, "Enum Behavior")
abbrev pub stray : List FileDescriptor → Declared → ℕ → List ℕ → decoded.Value → Option Unknown
stray files d n whole (decoded.number u v) = stray_number files d n u v
stray files d n whole (decoded.float u) = None
stray files d n whole (decoded.double u) = None
stray files d n whole (decoded.truth u b) = None
stray files d n whole (decoded.text bs) = None
stray files d n whole (decoded.bytes bs) = None
stray files d n whole (decoded.message fs) = stray_entry files d n whole fs

-- ---- records

-- a value, but one that is none of the field
abbrev pub unless_stray : Option Unknown → Occurrence → List Occurrence
unless_stray None o = o ∷ []
unless_stray (Some u) o = []

-- the values of a record
abbrev pub occurrences_in : List FileDescriptor → Declared → ℕ → List ℕ → decoded.Values
    → List Occurrence
occurrences_in files d n whole decoded.no_values = []
occurrences_in files d n whole (decoded.value v vs) =
    unless_stray (stray files d n whole v)
    (record { number = n; oneof = d.oneof; held = held_of v })
    ++ occurrences_in files d n whole vs

-- what of its values is none of the field
abbrev pub strays_in : List FileDescriptor → Declared → ℕ → List ℕ → decoded.Values → List Unknown
strays_in files d n whole decoded.no_values = []
strays_in files d n whole (decoded.value v vs) =
    option_to_list (stray files d n whole v) ++ strays_in files d n whole vs

-- the values of a record, by the declaration of its field
abbrev pub occurrences_of : List FileDescriptor → Option Declared → ℕ → List ℕ → decoded.Meaning
    → List Occurrence
occurrences_of files d n whole decoded.unknown = []
occurrences_of files None n whole (decoded.known vs) = []
occurrences_of files (Some d) n whole (decoded.known vs) = occurrences_in files d n whole vs

-- a record that is unknown
abbrev pub record_unknown : ℕ → List ℕ → List Unknown
record_unknown n whole = record_of n whole ∷ []

-- what of a record is no value of a field
abbrev pub unknown_of : List FileDescriptor → Option Declared → ℕ → List ℕ → decoded.Meaning
    → List Unknown
unknown_of files d n whole decoded.unknown = record_unknown n whole
unknown_of files None n whole (decoded.known vs) = record_unknown n whole
unknown_of files (Some d) n whole (decoded.known vs) = strays_in files d n whole vs

-- the values of records, in order
unfoldable pub occurrences : List FileDescriptor → FieldsByNumber → decoded.Fields
    → List Occurrence
occurrences files declared decoded.no_fields = []
occurrences files declared (decoded.field n whole meaning fs) =
    occurrences_of files (declared n) n whole meaning ++ occurrences files declared fs

-- what is no value, in order
unfoldable pub unknown_among : List FileDescriptor → FieldsByNumber → decoded.Fields
    → List Unknown
unknown_among files declared decoded.no_fields = []
unknown_among files declared (decoded.field n whole meaning fs) =
    unknown_of files (declared n) n whole meaning ++ unknown_among files declared fs
