-- No public clause rests on this file.
-- What the code passes on, as the definitions have it.
use Rattle.std.specs.Prelude.{◌≡◌, ◌≤◌, ℕ, List, [], ◌∷◌, ◌++◌, map}
use Rattle.std.specs.List.{AllByRecursion}
use Rattle.protobuf_parse_model.specs.Descriptors.{FileDescriptor}
use Rattle.protobuf_parse_decode.specs.Fields as decoded
use Rattle.protobuf_parse_decode.specs.Views.{fields_view}
use Rattle.protobuf_parse_merged.specs.declared.declared.Declared as codedecl
use Rattle.protobuf_parse_merged.specs.declared.occurrences.Scalar as codescalar
use Rattle.protobuf_parse_merged.specs.declared.occurrences.Scalar.TheVariants as scalar
use Rattle.protobuf_parse_merged.specs.declared.occurrences.Held as codeheld
use Rattle.protobuf_parse_merged.specs.declared.occurrences.Held.TheVariants as heldcase
use Rattle.protobuf_parse_merged.specs.declared.occurrences.Occurrence as codeocc
use Rattle.protobuf_parse_merged.specs.declared.message.FieldValue as codevalue
use Rattle.protobuf_parse_merged.specs.declared.message.FieldValue.{fold-FieldValue}
use Rattle.protobuf_parse_merged.specs.declared.message.Field as codefield
use Rattle.protobuf_parse_merged.specs.declared.message.Field.{fold-Field}
use Rattle.protobuf_parse_merged.specs.Merged.{Value, number, float, double, truth, text, bytes}
use Rattle.protobuf_parse_merged.specs.Merged.{FieldItem, Message, Unknown}
use Rattle.protobuf_parse_merged.specs.Declarations.{Declared, FieldsByNumber}
use Rattle.protobuf_parse_merged.specs.Occurrences.{Held, plain, inside, Occurrence}
use Rattle.protobuf_parse_merged.specs.Occurrences.{held_of, occurrences, stray}
use Rattle.protobuf_parse_merged.specs.Occurrences.{unknown_among, unless_stray}
use Rattle.protobuf_parse_merged.specs.Oneofs.{counting}
use Rattle.protobuf_parse_merged.specs.Merging.{held_at}
use Rattle.protobuf_parse_merged.specs.Views.{value_step, field_step, message_step}

-- a declaration
abbrev pub declared_view : codedecl.Declared → Declared
declared_view d = record {
  repeated = d.repeated;
  implicit = d.implicit;
  oneof = d.oneof;
  type_name = d.type_name.now;
  closed = d.closed;
  is_map = d.is_map;
}

-- a value that holds no message
abbrev pub scalar_view : codescalar.Scalar → Value
scalar_view (scalar.Number u v) = number u v
scalar_view (scalar.Float u) = float u
scalar_view (scalar.Double u) = double u
scalar_view (scalar.Bool b) = truth b
scalar_view (scalar.Text t) = text t.now
scalar_view (scalar.Bytes bs) = bytes bs.now

-- what stands somewhere
abbrev pub held_view : codeheld.Held → Held
held_view (heldcase.Plain s) = plain (scalar_view s)
held_view (heldcase.Inside fs) = inside (fields_view fs.now)

-- a value where it stands
abbrev pub occurrence_view : codeocc.Occurrence → Occurrence
occurrence_view o = record { number = o.number; oneof = o.oneof; held = held_view o.held }

-- a value that was decoded, where it stands, if it is one of the field
abbrev pub occurrence_of : List FileDescriptor → Declared → ℕ → List ℕ → decoded.Value
    → List Occurrence
occurrence_of files d n whole v = unless_stray (stray files d n whole v)
    (record { number = n; oneof = d.oneof; held = held_of v })

-- a value
abbrev pub value_view : codevalue.FieldValue → Value
value_view = fold-FieldValue Value FieldItem Message value_step field_step message_step

-- a field
abbrev pub field_view : codefield.Field → FieldItem
field_view = fold-Field Value FieldItem Message value_step field_step message_step

-- what stands there, without numbers
abbrev pub held_in : List Occurrence → List Held
held_in os = map (λ (o : Occurrence). o.held) os

-- the fields of a message that stands there, or none
abbrev pub fields_in : Held → decoded.Fields
fields_in (plain v) = decoded.no_fields
fields_in (inside fs) = fs

-- the numbers ascend, from that one on
abbrev pub Ascends : ℕ → List Occurrence → Type 0
Ascends n [] = Unit {0}
Ascends n (o ∷ os) = (n ≤ o.number) × Ascends o.number os

-- All have that number.
abbrev pub AreOf : ℕ → List Occurrence → Type 0
AreOf n os = AllByRecursion (λ (o : Occurrence). o.number ≡ n) os

-- The first has another number.
abbrev pub StartsOtherwise : ℕ → List Occurrence → Type 0
StartsOtherwise n [] = Unit {0}
StartsOtherwise n (o ∷ os) = o.number ≡ n → ⊥

-- The same stands there of each number, in ascending order of these.
pub record IsByNumber (os sorted : List Occurrence) : Type 0 where
  pub same : (n : ℕ) → held_at n sorted ≡ held_at n os
  pub ascends : Ascends 0 sorted

-- What was told of records: their values by numbers, behind defaults, and what is unknown.
pub record IsTold (files : List FileDescriptor) (declared : FieldsByNumber)
    (front : List Occurrence) (fs : decoded.Fields) (os : List Occurrence) (us : List Unknown) : Type 0 where
  pub by_number : IsByNumber (counting (front ++ occurrences files declared fs)) os
  pub unknown : us ≡ unknown_among files declared fs
