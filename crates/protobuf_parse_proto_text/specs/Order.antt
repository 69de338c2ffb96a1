-- The order in which fields, extensions and nested messages are written: fields and extensions in
-- the descriptor's order, and messages as early as they can stand among the messages that fields
-- make, which are the entries of maps and groups. So each message has its position in the text too.
use Rattle.std.specs.Prelude.{ℕ, zero, suc, ◌-◌, max, ℤ, ◌==◌, ◌&&◌, Bool, true, false, not, List}
use Rattle.std.specs.Prelude.{[], ◌∷◌, ◌++◌, map, flat_map, filter, length, Option, Some, None}
use Rattle.std.specs.Prelude.{bytes_eq, is_none, slice_get, unwrap_or, if◌then◌else◌}
use Rattle.std.specs.List.{list_any, position_from}
use Rattle.std.specs.Option.{option_and_then}
use Rattle.std.specs.Ordering.{int_eq}
use Rattle.protobuf_parse_syntax.specs.declared.tree.field.Label.{Label}
use Rattle.protobuf_parse_syntax.specs.declared.tree.field.Label.TheVariants as label
use Rattle.protobuf_parse_model.specs.declared.descriptor.FieldType.{FieldType}
use Rattle.protobuf_parse_model.specs.declared.descriptor.FieldType.TheVariants as kind
use Rattle.protobuf_parse_model.specs.Descriptors.{Text, FieldDescriptor, OneofDescriptor}
use Rattle.protobuf_parse_model.specs.Descriptors.{MessageParts}
use Rattle.protobuf_parse_model.specs.Options.{MessageOptionValues}
use Rattle.protobuf_parse_wire.specs.Declarations.{name_within}
use Rattle.protobuf_parse_index.specs.Lookups.{at_index}

-- ---- which messages fields make

-- whether it is set, and true
abbrev pub is_set : Option Bool → Bool
is_set None = false
is_set (Some b) = b

-- whether the options say that the message is the entry of a map
abbrev pub says_entry : Option MessageOptionValues → Bool
says_entry None = false
says_entry (Some o) = is_set o.map_entry

-- whether the message is the entry of a map, with a key and a value
abbrev pub is_entry : MessageParts → Bool
is_entry m = says_entry m.options && (length m.field == 2)

-- whether the label is `repeated`
abbrev pub is_repeated : Label → Bool
is_repeated label.Optional = false
is_repeated label.Required = false
is_repeated label.Repeated = true

-- whether a field of that type and label makes the message that it holds
abbrev pub makes : FieldType → Label → MessageParts → Bool
makes kind.Group l m = true
makes kind.Message l m = is_repeated l && is_entry m
makes _ l m = false

-- the position of the first of these messages, which stand in the scope, with that full name
abbrev pub position_named : (scope name : Text) → List MessageParts → Option ℕ
position_named scope name nested =
    position_from (λ (m : MessageParts). bytes_eq name (name_within scope m.name)) 0 nested

-- a position, where the field makes the message that stands there
abbrev pub if_made : FieldDescriptor → ℕ → Option MessageParts → Option ℕ
if_made f at None = None
if_made f at (Some m) = if makes f.type_ f.label m then Some at else None

-- how a full name finds the position of one of the messages
abbrev pub Finds : Type 0
Finds = Text → Option ℕ

-- the first of these messages, which stand in the scope, that has the full name
abbrev pub finds_in : (scope : Text) → List MessageParts → Finds
finds_in scope nested = λ (name : Text). position_named scope name nested

-- the position of the message that a field makes, by the name of its type
abbrev pub made_named : Finds → List MessageParts → FieldDescriptor → Option Text → Option ℕ
made_named finds nested f None = None
made_named finds nested f (Some name) =
    option_and_then (λ (at : ℕ). if_made f at (slice_get nested at)) (finds name)

-- the position of the message that a field makes
abbrev pub made_by : Finds → List MessageParts → FieldDescriptor → Option ℕ
made_by finds nested f = made_named finds nested f f.type_name

-- ---- fields and extensions, and the braces around them

-- what braces around a field are of
pub data Block : Type 0 where
  -- there are none
  alone : Block
  -- a oneof, and its index
  in_oneof : ℤ → OneofDescriptor → Block
  -- `extend` of the message that has the name
  extending : Text → Block

-- a field or an extension, with the position of the message that it makes
pub record Member : Type 0 where
  pub field : FieldDescriptor
  pub made : Option ℕ
  pub block : Block

-- the oneof that was found by its index, if one was
abbrev pub block_if_some : ℤ → Option OneofDescriptor → Block
block_if_some index None = alone
block_if_some index (Some oneof) = in_oneof index oneof

-- the oneof at that index
abbrev pub block_at : List OneofDescriptor → ℤ → Block
block_at oneofs index = block_if_some index (at_index oneofs index)

-- the oneof at the index, if one is given
abbrev pub block_at_some : List OneofDescriptor → Option ℤ → Block
block_at_some oneofs None = alone
block_at_some oneofs (Some index) = block_at oneofs index

-- a field with the label `optional` in proto3 stands in no oneof of the text
abbrev pub oneof_block : List OneofDescriptor → FieldDescriptor → Block
oneof_block oneofs f =
    if f.proto3_optional then alone else block_at_some oneofs f.oneof_index

-- a field of a message
abbrev pub field_member : Finds → List MessageParts → List OneofDescriptor → FieldDescriptor
    → Member
field_member finds nested oneofs f =
    record { field = f; made = made_by finds nested f; block = oneof_block oneofs f }

-- an extension
abbrev pub extension_member : Finds → List MessageParts → FieldDescriptor → Member
extension_member finds nested f = record {
  field = f;
  made = made_by finds nested f;
  block = extending (unwrap_or f.extendee []);
}

-- extensions in that scope, beside which these messages stand
abbrev pub extension_members : (scope : Text) → List MessageParts → List FieldDescriptor
    → List Member
extension_members scope nested fs = map (extension_member (finds_in scope nested) nested) fs

-- the fields of a message, in which these messages stand, and then its extensions
abbrev pub message_members : (scope : Text) → List MessageParts → MessageParts → List Member
message_members scope nested m =
    map (field_member (finds_in scope nested) nested m.oneof_decl) m.field
    ++ extension_members scope nested m.extension

-- whether the block is the oneof of that position
abbrev pub is_same_oneof : ℤ → Block → Bool
is_same_oneof i (in_oneof j o) = int_eq i j
is_same_oneof i _ = false

-- whether the block extends the message of that name
abbrev pub is_same_extend : Text → Block → Bool
is_same_extend e (extending d) = bytes_eq e d
is_same_extend e _ = false

-- Whether the member stands in the block that is open. Each group of an extension begins one, so
-- that messages can stand before it.
abbrev pub goes_on : Block → Member → Bool
goes_on (in_oneof i o) m = is_same_oneof i m.block
goes_on (extending e) m = is_same_extend e m.block && is_none m.made
goes_on alone m = false

-- ---- the order

-- what stands in a body
pub data Part : Type 0 where
  -- the beginning and the end of a block
  begins : Block → Part
  ends : Block → Part
  -- a field or an extension
  declares : Member → Part
  -- the message at that position
  holds : ℕ → Part

-- a position, if there is one
abbrev pub position_if_some : Option ℕ → List ℕ
position_if_some None = []
position_if_some (Some at) = at ∷ []

-- the positions of the messages that members make
abbrev pub made_positions : List Member → List ℕ
made_positions ms = flat_map (λ (m : Member). position_if_some m.made) ms

-- the first of the positions, or the end
abbrev pub first_or : (end : ℕ) → List ℕ → ℕ
first_or end [] = end
first_or end (at ∷ ats) = at

-- so many numbers from one on
abbrev pub count_from : ℕ → ℕ → List ℕ
count_from from zero = []
count_from from (suc n) = from ∷ count_from (suc from) n

-- whether a message is made by a member, by its position
abbrev pub IsMade : Type 0
IsMade = ℕ → Bool

-- whether the position is one of these
abbrev pub stands_among : List ℕ → IsMade
stands_among made = λ (at : ℕ). list_any (λ (m : ℕ). m == at) made

-- the messages from one position to before another that no member makes
abbrev pub messages_between : IsMade → (from to : ℕ) → List Part
messages_between is_made from to =
    map holds (filter (λ (at : ℕ). not (is_made at)) (count_from from (to - from)))

-- What stands before a member, when a block is open and the messages up to a position are written:
-- nothing if the block goes on, and else the messages up to the next that a field makes.
abbrev pub parts_before : IsMade → Block → (from to : ℕ) → Member → List Part
parts_before is_made current from to m =
    if goes_on current m then [] else
    ends current ∷ (messages_between is_made from to ++ begins m.block ∷ [])

-- up to where messages are written then
abbrev pub written_before : Block → (from to : ℕ) → Member → ℕ
written_before current from to m = if goes_on current m then from else max from to

-- the members with the messages between them, and the messages that are left
abbrev pub parts_from : IsMade → (end : ℕ) → Block → (from : ℕ) → List Member → List Part
parts_from is_made end current from [] = ends current ∷ messages_between is_made from end
parts_from is_made end current from (m ∷ ms) =
    let to = first_or end (made_positions (m ∷ ms)) in
    parts_before is_made current from to m
    ++ declares m ∷ parts_from is_made end m.block (written_before current from to m) ms

-- members and so many messages in order
abbrev pub parts_of : (count : ℕ) → List Member → List Part
parts_of count members = parts_from (stands_among (made_positions members)) count alone 0 members
