-- No public clause rests on this file.
-- What the reader's indexes say: by name the messages and the extensions of files, by number the
-- fields of a message.
use Rattle.std.specs.Prelude.{◌≡◌, ℕ, ◌^◌, ◌≤◌, nat_lt, if◌then◌else◌, ℤ, pos, true, List, ◌++◌}
use Rattle.std.specs.Prelude.{map, filter, find, Option, Some, None, Ok, Err, option_map, IfSome}
use Rattle.std.specs.Ordering.{int_cmp, int_eq}
use Rattle.std.specs.List.{flat_map}
use Rattle.std.specs.Borrow.{Bor}
use Rattle.std.specs.BTreeMap.{BTreeMap, get, get_by_text}
use Rattle.protobuf_parse_model.specs.declared.descriptor.DescriptorProto.{DescriptorProto}
use Rattle.protobuf_parse_model.specs.declared.descriptor.FieldDescriptorProto.{FieldDescriptorProto}
use Rattle.protobuf_parse_model.specs.Descriptors.{Text, FileDescriptor, FieldDescriptor}
use Rattle.protobuf_parse_model.specs.Descriptors.{MessageParts, parts_seen}
use Rattle.protobuf_parse_model.specs.Descriptors.{message_view, field_view}
use Rattle.protobuf_parse_wire.specs.declared.fault.ReadFault.TheVariants.{UnknownMessage}
use Rattle.protobuf_parse_wire.specs.declared.reader.index.Index.{Index}
use Rattle.protobuf_parse_wire.specs.declared.reader.visited.Visited.{Visited}
use Rattle.protobuf_parse_base.specs.Multimaps.{values_under}
use Rattle.protobuf_parse_wire.specs.Declarations.{Declaration, messages_named, messages_with_name}
use Rattle.protobuf_parse_wire.specs.Declarations.{extends, extensions_extending}
use Rattle.protobuf_parse_wire.specs.Declarations.{have_distinct_numbers}
use Rattle.protobuf_parse_wire.specs.Reading.{WireRead, FieldsByNumber, only_one}

-- what the index has under a name
abbrev pub indexed_messages : Index → Text → List MessageParts
indexed_messages index name =
    map (λ (m : Bor DescriptorProto). parts_seen (message_view m.now))
    (values_under index.messages name)

abbrev pub indexed_extensions : Index → Text → List FieldDescriptor
indexed_extensions index name =
    map (λ (f : Bor FieldDescriptorProto). field_view f.now) (values_under index.extensions name)

-- entering a message by the index
abbrev pub entered_by : Index → Option Text → WireRead FieldsByNumber
entered_by index None = Err UnknownMessage
entered_by index (Some name) =
    only_one (indexed_messages index name) (indexed_extensions index name)

-- The index has these messages and these extensions in addition, behind what it had.
pub record IndexAdds (old new : Index) (ds : List Declaration) (es : List FieldDescriptor) : Type
    0 where
  pub messages : (name : Text)
      → indexed_messages new name ≡ indexed_messages old name ++ messages_named name ds
  pub extensions : (name : Text)
      → indexed_extensions new name ≡ indexed_extensions old name ++ filter (extends name) es

-- these messages, with the extensions inside them
abbrev pub AddsMessages : Index → Index → List Declaration → Type 0
AddsMessages old new ds = IndexAdds old new ds (flat_map (λ d. d.parts.extension) ds)

-- The index has what the files declare.
pub record Indexes (files : List FileDescriptor) (index : Index) : Type 0 where
  pub messages : (name : Text) → indexed_messages index name ≡ messages_with_name files name
  pub extensions : (name : Text) → indexed_extensions index name ≡ extensions_extending files name

-- which field each number names by a map, whose keys are numbers of 31 bits and a sign
abbrev pub numbered : BTreeMap ℤ (Bor FieldDescriptorProto) → FieldsByNumber
numbered fields n = if nat_lt n (2 ^ 31)
    then option_map (λ (f : Bor FieldDescriptorProto). field_view f.now)
    (get int_cmp fields (pos n)) else None

-- The map has the fields by their numbers, which are distinct, and none has a number of more than
-- 31 bits.
pub record IsByNumber (by_numbers : BTreeMap ℤ (Bor FieldDescriptorProto))
    (fields : List FieldDescriptor) : Type 0 where
  pub found : (n : ℤ)
      → option_map (λ (f : Bor FieldDescriptorProto). field_view f.now) (get int_cmp by_numbers n)
      ≡ find (λ f. int_eq n f.number) fields
  pub small : (n : ℕ) → 2 ^ 31 ≤ n → find (λ f. int_eq (pos n) f.number) fields ≡ None
  pub distinct : have_distinct_numbers fields ≡ true

-- Under a name stands what entering the message of that name gives.
abbrev pub Remembers : Index → Visited → Type 0
Remembers index visited = (name : Text) → IfSome (get_by_text visited.by_name name)
    (λ numbers. entered_by index (Some name) ≡ Ok (numbered numbers.value))
