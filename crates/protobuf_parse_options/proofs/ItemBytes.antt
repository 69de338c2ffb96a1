-- The bytes of items, one list behind the other, and of a message.
use Rattle.std.proofs.Common.{◌≡◌, ℕ, ◌+◌, ◌*◌, List, [], ◌∷◌, ◌++◌, flat_map, map, refl, sym, ap}
use Rattle.std.proofs.Common.{◌∙◌, append_assoc, rules}
use Rattle.std.specs.Option.{option_to_list}
use Rattle.std.specs.Prelude.{nat_abs, ℤ, Bool}
use Rattle.std.specs.Global.{Vec}
use Rattle.std.proofs.lemmas.List.{append-nil}
use Rattle.protobuf_parse_model.specs.declared.descriptor.FieldType.{FieldType}
use Rattle.protobuf_parse_model.specs.declared.descriptor.FieldType.TheVariants.{Message}
use Rattle.protobuf_parse_model.specs.Descriptors.{FieldDescriptor}
use Rattle.protobuf_parse_wire.specs.declared.kind.Kind.{Kind}
use Rattle.protobuf_parse_wire.specs.declared.entry.EntryValue.{fold_out-EntryValue, the_lemmas}
use Rattle.protobuf_parse_wire.specs.declared.entry.EntryValue.TheVariants.{Number, Bool as Truth}
use Rattle.protobuf_parse_wire.specs.declared.entry.EntryValue.TheVariants.{Bytes}
use Rattle.protobuf_parse_wire.specs.Encoded.{delimited, payload, varint_of}
use Rattle.protobuf_parse_wire.specs.Kinds.{kind_of_field_type, shape_of_kind, wire_type}
use Rattle.protobuf_parse_wire.specs.Trees as trees
use Rattle.protobuf_parse_wire.specs.Views.{WireItem, entries_of_list}
use Rattle.protobuf_parse_wire.specs.ViewParts.{entry_value_view}
use Rattle.protobuf_parse_options.specs.CustomOptions.{item_of_message}
use Rattle.protobuf_parse_options.specs.Given.{bytes_of_items}

pub bytes_append : (xs ys : List WireItem)
    → bytes_of_items (xs ++ ys) ≡ bytes_of_items xs ++ bytes_of_items ys
bytes_append [] ys = refl
bytes_append (x ∷ xs) ys =
    let tag = varint_of (x.number * 8 + wire_type (shape_of_kind x.kind)) in
    let value = payload (shape_of_kind x.kind) x.value in
    let rest = bytes_of_items xs in
    let others = bytes_of_items ys in
    ap (λ (bs : List ℕ). tag ++ (value ++ bs)) (bytes_append xs ys)
    ∙ sym (append_assoc tag (value ++ rest) others
    ∙ ap (λ (bs : List ℕ). tag ++ bs) (append_assoc value rest others))

pub bytes_flat_map : {A : Type 0} (items : A → List WireItem) (xs : List A)
    → bytes_of_items (flat_map items xs) ≡ flat_map (λ (x : A). bytes_of_items (items x)) xs
bytes_flat_map items [] = refl
bytes_flat_map items (x ∷ xs) =
    bytes_append (items x) (flat_map items xs)
    ∙ ap (λ (bs : List ℕ). bytes_of_items (items x) ++ bs) (bytes_flat_map items xs)

-- ---- values as the encoder sees them

pub number_seen : (z : ℤ) → entry_value_view (Number z) ≡ trees.number z
number_seen z = search (rules, the_lemmas, fold_out-EntryValue)

pub truth_seen : (b : Bool) → entry_value_view (Truth b) ≡ trees.truth b
truth_seen b = search (rules, the_lemmas, fold_out-EntryValue)

pub bytes_seen : (v : Vec ℕ) → entry_value_view (Bytes v) ≡ trees.bytes v.items
bytes_seen v = search (rules, the_lemmas, fold_out-EntryValue)

-- ---- messages

-- a message is its tag, the number of its bytes, and these
message_at : (n : ℕ) (t : FieldType) (items : List WireItem) → t ≡ Message
    → bytes_of_items (map (λ (k : Kind). record {
      number = n;
      kind = k;
      value = trees.message (entries_of_list items);
    }) (option_to_list (kind_of_field_type t)))
    ≡ varint_of (n * 8 + 2) ++ delimited (bytes_of_items items)
message_at n Message items e = ap (λ (bs : List ℕ). varint_of (n * 8 + 2) ++ bs)
    (append-nil (delimited (bytes_of_items items)))
message_at n _ items e = absurd cc

pub message_bytes : (f : FieldDescriptor) (items : List WireItem) → f.type_ ≡ Message
    → bytes_of_items (item_of_message f items)
    ≡ varint_of (nat_abs f.number * 8 + 2) ++ delimited (bytes_of_items items)
message_bytes f items e = message_at (nat_abs f.number) f.type_ items e
