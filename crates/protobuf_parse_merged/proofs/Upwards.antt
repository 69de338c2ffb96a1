-- The fields of a merged message ascend.
use Rattle.std.proofs.Common.{◌≡◌, ℕ, zero, suc, ◌≤◌, List, [], ◌∷◌, ◌++◌, Option, Some, None}
use Rattle.std.proofs.Common.{refl, sym, subst, append-nil, arith, ◌^◌}
use Rattle.protobuf_parse_model.specs.Descriptors.{Text, FileDescriptor}
use Rattle.protobuf_parse_decode.specs.Fields as decoded
use Rattle.protobuf_parse_merged.specs.Answers.{Answer, ◌>>=◌}
use Rattle.protobuf_parse_merged.specs.Merged.{Value, Unknown, FieldItem, Message, a_message}
use Rattle.protobuf_parse_merged.specs.Merged.{fields_of}
use Rattle.protobuf_parse_merged.specs.Declarations.{FieldsByNumber, declared_in}
use Rattle.protobuf_parse_merged.specs.Defaults.{defaults}
use Rattle.protobuf_parse_merged.specs.Occurrences.{Occurrence, occurrences, unknown_among}
use Rattle.protobuf_parse_merged.specs.Oneofs.{counting}
use Rattle.protobuf_parse_merged.specs.Merging.{Inner, field_values, fields_below, held_at}
use Rattle.protobuf_parse_merged.specs.Merging.{merged_within, present, with_fields}
use Rattle.protobuf_parse_merged.specs.Laws.{Ascend, fields_seen}

-- The numbers ascend from the first one on, and are below the second.
abbrev Up : ℕ → ℕ → List FieldItem → Type 0
Up k m [] = k ≤ m
Up k m (f ∷ fs) = (k ≤ f.number) × Up (suc f.number) m fs

weaker : (k m : ℕ) (fs : List FieldItem) → Up k m fs → Up k (suc m) fs
weaker k m [] up = omega arith
weaker k m (f ∷ fs) up = (up.0, weaker (suc f.number) m fs up.1)

one_more : (k m : ℕ) (fs : List FieldItem) (f : FieldItem) → f.number ≡ m → Up k m fs
    → Up k (suc m) (fs ++ f ∷ [])
one_more k m [] f is up = (omega arith, omega arith)
one_more k m (g ∷ fs) f is up = (up.0, one_more (suc g.number) m fs f is up.1)

with_present : (m : ℕ) (fs : List FieldItem) (vs : List Value) → Up 0 m fs
    → Up 0 (suc m) (fs ++ present m vs)
with_present m fs [] up = subst (Up 0 (suc m)) (sym (append-nil fs)) (weaker 0 m fs up)
with_present m fs (v ∷ vs) up =
    one_more 0 m fs (record { number = m; values = v ∷ vs }) refl up

same_items : (a b : List FieldItem) → ◌≡◌ {A = Option (List FieldItem)} (Some a) (Some b) → a ≡ b
same_items a b e = cc

at_next : (m : ℕ) (fields : Answer (List FieldItem)) (values : Answer (List Value))
    (items : List FieldItem)
    → ((fs : List FieldItem) → fields ≡ Some fs → Up 0 m fs)
    → (fields >>= λ (fs : List FieldItem). values >>= λ (vs : List Value). Some (fs ++ present m vs))
    ≡ Some items
    → Up 0 (suc m) items
at_next m (Some fs) (Some vs) items before is =
    subst (Up 0 (suc m)) (same_items (fs ++ present m vs) items is)
    (with_present m fs vs (before fs refl))
at_next m (Some fs) None items before is = absurd (cc)
at_next m None values items before is = absurd (cc)

below : (inner : Inner) (declared : FieldsByNumber) (os : List Occurrence) (m : ℕ)
    (items : List FieldItem) → fields_below inner declared os m ≡ Some items → Up 0 m items
unfolding fields_below
below inner declared os zero items is = subst (Up 0 zero) (same_items [] items is) (omega arith)
below inner declared os (suc m) items is =
    at_next m (fields_below inner declared os m) (field_values inner (declared m) (held_at m os))
    items (λ fs e. below inner declared os m fs e) is

listed : (k m : ℕ) (fs : List FieldItem) → Up k m fs → Ascend k (fields_of fs)
listed k m [] up = tt
listed k m (f ∷ fs) up = (up.0, listed (suc f.number) m fs up.1)

seen : (fields : Answer (List FieldItem)) (us : List Unknown) (m : Message) (most : ℕ)
    → ((items : List FieldItem) → fields ≡ Some items → Up 0 most items)
    → with_fields fields us ≡ Some m → Ascend 0 (fields_seen m)
seen (Some items) us m most up is =
    let same : a_message (fields_of items) us ≡ m = cc in
    subst (λ (x : Message). Ascend 0 (fields_seen x)) same (listed 0 most items (up items refl))
seen None us m most up is = absurd (cc)

pub message_ascends : (files : List FileDescriptor) (levels : ℕ) (name : Text) (fs : decoded.Fields)
    (m : Message) → merged_within files levels name fs ≡ Some m → Ascend 0 (fields_seen m)
unfolding merged_within
message_ascends files zero name fs m is = absurd (cc)
message_ascends files (suc levels) name fs m is =
    seen (fields_below (merged_within files levels) (declared_in files name)
    (counting (defaults files name ++ occurrences files (declared_in files name) fs)) (2 ^ 32))
    (unknown_among files (declared_in files name) fs) m (2 ^ 32)
    (below (merged_within files levels) (declared_in files name)
    (counting (defaults files name ++ occurrences files (declared_in files name) fs)) (2 ^ 32)) is
