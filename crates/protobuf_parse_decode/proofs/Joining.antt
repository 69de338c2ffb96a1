-- The bytes of fields, and messages one behind the other.
use Rattle.std.proofs.Common.{◌≡◌, ℕ, zero, suc, List, [], ◌∷◌, ◌++◌, length, map, Option, Some}
use Rattle.std.proofs.Common.{None}
use Rattle.std.proofs.Common.{Ok, Err, sym, ap, ◌∙◌}
use Rattle.std.specs.List.{flat_map}
use Rattle.protobuf_parse_records.specs.Views.{Extent, WireRecord}
use Rattle.protobuf_parse_records.specs.Wire.{◌>>=◌}
use Rattle.protobuf_parse_records.specs.Wire as wire
use Rattle.protobuf_parse_records.specs.Splitting.{records_in, records_of}
use Rattle.protobuf_parse_records.specs.Laws.{record_bytes, record_later, records_later}
use Rattle.protobuf_parse_records.proofs.WholeMessages as whole
use Rattle.protobuf_parse_model.specs.Descriptors.{Text}
use Rattle.protobuf_parse_decode.specs.Answers.{Answer, found, on_wire}
use Rattle.protobuf_parse_decode.specs.Declarations.{Enter, FieldsByNumber, entered}
use Rattle.protobuf_parse_decode.specs.Decoding.{Inner, fields_of, meaning_of, message_within}
use Rattle.protobuf_parse_decode.specs.Fields.{Meaning, Fields, no_fields, field}
use Rattle.protobuf_parse_decode.specs.Laws.{FieldsAreTheBytes, MessagesJoin, bytes_of, join}
use Rattle.protobuf_parse_decode.proofs.Later.{fields_later, message_later, put_off}
use Rattle.protobuf_parse_decode.proofs.Steps.{gave, ok_is}

module _ (inner : Inner) (declared : FieldsByNumber) where
  -- a record's meaning, and what those after it mean
  record Split (r : WireRecord) (rs : List WireRecord) (fs : Fields) : Type 0 where
    pub meaning : Meaning
    pub means : meaning_of inner (declared r.number) r ≡ Ok meaning
    pub others : Fields
    pub mean : fields_of inner declared rs ≡ Ok others
    pub all : field r.number r.whole.bytes meaning others ≡ fs

  split : (r : WireRecord) (rs : List WireRecord) (fs : Fields)
      → fields_of inner declared (r ∷ rs) ≡ Ok fs → Split r rs fs
  unfolding fields_of
  split r rs fs h =
      let g = gave (meaning_of inner (declared r.number) r) (λ (m : Meaning).
      fields_of inner declared rs >>= λ (others : Fields).
      Ok (field r.number r.whole.bytes m others)) fs h in
      let k = gave (fields_of inner declared rs)
      (λ (others : Fields). Ok (field r.number r.whole.bytes g.first others)) fs g.then in
      record {
        meaning = g.first;
        means = g.is;
        others = k.first;
        mean = k.is;
        all = ok_is (field r.number r.whole.bytes g.first k.first) fs k.then;
      }

  fields_bytes : (rs : List WireRecord) (fs : Fields) → fields_of inner declared rs ≡ Ok fs
      → bytes_of fs ≡ flat_map record_bytes rs
  unfolding fields_of
  fields_bytes [] fs h = ap bytes_of (sym (ok_is no_fields fs h))
  fields_bytes (r ∷ rs) fs h =
      let p = split r rs fs h in
      ap bytes_of (sym p.all)
      ∙ ap (λ (z : List ℕ). r.whole.bytes ++ z) (fields_bytes rs p.others p.mean)

  fields_join : (rs us : List WireRecord) (fs gs : Fields) → fields_of inner declared rs ≡ Ok fs
      → fields_of inner declared us ≡ Ok gs
      → fields_of inner declared (rs ++ us) ≡ Ok (join fs gs)
  unfolding fields_of
  fields_join [] us fs gs h k =
      k ∙ ap (λ (z : Fields). Ok (join z gs)) (ok_is no_fields fs h)
  fields_join (r ∷ rs) us fs gs h k =
      let p = split r rs fs h in
      rw (p.means, fields_join rs us p.others gs p.mean k)
      (ap (λ (z : Fields). Ok (join z gs)) p.all)

on_wire_is : (r : wire.Answer (List WireRecord)) (rs : List WireRecord) → on_wire r ≡ Ok rs
    → r ≡ Ok rs
on_wire_is (Ok x) rs h = ap (λ (z : List WireRecord). Ok z) (ok_is x rs h)
on_wire_is (Err e) rs h = absurd (cc)

-- a message's declaration and its records
record Parts (enter : Enter) (levels : ℕ) (s : Extent) (fs : Fields) (declared : FieldsByNumber)
    : Type 0 where
  pub records : List WireRecord
  pub are : records_in s ≡ Ok records
  pub mean : fields_of (message_within enter levels) declared records ≡ Ok fs

parts : (enter : Enter) (levels : ℕ) (s : Extent) (fs : Fields) (declared : FieldsByNumber)
    → (on_wire (records_in s)
    >>= λ (rs : List WireRecord). fields_of (message_within enter levels) declared rs) ≡ Ok fs
    → Parts enter levels s fs declared
parts enter levels s fs declared h =
    let g = gave (on_wire (records_in s)) (λ (rs : List WireRecord).
    fields_of (message_within enter levels) declared rs) fs h in
    record { records = g.first; are = on_wire_is (records_in s) g.first g.is; mean = g.then }

message_bytes : (enter : Enter) (levels at : ℕ) (name : Option Text) (s : Extent) (fs : Fields)
    → message_within enter levels at name s ≡ Ok fs → bytes_of fs ≡ s.bytes
unfolding message_within
message_bytes enter zero at name s fs h = absurd (cc)
message_bytes enter (suc levels) at name s fs h =
    let g = gave (found at (enter name)) (λ (declared : FieldsByNumber). on_wire (records_in s)
    >>= λ (rs : List WireRecord). fields_of (message_within enter levels) declared rs) fs h in
    let p = parts enter levels s fs g.first g.then in
    fields_bytes (message_within enter levels) g.first p.records fs p.mean
    ∙ (whole.records_are_the_bytes s p.records p.are).0

both_join : (inner : Inner) (declared : FieldsByNumber) (xs ys : List ℕ) (rs us : List WireRecord)
    (fs gs : Fields)
    → ((by : ℕ) → fields_of inner declared (map (record_later by) us)
    ≡ put_off by (fields_of inner declared us))
    → records_of xs ≡ Ok rs → records_of ys ≡ Ok us → fields_of inner declared rs ≡ Ok fs
    → fields_of inner declared us ≡ Ok gs
    → (on_wire (records_of (xs ++ ys)) >>= λ (all : List WireRecord). fields_of inner declared all)
    ≡ Ok (join fs gs)
both_join inner declared xs ys rs us fs gs put are are' mean mean' =
    let by = length xs in
    let all : records_of (xs ++ ys) ≡ Ok (rs ++ map (record_later by) us) =
    whole.records_are_joined xs ys rs are
    ∙ ap (λ (r : wire.Answer (List WireRecord)).
    records_later by r >>= λ (others : List WireRecord). Ok (rs ++ others)) are' in
    let later : fields_of inner declared (map (record_later by) us) ≡ Ok gs =
    put by ∙ ap (put_off by) mean' in
    ap (λ (r : wire.Answer (List WireRecord)).
    on_wire r >>= λ (z : List WireRecord). fields_of inner declared z) all
    ∙ fields_join inner declared rs (map (record_later by) us) fs gs mean later

-- what bytes mean, where the fields are declared so
abbrev Of : Enter → ℕ → Option FieldsByNumber → List ℕ → Answer Fields
Of enter levels o bs = found 0 o >>= λ (declared : FieldsByNumber). on_wire (records_of bs)
    >>= λ (rs : List WireRecord). fields_of (message_within enter levels) declared rs

by_entered : (enter : Enter) (levels : ℕ) (xs ys : List ℕ) (fs gs : Fields)
    (o : Option FieldsByNumber) → Of enter levels o xs ≡ Ok fs → Of enter levels o ys ≡ Ok gs
    → Of enter levels o (xs ++ ys) ≡ Ok (join fs gs)
by_entered enter levels xs ys fs gs (Some declared) a b =
    let p = parts enter levels (record { start = 0; bytes = xs }) fs declared a in
    let q = parts enter levels (record { start = 0; bytes = ys }) gs declared b in
    both_join (message_within enter levels) declared xs ys p.records q.records fs gs
    (λ by. fields_later by (message_within enter levels) (message_later by enter levels) declared
    q.records)
    p.are q.are p.mean q.mean
by_entered enter levels xs ys fs gs None a b = absurd (cc)

messages_of : (enter : Enter) (levels : ℕ) (name : Option Text) (xs ys : List ℕ) (fs gs : Fields)
    → message_within enter levels 0 name (record { start = 0; bytes = xs }) ≡ Ok fs
    → message_within enter levels 0 name (record { start = 0; bytes = ys }) ≡ Ok gs
    → message_within enter levels 0 name (record { start = 0; bytes = xs ++ ys }) ≡ Ok (join fs gs)
unfolding message_within
messages_of enter zero name xs ys fs gs h k = absurd (cc)
messages_of enter (suc levels) name xs ys fs gs h k =
    by_entered enter levels xs ys fs gs (enter name) h k

pub fields_are_the_bytes : FieldsAreTheBytes
fields_are_the_bytes files name bs fs h =
    message_bytes (entered files) 100 0 (Some name) (record { start = 0; bytes = bs }) fs h

pub messages_join : MessagesJoin
messages_join files name xs ys fs gs h k =
    messages_of (entered files) 100 (Some name) xs ys fs gs h k
