-- What the reader gives is said by records: each part that is read is what its relation says, and
-- the other way round.
use Rattle.std.proofs.Common.{◌≡◌, ◌⊎◌, ◌↔◌, ℕ, zero, suc, ◌+◌, ◌*◌, ◌/◌, ◌%◌, ◌<◌, ◌≤◌, ltb}
use Rattle.std.proofs.Common.{Bool, true, false, List, [], ◌∷◌, ◌++◌, length, take, drop, Option}
use Rattle.std.proofs.Common.{Some, None, Ok, Err, refl, sym, ap, subst, ◌∙◌, append_assoc}
use Rattle.std.proofs.Common.{length-append, arith, inl, inr}
use Rattle.std.specs.Prelude.{nat_lt, ◌==◌, if◌then◌else◌}
use Rattle.std.specs.Int.{w32, w64, from_le_bytes}
use Rattle.std.specs.Str.{is_utf8}
use Rattle.std.proofs.lemmas.Bool.{ltb-false, eq-eqb, eqb-true}
use Rattle.std.proofs.lemmas.List.{append-nil, take-append-drop, length-take-le}
use Rattle.std.proofs.lemmas.Str.{is_utf8-from_IsUtf8, IsUtf8-from_is_utf8}
use Rattle.protobuf_parse_grammar.specs.Relations.{none, more}
use Rattle.protobuf_parse_model.specs.Descriptors.{Text, FieldDescriptor}
use Rattle.protobuf_parse_wire.specs.declared.fault.ReadFault.{ReadFault}
use Rattle.protobuf_parse_wire.specs.declared.fault.ReadFault.TheVariants.{Truncated, BadUtf8}
use Rattle.protobuf_parse_wire.specs.declared.fault.ReadFault.TheVariants.{WrongWireType}
use Rattle.protobuf_parse_wire.specs.Kinds.{varint, eight_bytes, four_bytes, Word, KindShape}
use Rattle.protobuf_parse_wire.specs.Kinds.{whole, truth, text, octets, message, shape_of_type}
use Rattle.protobuf_parse_wire.specs.Kinds.{wire_type}
use Rattle.protobuf_parse_wire.specs.Trees as trees
use Rattle.protobuf_parse_wire.specs.Trees.{ValueTree, Field, fields_of_list}
use Rattle.protobuf_parse_wire.specs.Wire.{IsChain}
use Rattle.protobuf_parse_wire.specs.Reading.{◌>>=◌, WireRead, Inner, FieldsByNumber, varint_at}
use Rattle.protobuf_parse_wire.specs.Reading.{part_at, delimited_at, eight_at, four_at, word_at}
use Rattle.protobuf_parse_wire.specs.Reading.{decoded, payload_at, typed_at, value_at, record_at}
use Rattle.protobuf_parse_wire.specs.Reading.{records, message_at}
use Rattle.protobuf_parse_wire.specs.Varints.{IsAnyVarint}
use Rattle.protobuf_parse_wire.specs.Records.{IsWord, IsDelimited, MessageSays, IsPayload, IsRecord}
use Rattle.protobuf_parse_wire.specs.Records.{AreRecords, IsMessage, BreaksOff, MessagesAreRead}
use Rattle.protobuf_parse_wire.specs.Records.{FaultsStandBehindRecords, FrontIsLongest}
use Rattle.protobuf_parse_wire.proofs.Varint.{part_again}
use Rattle.protobuf_parse_wire.proofs.Varints.{Takes, Reads, same_value, same_rest, varint_reads}

-- ---- parts

-- a part, and what is made of it
abbrev Made : {A B : Type 0} → (List ℕ → A → Type 0) → (A → WireRead B) → List ℕ → B → Type 0
Made {A} Is f bs b = (a : A) × Is bs a × (f a ≡ Ok b)

-- a value and the bytes behind it
abbrev with_rest : {B : Type 0} → WireRead B → List ℕ → WireRead (B × List ℕ)
with_rest v rest = v >>= λ b. Ok (b, rest)

made : {A B : Type 0} (read : List ℕ → WireRead (A × List ℕ)) (Is : List ℕ → A → Type 0)
    (f : A → WireRead B) (next : A → List ℕ → WireRead (B × List ℕ))
    → ((a : A) (bs : List ℕ) → next a bs ≡ with_rest (f a) bs)
    → Reads read Is
    → Reads (λ bs. read bs >>= λ (x : A × List ℕ). next x.0 x.1) (Made Is f)
made {A} {B} read Is f next same r = record {
  takes = λ bs y rest e. by_part bs y rest (read bs) refl e;
  gives = λ front y rest is.
      rw (r.gives front is.0 rest is.1, same is.0 rest, is.2) refl;
}
  where
    by_value : (bs : List ℕ) (y : B) (rest : List ℕ) (a : A) (after : List ℕ)
        → read bs ≡ Ok (a, after) → (v : WireRead B) → f a ≡ v
        → with_rest v after ≡ Ok (y, rest) → Takes (Made Is f) bs y rest
    by_value bs y rest a after is (Err e) is_value h = absurd (cc)
    by_value bs y rest a after is (Ok b) is_value h =
        let t = r.takes bs a after is in
        let behind : after ≡ rest = same_rest b y after rest h in
        let value : b ≡ y = same_value b y after rest h in
        record {
          front = t.front;
          parts = t.parts ∙ ap (λ (z : List ℕ). t.front ++ z) behind;
          is = (a, t.is, is_value ∙ ap (λ (z : B). Ok z) value);
        }

    by_part : (bs : List ℕ) (y : B) (rest : List ℕ) (w : WireRead (A × List ℕ)) → read bs ≡ w
        → (w >>= λ (x : A × List ℕ). next x.0 x.1) ≡ Ok (y, rest) → Takes (Made Is f) bs y rest
    by_part bs y rest (Err e) is h = absurd (cc)
    by_part bs y rest (Ok x) is h =
        by_value bs y rest x.0 x.1 is (f x.0) refl (sym (same x.0 x.1) ∙ h)

-- the same told by another relation
alike : {A : Type 0} (read : List ℕ → WireRead (A × List ℕ)) (P Q : List ℕ → A → Type 0)
    → ((bs : List ℕ) (x : A) → P bs x → Q bs x) → ((bs : List ℕ) (x : A) → Q bs x → P bs x)
    → Reads read P → Reads read Q
alike read P Q there back r = record {
  takes = λ bs x rest e.
      let t = r.takes bs x rest e in
      record { front = t.front; parts = t.parts; is = there t.front x t.is };
  gives = λ front x rest is. r.gives front x rest (back front x is);
}

-- so many bytes
abbrev IsPart : ℕ → List ℕ → List ℕ → Type 0
IsPart n bs part = (length bs ≡ n) × (part ≡ bs)

part_reads : (n : ℕ) → Reads (part_at n) (IsPart n)
unfolding part_at
part_reads n = record {
  takes = λ bs x rest e. by_length bs x rest (ltb (length bs) n) refl e;
  gives = λ front x rest is.
      part_again front rest n is.0 ∙ ap (λ (z : List ℕ). Ok (z, rest)) (sym is.1);
}
  where
    by_length : (bs x rest : List ℕ) (few : Bool) → ltb (length bs) n ≡ few
        → if◌then◌else◌ {A = WireRead (List ℕ × List ℕ)} few (Err Truncated)
        (Ok (take n bs, drop n bs)) ≡ Ok (x, rest)
        → Takes (IsPart n) bs x rest
    by_length bs x rest true is h = absurd (cc)
    by_length bs x rest false is h =
        let many : n ≤ length bs = ltb-false (length bs) n is in
        let behind : drop n bs ≡ rest = same_rest (take n bs) x (drop n bs) rest h in
        record {
          front = take n bs;
          parts = sym (take-append-drop n bs) ∙ ap (λ (z : List ℕ). take n bs ++ z) behind;
          is = (
            length-take-le n bs many,
            sym (same_value (take n bs) x (drop n bs) rest h),
          );
        }

-- what two results have in common that are one and have nothing behind them
same_ok : {A : Type 0} (x y : A) → ◌≡◌ {A = WireRead A} (Ok x) (Ok y) → x ≡ y
same_ok x y e = cc

delimited_reads : Reads delimited_at IsDelimited
unfolding delimited_at
delimited_reads = record {
  takes = λ bs x rest e. by_length bs x rest (varint_at 10 bs) refl e;
  gives = λ front x rest is.
      let parts : front ++ rest ≡ is.front ++ (x ++ rest) =
      ap (λ (z : List ℕ). z ++ rest) is.parts ∙ append_assoc is.front x rest in
      rw (parts, varint_reads.gives is.front (length x) (x ++ rest) is.length_first)
      (part_again x rest (length x) refl);
}
  where
    by_length : (bs x rest : List ℕ) (w : WireRead (ℕ × List ℕ)) → varint_at 10 bs ≡ w
        → (w >>= λ (n : ℕ × List ℕ). part_at n.0 n.1) ≡ Ok (x, rest)
        → Takes IsDelimited bs x rest
    by_length bs x rest (Err e) is h = absurd (cc)
    by_length bs x rest (Ok n) is h =
        let one = varint_reads.takes bs n.0 n.1 is in
        let two = (part_reads n.0).takes n.1 x rest h in
        let long : length x ≡ n.0 = ap length two.is.1 ∙ two.is.0 in
        record {
          front = one.front ++ x;
          parts = one.parts ∙ ap (λ (z : List ℕ). one.front ++ z) two.parts
              ∙ ap (λ (z : List ℕ). one.front ++ (z ++ rest)) (sym two.is.1)
              ∙ sym (append_assoc one.front x rest);
          is = record {
            front = one.front;
            parts = refl;
            length_first = subst (λ (u : ℕ). IsAnyVarint one.front u) (sym long) one.is;
          };
        }

word_reads : (word : Word) → Reads (word_at word) (IsWord word)
unfolding eight_at four_at
word_reads varint = varint_reads
word_reads eight_bytes =
    alike eight_at (Made (IsPart 8) (λ part. Ok (from_le_bytes w64 part))) (IsWord eight_bytes)
    (λ bs u h. (h.1.0, sym (same_ok _ _ h.2) ∙ ap (from_le_bytes w64) h.1.1))
    (λ bs u h. (bs, (h.0, refl), ap (λ (z : ℕ). Ok z) (sym h.1)))
    (made (part_at 8) (IsPart 8) (λ part. Ok (from_le_bytes w64 part))
    (λ part rest. Ok (from_le_bytes w64 part, rest)) (λ part rest. refl) (part_reads 8))
word_reads four_bytes =
    alike four_at (Made (IsPart 4) (λ part. Ok (from_le_bytes w32 part))) (IsWord four_bytes)
    (λ bs u h. (h.1.0, sym (same_ok _ _ h.2) ∙ ap (from_le_bytes w32) h.1.1))
    (λ bs u h. (bs, (h.0, refl), ap (λ (z : ℕ). Ok z) (sym h.1)))
    (made (part_at 4) (IsPart 4) (λ part. Ok (from_le_bytes w32 part))
    (λ part rest. Ok (from_le_bytes w32 part, rest)) (λ part rest. refl) (part_reads 4))

-- ---- payloads

-- The message inside is read as the relation says.
abbrev Agree : Inner → MessageSays → Type 0
Agree inner says = (name : Option Text) (bs : List ℕ) (fs : List Field)
    → (inner name bs ≡ Ok fs) ↔ says name bs fs

text_of : List ℕ → WireRead ValueTree
text_of part = if is_utf8 part then Ok (trees.bytes part) else Err BadUtf8

fields_said : WireRead (List Field) → WireRead ValueTree
fields_said read = read >>= λ fields. Ok (trees.message (fields_of_list fields))

payload_reads : (inner : Inner) (says : MessageSays) → Agree inner says → (name : Option Text)
    (s : KindShape) → Reads (payload_at inner name s) (IsPayload says name s)
unfolding payload_at text_of fields_said
payload_reads inner says agree name (whole word w code) =
    alike (payload_at inner name (whole word w code))
    (Made (IsWord word) (λ u. Ok (trees.number (decoded w code u))))
    (IsPayload says name (whole word w code))
    (λ bs v h. (h.0, h.1, sym (same_ok _ _ h.2)))
    (λ bs v h. (h.0, h.1, ap (λ (z : ValueTree). Ok z) (sym h.2)))
    (made (word_at word) (IsWord word) (λ u. Ok (trees.number (decoded w code u)))
    (λ u rest. Ok (trees.number (decoded w code u), rest)) (λ u rest. refl) (word_reads word))
payload_reads inner says agree name truth =
    alike (payload_at inner name truth)
    (Made IsAnyVarint (λ u. Ok (trees.truth (nat_lt 0 u)))) (IsPayload says name truth)
    (λ bs v h. (h.0, h.1, sym (same_ok _ _ h.2)))
    (λ bs v h. (h.0, h.1, ap (λ (z : ValueTree). Ok z) (sym h.2)))
    (made (varint_at 10) IsAnyVarint (λ u. Ok (trees.truth (nat_lt 0 u)))
    (λ u rest. Ok (trees.truth (nat_lt 0 u), rest)) (λ u rest. refl) varint_reads)
payload_reads inner says agree name text =
    alike (payload_at inner name text) (Made IsDelimited text_of) (IsPayload says name text)
    (λ bs v h. there h.0 v h.1 (is_utf8 h.0) refl h.2)
    (λ bs v h. (
      h.0,
      h.1,
      rw (is_utf8-from_IsUtf8 h.0 h.2)
          (ap (λ (z : ValueTree). Ok z) (sym h.3)),
    ))
    (made delimited_at IsDelimited text_of
    (λ part rest. if is_utf8 part then Ok (trees.bytes part, rest) else Err BadUtf8)
    (λ part rest. by_text part rest (is_utf8 part)) delimited_reads)
  where
    by_text : (part rest : List ℕ) (b : Bool)
        → ◌≡◌ {A = WireRead (ValueTree × List ℕ)}
        (if b then Ok (trees.bytes part, rest) else Err BadUtf8)
        (with_rest (if◌then◌else◌ {A = WireRead ValueTree} b (Ok (trees.bytes part)) (Err BadUtf8))
        rest)
    by_text part rest true = refl
    by_text part rest false = refl

    there : {bs : List ℕ} (part : List ℕ) (v : ValueTree) → IsDelimited bs part → (b : Bool)
        → is_utf8 part ≡ b
        → if◌then◌else◌ {A = WireRead ValueTree} b (Ok (trees.bytes part)) (Err BadUtf8) ≡ Ok v
        → IsPayload says name text bs v
    there part v is true valid e =
        (part, is, IsUtf8-from_is_utf8 part valid, sym (same_ok _ _ e))
    there part v is false valid e = absurd (cc)
payload_reads inner says agree name octets =
    alike (payload_at inner name octets) (Made IsDelimited (λ part. Ok (trees.bytes part)))
    (IsPayload says name octets)
    (λ bs v h. (h.0, h.1, sym (same_ok _ _ h.2)))
    (λ bs v h. (h.0, h.1, ap (λ (z : ValueTree). Ok z) (sym h.2)))
    (made delimited_at IsDelimited (λ part. Ok (trees.bytes part))
    (λ part rest. Ok (trees.bytes part, rest)) (λ part rest. refl) delimited_reads)
payload_reads inner says agree name message =
    alike (payload_at inner name message)
    (Made IsDelimited (λ part. fields_said (inner name part))) (IsPayload says name message)
    (λ bs v h. there h.0 v h.1 (inner name h.0) refl h.2)
    (λ bs v h. (
      h.0,
      h.2,
      rw ((agree name h.0 h.1).1 h.3)
          (ap (λ (z : ValueTree). Ok z) (sym h.4)),
    ))
    (made delimited_at IsDelimited (λ part. fields_said (inner name part))
    (λ part rest. inner name part >>=
    λ fields. Ok (trees.message (fields_of_list fields), rest))
    (λ part rest. by_fields rest (inner name part)) delimited_reads)
  where
    by_fields : (rest : List ℕ) (w : WireRead (List Field))
        → ◌≡◌ {A = WireRead (ValueTree × List ℕ)}
        (w >>= λ fields. Ok (trees.message (fields_of_list fields), rest))
        (with_rest (fields_said w) rest)
    by_fields rest (Ok fields) = refl
    by_fields rest (Err e) = refl

    there : {bs : List ℕ} (part : List ℕ) (v : ValueTree) → IsDelimited bs part
        → (w : WireRead (List Field)) → inner name part ≡ w → fields_said w ≡ Ok v
        → IsPayload says name message bs v
    there part v is (Ok fields) read e =
        (part, fields, is, (agree name part fields).0 read, sym (same_ok _ _ e))
    there part v is (Err f) read e = absurd (cc)

-- ---- records

-- the value of the field that a number names
abbrev IsValue : MessageSays → Option FieldDescriptor → ℕ → List ℕ → ValueTree → Type 0
IsValue says named wire bs v = (f : FieldDescriptor) × (s : KindShape) × (named ≡ Some f)
    × (shape_of_type f.type_ ≡ Some s) × (wire ≡ wire_type s) × IsPayload says f.type_name s bs v

value_reads : (inner : Inner) (says : MessageSays) → Agree inner says
    → (named : Option FieldDescriptor) (wire : ℕ)
    → Reads (value_at inner named wire) (IsValue says named wire)
unfolding value_at typed_at
value_reads inner says agree named wire = record {
  takes = λ bs v rest e. by_field bs v rest named refl e;
  gives = λ front v rest is.
      rw (is.2, is.3, eq-eqb wire (wire_type is.1) is.4)
      ((payload_reads inner says agree is.0.type_name is.1).gives front v rest is.5);
}
  where
    by_wire : (bs : List ℕ) (v : ValueTree) (rest : List ℕ) (f : FieldDescriptor) (s : KindShape)
        → named ≡ Some f → shape_of_type f.type_ ≡ Some s → (fits : Bool)
        → (wire == wire_type s) ≡ fits
        → if◌then◌else◌ {A = WireRead (ValueTree × List ℕ)} fits
        (payload_at inner f.type_name s bs) (Err WrongWireType) ≡ Ok (v, rest)
        → Takes (IsValue says named wire) bs v rest
    by_wire bs v rest f s is shaped false wired h = absurd (cc)
    by_wire bs v rest f s is shaped true wired h =
        let t = (payload_reads inner says agree f.type_name s).takes bs v rest h in
        record {
          front = t.front;
          parts = t.parts;
          is = (f, s, is, shaped, eqb-true wire (wire_type s) wired, t.is);
        }

    by_shape : (bs : List ℕ) (v : ValueTree) (rest : List ℕ) (f : FieldDescriptor)
        → named ≡ Some f → (shape : Option KindShape) → shape_of_type f.type_ ≡ shape
        → typed_at inner f.type_name shape wire bs ≡ Ok (v, rest)
        → Takes (IsValue says named wire) bs v rest
    by_shape bs v rest f is None shaped h = absurd (cc)
    by_shape bs v rest f is (Some s) shaped h =
        by_wire bs v rest f s is shaped (wire == wire_type s) refl h

    by_field : (bs : List ℕ) (v : ValueTree) (rest : List ℕ) (o : Option FieldDescriptor)
        → named ≡ o → value_at inner o wire bs ≡ Ok (v, rest)
        → Takes (IsValue says named wire) bs v rest
    by_field bs v rest None is h = absurd (cc)
    by_field bs v rest (Some f) is h = by_shape bs v rest f is (shape_of_type f.type_) refl h

pub small_wire : (s : KindShape) → wire_type s < 8
small_wire (whole varint w c) = omega arith
small_wire (whole eight_bytes w c) = omega arith
small_wire (whole four_bytes w c) = omega arith
small_wire truth = omega arith
small_wire text = omega arith
small_wire octets = omega arith
small_wire message = omega arith

-- a tag and the value behind it
record_of : (says : MessageSays) (numbers : FieldsByNumber) (bs : List ℕ) (tag : ℕ)
    (behind : List ℕ) (v : ValueTree) (rest : List ℕ) → Takes IsAnyVarint bs tag behind
    → Takes (IsValue says (numbers (tag / 8)) (tag % 8)) behind v rest
    → Takes (IsRecord says numbers) bs (record { number = tag / 8; value = v }) rest
record_of says numbers bs tag behind v rest one two =
    let wire : tag % 8 ≡ wire_type two.is.1 = two.is.4 in
    let tag_is : tag ≡ tag / 8 * 8 + wire_type two.is.1 = omega arith in
    record {
      front = one.front ++ two.front;
      parts = one.parts ∙ ap (λ (z : List ℕ). one.front ++ z) two.parts
          ∙ sym (append_assoc one.front two.front rest);
      is = record {
        declared = two.is.0;
        shape = two.is.1;
        tag = one.front;
        payload = two.front;
        parts = refl;
        number = two.is.2;
        type_is = two.is.3;
        tag_is = subst (λ (u : ℕ). IsAnyVarint one.front u) tag_is one.is;
        value = two.is.5;
      };
    }

record_given : (inner : Inner) (says : MessageSays) → Agree inner says
    → (numbers : FieldsByNumber) (part : List ℕ) (f : Field) (rest : List ℕ)
    → IsRecord says numbers part f → record_at inner numbers (part ++ rest) ≡ Ok (f, rest)
unfolding record_at
record_given inner says agree numbers part f rest is =
    let small : wire_type is.shape < 8 = small_wire is.shape in
    let t = f.number * 8 + wire_type is.shape in
    let high : t / 8 ≡ f.number = omega arith in
    let low : t % 8 ≡ wire_type is.shape = omega arith in
    let parts : part ++ rest ≡ is.tag ++ (is.payload ++ rest) =
    ap (λ (z : List ℕ). z ++ rest) is.parts ∙ append_assoc is.tag is.payload rest in
    rw (
      parts,
      varint_reads.gives is.tag t (is.payload ++ rest) is.tag_is,
      high,
      low,
      (value_reads inner says agree (numbers f.number) (wire_type is.shape)).gives is.payload
          f.value rest (is.declared, is.shape, is.number, is.type_is, refl, is.value),
    ) refl

record_taken : (inner : Inner) (says : MessageSays) → Agree inner says
    → (numbers : FieldsByNumber) (bs : List ℕ) (f : Field) (rest : List ℕ)
    → record_at inner numbers bs ≡ Ok (f, rest) → Takes (IsRecord says numbers) bs f rest
unfolding record_at
record_taken inner says agree numbers bs f rest e = by_tag (varint_at 10 bs) refl e
  where
    by_value : (tag : ℕ) (behind : List ℕ) → varint_at 10 bs ≡ Ok (tag, behind)
        → (w : WireRead (ValueTree × List ℕ))
        → value_at inner (numbers (tag / 8)) (tag % 8) behind ≡ w
        → ◌≡◌ {A = WireRead (Field × List ℕ)} (w >>= λ (value : ValueTree × List ℕ).
        Ok (record { number = tag / 8; value = value.0 }, value.1)) (Ok (f, rest))
        → Takes (IsRecord says numbers) bs f rest
    by_value tag behind tagged (Err x) is h = absurd (cc)
    by_value tag behind tagged (Ok value) is h =
        let field : Field = record { number = tag / 8; value = value.0 } in
        let same : field ≡ f = same_value field f value.1 rest h in
        let after : value.1 ≡ rest = same_rest field f value.1 rest h in
        let t = record_of says numbers bs tag behind value.0 value.1
        (varint_reads.takes bs tag behind tagged)
        ((value_reads inner says agree (numbers (tag / 8)) (tag % 8)).takes behind value.0
        value.1 is) in
        record {
          front = t.front;
          parts = t.parts ∙ ap (λ (z : List ℕ). t.front ++ z) after;
          is = subst (λ (z : Field). IsRecord says numbers t.front z) same t.is;
        }

    by_tag : (w : WireRead (ℕ × List ℕ)) → varint_at 10 bs ≡ w
        → ◌≡◌ {A = WireRead (Field × List ℕ)} (w >>= λ (tag : ℕ × List ℕ).
        value_at inner (numbers (tag.0 / 8)) (tag.0 % 8) tag.1
        >>= λ (value : ValueTree × List ℕ).
        Ok (record { number = tag.0 / 8; value = value.0 }, value.1)) (Ok (f, rest))
        → Takes (IsRecord says numbers) bs f rest
    by_tag (Err x) is h = absurd (cc)
    by_tag (Ok tag) is h =
        by_value tag.0 tag.1 is (value_at inner (numbers (tag.0 / 8)) (tag.0 % 8) tag.1) refl h

some_bytes : (says : MessageSays) (numbers : FieldsByNumber) (bs : List ℕ) (f : Field)
    → IsRecord says numbers bs f → 0 < length bs
some_bytes says numbers bs f is =
    let tagged : 0 < length is.tag = some_tag is.tag is.tag_is.chain in
    let long : length bs ≡ length is.tag + length is.payload =
    ap length is.parts ∙ length-append is.tag is.payload in
    omega arith
  where
    some_tag : (tag : List ℕ) → IsChain tag → 0 < length tag
    some_tag [] h = absurd h
    some_tag (b ∷ bs) h = omega arith

-- ---- what is read is records, up to the end or the fault

abbrev behind : List Field → WireRead (List Field) → WireRead (List Field)
behind front r = r >>= λ fs. Ok (front ++ fs)

behind_none : (r : WireRead (List Field)) → behind [] r ≡ r
behind_none (Ok fs) = refl
behind_none (Err e) = refl

behind_one : (f : Field) (fs : List Field) (r : WireRead (List Field))
    → (behind fs r >>= λ gs. Ok (f ∷ gs)) ≡ behind (f ∷ fs) r
behind_one f fs (Ok gs) = refl
behind_one f fs (Err e) = refl

-- Two records at the front of the same bytes are of one length.
same_length : (ts us rest ts' us' rest' : List ℕ)
    → (ts ++ us) ++ rest ≡ (ts' ++ us') ++ rest' → us ++ rest ≡ us' ++ rest'
    → length us' ≤ length us → length (ts' ++ us') ≤ length (ts ++ us)
same_length ts us rest ts' us' rest' all behind le =
    let long = simp length-append at (ap length all) in
    let short = simp length-append at (ap length behind) in
    simp length-append (omega (arith, long, short))

module _ (enter : Option Text → WireRead FieldsByNumber) (levels : ℕ)
    (agree : Agree (message_at enter levels) (IsMessage enter levels))
    (numbers : FieldsByNumber) where
  inner : Inner
  inner = message_at enter levels

  abbrev Says : MessageSays
  Says = IsMessage enter levels

  abbrev Outcome : List ℕ → WireRead (List Field) → Type 0
  Outcome bs (Ok fs) = AreRecords Says numbers bs fs
  Outcome bs (Err e) = BreaksOff enter levels numbers bs e

  one_more : (bs part rest : List ℕ) (f : Field) → bs ≡ part ++ rest
      → IsRecord Says numbers part f → (r : WireRead (List Field)) → Outcome rest r
      → Outcome bs (r >>= λ fs. Ok (f ∷ fs))
  one_more bs part rest f parts is (Ok fs) are =
      subst (λ (z : List ℕ). AreRecords Says numbers z (f ∷ fs)) (sym parts) (more is are)
  one_more bs part rest f parts is (Err e) stops = record {
    front = part ++ stops.front;
    rest = stops.rest;
    parts = parts ∙ ap (λ (z : List ℕ). part ++ z) stops.parts
        ∙ sym (append_assoc part stops.front stops.rest);
    before = f ∷ stops.before;
    records = more is stops.records;
    some = stops.some;
    fault = stops.fault;
  }

  outcome : (n : ℕ) (bs : List ℕ) → length bs ≤ n
      → Outcome bs (records (message_at enter levels) numbers n bs)
  unfolding records
  outcome n [] le = none
  outcome zero (b ∷ bs) le = absurd (omega arith)
  outcome (suc n) (b ∷ bs) le =
      by_first (record_at (message_at enter levels) numbers (b ∷ bs)) refl
      (λ rest. outcome n rest)
    where
      by_first : (r : WireRead (Field × List ℕ))
          → record_at (message_at enter levels) numbers (b ∷ bs) ≡ r
          → ((rest : List ℕ) → length rest ≤ n
          → Outcome rest (records (message_at enter levels) numbers n rest))
          → Outcome (b ∷ bs) (r >>= λ (first : Field × List ℕ).
          records (message_at enter levels) numbers n first.1 >>= λ fs. Ok (first.0 ∷ fs))
      by_first (Err e) is others = record {
        front = [];
        rest = b ∷ bs;
        parts = refl;
        before = [];
        records = none;
        some = omega arith;
        fault = is;
      }
      by_first (Ok x) is others =
          let one = record_taken (message_at enter levels) Says agree numbers (b ∷ bs) x.0 x.1 is
          in
          let some : 0 < length one.front = some_bytes Says numbers one.front x.0 one.is in
          let len : suc (length bs) ≡ length one.front + length x.1 =
          ap length one.parts ∙ length-append one.front x.1 in
          one_more (b ∷ bs) one.front x.1 x.0 one.parts one.is
          (records (message_at enter levels) numbers n x.1) (others x.1 (omega arith))

  -- ---- records are read

  record_step : (n : ℕ) (bs : List ℕ) (f : Field) (rest : List ℕ) (r : WireRead (List Field))
      → length bs ≤ n → length rest < length bs
      → record_at (message_at enter levels) numbers bs ≡ Ok (f, rest)
      → ((m : ℕ) → length rest ≤ m → records (message_at enter levels) numbers m rest ≡ r)
      → records (message_at enter levels) numbers n bs ≡ (r >>= λ fs. Ok (f ∷ fs))
  unfolding records
  record_step n [] f rest r le less e others = absurd (omega arith)
  record_step zero (b ∷ bs) f rest r le less e others = absurd (omega arith)
  record_step (suc n) (b ∷ bs) f rest r le less e others = rw (e, others n (omega arith)) refl

  records_behind : (rest : List ℕ) (r : WireRead (List Field))
      → ((m : ℕ) → length rest ≤ m → records (message_at enter levels) numbers m rest ≡ r)
      → (front : List ℕ) (fs : List Field) → AreRecords Says numbers front fs
      → (n : ℕ) → length (front ++ rest) ≤ n
      → records (message_at enter levels) numbers n (front ++ rest) ≡ behind fs r
  records_behind rest r is front fs none n le = is n le ∙ sym (behind_none r)
  records_behind rest r is front fs
      (more {ts = ts} {us = us} {a = f} {as' = fs'} one others) n le =
      let some : 0 < length ts = some_bytes Says numbers ts f one in
      let parts : (ts ++ us) ++ rest ≡ ts ++ (us ++ rest) = append_assoc ts us rest in
      rw parts (
      record_step n (ts ++ (us ++ rest)) f (us ++ rest) (behind fs' r)
      (rw parts at le)
      (omega (arith, length-append ts (us ++ rest)))
      (record_given (message_at enter levels) Says agree numbers ts f (us ++ rest) one)
      (λ m less. records_behind rest r is us fs' others m less)
      ∙ behind_one f fs' r)

  records_ok : (bs : List ℕ) (fs : List Field) → AreRecords Says numbers bs fs
      → records (message_at enter levels) numbers (length bs) bs ≡ Ok fs
  unfolding records
  records_ok bs fs are =
      let all = records_behind [] (Ok []) (λ m le. refl) bs fs are (length bs)
      (rw (append-nil bs) (omega arith)) in
      (rw (append-nil bs, append-nil fs) at all)

  fault_first : (e : ReadFault) (n : ℕ) (bs : List ℕ) → length bs ≤ n → 0 < length bs
      → record_at (message_at enter levels) numbers bs ≡ Err e
      → records (message_at enter levels) numbers n bs ≡ Err e
  unfolding records
  fault_first e n [] le some fault = absurd (omega arith)
  fault_first e zero (b ∷ bs) le some fault = absurd (omega arith)
  fault_first e (suc n) (b ∷ bs) le some fault = rw fault refl

  records_err : (bs : List ℕ) (e : ReadFault) → BreaksOff enter levels numbers bs e
      → records (message_at enter levels) numbers (length bs) bs ≡ Err e
  records_err bs e stops =
      ap (λ (z : List ℕ). records (message_at enter levels) numbers (length z) z) stops.parts
      ∙ records_behind stops.rest (Err e)
      (λ m le. fault_first e m stops.rest le stops.some stops.fault) stops.front
      stops.before stops.records (length (stops.front ++ stops.rest)) (omega arith)

  -- ---- what stands in front of a fault

  longest : (e : ReadFault) (front rest : List ℕ) (fs : List Field)
      → AreRecords Says numbers front fs
      → record_at (message_at enter levels) numbers rest ≡ Err e
      → (front' rest' : List ℕ) (fs' : List Field) → AreRecords Says numbers front' fs'
      → front ++ rest ≡ front' ++ rest' → length front' ≤ length front
  longest e front rest fs are fault front' rest' fs' none parts = omega arith
  longest e front rest fs none fault front' rest' fs'
      (more {ts = ts'} {us = us'} {a = f'} one' others') parts =
      let read : record_at (message_at enter levels) numbers rest ≡ Ok (f', us' ++ rest') =
      ap (record_at (message_at enter levels) numbers) (parts ∙ append_assoc ts' us' rest')
      ∙ record_given (message_at enter levels) Says agree numbers ts' f' (us' ++ rest') one' in
      absurd (cc)
  longest e front rest fs
      (more {ts = ts} {us = us} {a = f} {as' = gs} one others) fault front' rest' fs'
      (more {ts = ts'} {us = us'} {a = f'} {as' = gs'} one' others') parts =
      let read : ◌≡◌ {A = WireRead (Field × List ℕ)} (Ok (f, us ++ rest)) (Ok (f', us' ++ rest'))
      = sym (record_given (message_at enter levels) Says agree numbers ts f (us ++ rest) one)
      ∙ ap (record_at (message_at enter levels) numbers)
      (sym (append_assoc ts us rest) ∙ parts ∙ append_assoc ts' us' rest')
      ∙ record_given (message_at enter levels) Says agree numbers ts' f' (us' ++ rest') one' in
      let after : us ++ rest ≡ us' ++ rest' =
      same_rest f f' (us ++ rest) (us' ++ rest') read in
      same_length ts us rest ts' us' rest' parts after
      (longest e us rest gs others fault us' rest' gs' others' after)

-- ---- the laws

-- one more level
level : (enter : Option Text → WireRead FieldsByNumber) (levels : ℕ)
    → Agree (message_at enter levels) (IsMessage enter levels)
    → Agree (message_at enter (suc levels)) (IsMessage enter (suc levels))
unfolding message_at IsMessage
level enter levels agree name bs fs = (λ e. told (enter name) refl e, back)
  where
    told : (w : WireRead FieldsByNumber) → enter name ≡ w
        → (w >>= λ (numbers : FieldsByNumber).
        records (message_at enter levels) numbers (length bs) bs) ≡ Ok fs
        → (numbers : FieldsByNumber) × (enter name ≡ Ok numbers)
        × AreRecords (IsMessage enter levels) numbers bs fs
    told (Err f) is e = absurd (cc)
    told (Ok numbers) is e = (
      numbers,
      is,
      subst (λ (r : WireRead (List Field)). Outcome enter levels agree numbers bs r) e
          (outcome enter levels agree numbers (length bs) bs (omega arith)),
    )

    back : (numbers : FieldsByNumber) × (enter name ≡ Ok numbers)
        × AreRecords (IsMessage enter levels) numbers bs fs
        → message_at enter (suc levels) name bs ≡ Ok fs
    back h = rw h.1 (records_ok enter levels agree h.0 bs fs h.2)

pub messages_are_read : MessagesAreRead
unfolding message_at IsMessage
messages_are_read enter zero name bs fs = (λ e. absurd (cc), λ h. absurd h)
messages_are_read enter (suc levels) name bs fs =
    level enter levels (λ n cs gs. messages_are_read enter levels n cs gs) name bs fs

pub faults_stand_behind_records : FaultsStandBehindRecords
unfolding message_at
faults_stand_behind_records enter levels name bs e =
    (λ h. told (enter name) refl h, λ h. elim h [ inl f ↦ none_entered f | inr s ↦ stopped s ])
  where
    agree : Agree (message_at enter levels) (IsMessage enter levels)
    agree n cs gs = messages_are_read enter levels n cs gs

    told : (w : WireRead FieldsByNumber) → enter name ≡ w
        → (w >>= λ (numbers : FieldsByNumber).
        records (message_at enter levels) numbers (length bs) bs) ≡ Err e
        → (enter name ≡ Err e) ⊎ ((numbers : FieldsByNumber) × (enter name ≡ Ok numbers)
        × BreaksOff enter levels numbers bs e)
    told (Err f) is h = let same : f ≡ e = cc in inl (is ∙ ap (λ (z : ReadFault). Err z) same)
    told (Ok numbers) is h =
        inr (
          numbers,
          is,
          subst (λ (r : WireRead (List Field)). Outcome enter levels agree numbers bs r) h
              (outcome enter levels agree numbers (length bs) bs (omega arith)),
        )

    none_entered : enter name ≡ Err e → message_at enter (suc levels) name bs ≡ Err e
    none_entered is = rw is refl

    stopped : (numbers : FieldsByNumber) × (enter name ≡ Ok numbers)
        × BreaksOff enter levels numbers bs e
        → message_at enter (suc levels) name bs ≡ Err e
    stopped h = rw h.1 (records_err enter levels agree h.0 bs e h.2)

pub front_is_longest : FrontIsLongest
front_is_longest enter levels numbers bs e stop front rest fs parts are =
    longest enter levels (λ n cs gs. messages_are_read enter levels n cs gs) numbers e stop.front
    stop.rest stop.before stop.records stop.fault front rest fs are (sym stop.parts ∙ parts)
