-- One level of a message, and one record, by what the code found.
use Rattle.std.proofs.Common.{◌≡◌, ℕ, zero, suc, ◌-◌, List, length, Option, Some, Ok, Err, refl}
use Rattle.std.proofs.Common.{None, option_map, sym, ap, ◌∙◌, arith}
use Rattle.std.specs.Prelude.{IsSome}
use Rattle.std.proofs.lemmas.Bool.{eq-eqb}
use Rattle.protobuf_parse_model.specs.Descriptors.{Text, FieldDescriptor}
use Rattle.protobuf_parse_wire.specs.declared.fault.ReadFault.{ReadFault}
use Rattle.protobuf_parse_wire.specs.declared.fault.ReadFault.TheVariants.{TooDeep}
use Rattle.protobuf_parse_wire.specs.Kinds.{KindShape, shape_of_type, wire_type}
use Rattle.protobuf_parse_wire.specs.Reading.{WireRead, Inner, FieldsByNumber, value_at, typed_at}
use Rattle.protobuf_parse_wire.specs.Reading.{payload_at}
use Rattle.protobuf_parse_wire.specs.Reading.{records, message_at}
use Rattle.protobuf_parse_wire.specs.ViewParts.{payload_of_type}

pub too_deep : (enter : Option Text → WireRead FieldsByNumber) (levels : ℕ) (name : Option Text)
    (bs : List ℕ)
    → levels ≡ 0 → message_at enter levels name bs ≡ Err TooDeep
unfolding message_at
too_deep enter zero name bs none = refl
too_deep enter (suc n) name bs none = absurd (omega arith)

pub not_entered : (enter : Option Text → WireRead FieldsByNumber) (levels : ℕ) (name : Option Text)
    (bs : List ℕ) (e : ReadFault) → (levels ≡ 0 → ⊥) → enter name ≡ Err e
    → message_at enter levels name bs ≡ Err e
unfolding message_at
not_entered enter zero name bs e some stops = absurd (some refl)
not_entered enter (suc n) name bs e some stops = rw stops refl

pub one_level : (enter : Option Text → WireRead FieldsByNumber) (levels : ℕ) (name : Option Text)
    (bs : List ℕ)
    (numbers : FieldsByNumber) → (levels ≡ 0 → ⊥) → enter name ≡ Ok numbers
    → message_at enter levels name bs
    ≡ records (message_at enter (levels - 1)) numbers (length bs) bs
unfolding message_at
one_level enter zero name bs numbers some is = absurd (some refl)
one_level enter (suc n) name bs numbers some is =
    let k : n ≡ suc n - 1 = omega arith in
    rw is (ap (λ m. records (message_at enter m) numbers (length bs) bs) k)

pub value_is : (inner : Inner) (named : Option FieldDescriptor) (f : FieldDescriptor)
    (s : KindShape) (wire : ℕ) (bs : List ℕ) → named ≡ Some f → shape_of_type f.type_ ≡ Some s
    → wire_type s ≡ wire
    → value_at inner named wire bs ≡ payload_at inner f.type_name s bs
unfolding value_at typed_at
value_is inner named f s wire bs is shaped fits =
    rw (is, shaped, eq-eqb wire (wire_type s) (sym fits)) refl

-- the same where the wire type that the type has is known
pub value_found : (inner : Inner) (named : Option FieldDescriptor) (f : FieldDescriptor)
    (expected wire : ℕ) (bs : List ℕ) → named ≡ Some f
    → Some expected ≡ option_map wire_type (shape_of_type f.type_) → expected ≡ wire
    → value_at inner named wire bs
    ≡ payload_of_type inner f.type_name (shape_of_type f.type_) bs
value_found inner named f expected wire bs is has same = by_shape (shape_of_type f.type_) refl has
  where
    by_shape : (o : Option KindShape) → shape_of_type f.type_ ≡ o
        → Some expected ≡ option_map wire_type o
        → value_at inner named wire bs ≡ payload_of_type inner f.type_name o bs
    by_shape None shaped h = absurd (cc)
    by_shape (Some s) shaped h =
        let fits : expected ≡ wire_type s = cc in
        value_is inner named f s wire bs is shaped (sym fits ∙ same)

-- a type that has a wire type is one that is read
pub is_read : (expected : ℕ) (o : Option KindShape) → Some expected ≡ option_map wire_type o
    → IsSome o
is_read expected None h = absurd (cc)
is_read expected (Some s) h = refl
