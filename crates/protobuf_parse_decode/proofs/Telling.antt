-- Records one after the other, as a loop takes them.
use Rattle.std.proofs.Common.{◌≡◌, ℕ, ◌+◌, ◌<◌, List, [], ◌∷◌, ◌++◌, length, get_or, drop, map}
use Rattle.std.proofs.Common.{Ok, Err, refl, sym, ap, ◌∙◌, drop-cons, add-one}
use Rattle.protobuf_parse_records.specs.Views.{WireRecord, record_view}
use Rattle.protobuf_parse_records.specs.Wire.{◌>>=◌}
use Rattle.protobuf_parse_records.specs.declared.wire.Record.{Record}
use Rattle.protobuf_parse_decode.specs.declared.fault.DecodeError.{DecodeError}
use Rattle.protobuf_parse_decode.specs.declared.fault.DecodeError.TheVariants as error
use Rattle.protobuf_parse_decode.specs.Answers.{Answer, Fails}
use Rattle.protobuf_parse_decode.specs.Declarations.{FieldsByNumber}
use Rattle.protobuf_parse_decode.specs.Decoding.{Inner, fields_of, meaning_of}
use Rattle.protobuf_parse_decode.specs.Fields.{Meaning, Fields, no_fields, field}
use Rattle.protobuf_parse_decode.specs.Views.{FieldItem, in_front}

-- an answer behind fields that were found
abbrev pub with_front : List FieldItem → Answer Fields → Answer Fields
with_front front answer = answer >>= λ (fs : Fields). Ok (in_front front fs)

-- The front and what the rest means are all.
pub record ToTell (inner : Inner) (declared : FieldsByNumber) (front : List FieldItem)
    (rest : List WireRecord) (total : Answer Fields) : Type 0 where
  pub so_far : with_front front (fields_of inner declared rest) ≡ total

-- the next record
pub next_record : (rs : List Record) (i : ℕ) (r : Record) → i < length rs → r ≡ get_or rs i r
    → map record_view (drop i rs) ≡ record_view r ∷ map record_view (drop (i + 1) rs)
next_record rs i r below is =
    let step : drop i rs ≡ r ∷ drop (i + 1) rs = rw (add-one, drop-cons rs i r, ← is) refl in
    ap (λ (xs : List Record). map record_view xs) step

-- what is kept of a record
abbrev pub item_of : WireRecord → Meaning → FieldItem
item_of r m = record { number = r.number; whole = r.whole.bytes; meaning = m }

one_more : (front : List FieldItem) (f : FieldItem) (fs : Fields)
    → in_front (front ++ f ∷ []) fs ≡ in_front front (field f.number f.whole f.meaning fs)
one_more [] f fs = refl
one_more (g ∷ front) f fs = ap (field g.number g.whole g.meaning) (one_more front f fs)

regroup : (front : List FieldItem) (f : FieldItem) (answer : Answer Fields)
    → with_front front (answer >>= λ (fs : Fields). Ok (field f.number f.whole f.meaning fs))
    ≡ with_front (front ++ f ∷ []) answer
regroup front f (Ok fs) = ap (λ (x : Fields). Ok x) (sym (one_more front f fs))
regroup front f (Err e) = refl

nothing_found : (answer : Answer Fields) → with_front [] answer ≡ answer
nothing_found (Ok fs) = refl
nothing_found (Err e) = refl

pub begins : (inner : Inner) (declared : FieldsByNumber) (rs : List WireRecord)
    → ToTell inner declared [] rs (fields_of inner declared rs)
begins inner declared rs = record { so_far = nothing_found (fields_of inner declared rs) }

-- one record more
pub goes_on : (inner : Inner) (declared : FieldsByNumber) (front : List FieldItem)
    (r : WireRecord) (rs : List WireRecord) (m : Meaning) (total : Answer Fields)
    → meaning_of inner (declared r.number) r ≡ Ok m
    → ToTell inner declared front (r ∷ rs) total
    → ToTell inner declared (front ++ item_of r m ∷ []) rs total
unfolding fields_of
goes_on inner declared front r rs m total e left =
    let one : with_front front (fields_of inner declared (r ∷ rs))
    ≡ with_front (front ++ item_of r m ∷ []) (fields_of inner declared rs) =
    rw e (regroup front (item_of r m) (fields_of inner declared rs)) in
    record { so_far = sym one ∙ left.so_far }

-- What is wrong with the next record is what is wrong with all.
pub ends : (inner : Inner) (declared : FieldsByNumber) (front : List FieldItem)
    (r : WireRecord) (rs : List WireRecord) (e : DecodeError) (total : Answer Fields)
    → Fails e (meaning_of inner (declared r.number) r)
    → ToTell inner declared front (r ∷ rs) total → Fails e total
unfolding fields_of
ends inner declared front r rs error.Memory total fails left = tt
ends inner declared front r rs (error.Fault f) total fails left =
    let one : with_front front (fields_of inner declared (r ∷ rs)) ≡ Err f = rw fails refl in
    sym left.so_far ∙ one

-- No record is left.
pub is_done : (inner : Inner) (declared : FieldsByNumber) (front : List FieldItem)
    (total : Answer Fields)
    → ToTell inner declared front [] total → total ≡ Ok (in_front front no_fields)
unfolding fields_of
is_done inner declared front total left = sym left.so_far
