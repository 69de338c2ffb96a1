-- Records that were read have numbers that fields can have.
use Rattle.std.proofs.Common.{◌≡◌, ℕ, zero, suc, ◌/◌, ◌%◌, ◌^◌, ◌<◌, List, [], ◌∷◌, length, Bool}
use Rattle.std.proofs.Common.{true, false}
use Rattle.std.proofs.Common.{Option, Some, None, Ok, refl, subst, cond}
use Rattle.std.specs.Prelude.{◌&&◌, nat_lt}
use Rattle.std.proofs.lemmas.Bool.{ltb-true}
use Rattle.protobuf_parse_records.specs.declared.fault.FaultKind.TheVariants as kind
use Rattle.protobuf_parse_records.specs.declared.wire.WireType.{WireType}
use Rattle.protobuf_parse_records.specs.Views.{Extent, WireRecord, Content}
use Rattle.protobuf_parse_records.specs.Wire.{◌>>=◌, Answer, fault, if_known, is_field_number}
use Rattle.protobuf_parse_records.specs.Wire.{tag_at, up_to, varint_at, wire_type}
use Rattle.protobuf_parse_records.specs.Splitting.{payload_at, record_at, records_in}
use Rattle.protobuf_parse_records.specs.Splitting.{records_within}
use Rattle.protobuf_parse_decode.specs.Parts.{HaveSmallNumbers}
use Rattle.protobuf_parse_decode.proofs.Steps.{gave, ok_is}

abbrev Tag : Type 0
Tag = (ℕ × WireType) × Extent

both : (s t : Bool) → (s && t) ≡ true → t ≡ true
both true t h = h
both false t h = absurd (cc)

known_small : (at n : ℕ) (o : Option WireType) (rest : Extent) (x : Tag) → n < 2 ^ 29
    → if_known at n o rest ≡ Ok x → x.0.0 < 2 ^ 29
known_small at n (Some w) rest x small h =
    subst (λ (y : Tag). y.0.0 < 2 ^ 29) (ok_is ((n, w), rest) x h) small
known_small at n None rest x small h = absurd (cc)

tested_small : (at n : ℕ) (o : Option WireType) (rest : Extent) (x : Tag) (b : Bool)
    → is_field_number n ≡ b
    → ◌≡◌ {A = Answer Tag} (cond b (if_known at n o rest) (fault at kind.BadFieldNumber)) (Ok x)
    → x.0.0 < 2 ^ 29
tested_small at n o rest x true is h =
    known_small at n o rest x (ltb-true n (2 ^ 29) (both (nat_lt 0 n) (nat_lt n (2 ^ 29)) is)) h
tested_small at n o rest x false is h = absurd (cc)

tag_small : (s : Extent) (x : Tag) → tag_at s ≡ Ok x → x.0.0 < 2 ^ 29
unfolding tag_at
tag_small s x h =
    let g = gave (varint_at s) (λ (tag : ℕ × Extent).
    cond (is_field_number (tag.0 / 8))
    (if_known s.start (tag.0 / 8) (wire_type (tag.0 % 8)) tag.1)
    (fault s.start kind.BadFieldNumber)) x h in
    tested_small s.start (g.first.0 / 8) (wire_type (g.first.0 % 8)) g.first.1 x
    (is_field_number (g.first.0 / 8)) refl g.then

record_small : (s : Extent) (x : WireRecord × Extent) → record_at s ≡ Ok x
    → x.0.number < 2 ^ 29
unfolding record_at
record_small s x h =
    let g = gave (tag_at s) (λ (tag : Tag).
    payload_at s.start tag.0.0 tag.0.1 tag.1 >>= λ (p : Content × Extent).
    Ok (record { number = tag.0.0; whole = up_to s p.1; content = p.0 }, p.1)) x h in
    let k = gave (payload_at s.start g.first.0.0 g.first.0.1 g.first.1) (λ (p : Content × Extent).
    Ok (record { number = g.first.0.0; whole = up_to s p.1; content = p.0 }, p.1)) x g.then in
    subst (λ (y : WireRecord × Extent). y.0.number < 2 ^ 29) (ok_is _ x k.then)
    (tag_small s g.first g.is)

all_small : (most start : ℕ) (bs : List ℕ) (rs : List WireRecord)
    → records_within most start bs ≡ Ok rs → HaveSmallNumbers rs
unfolding records_within
all_small most start [] rs h = subst HaveSmallNumbers (ok_is [] rs h) tt
all_small zero start (b ∷ bs) rs h = absurd (cc)
all_small (suc most) start (b ∷ bs) rs h =
    let s : Extent = record { start = start; bytes = b ∷ bs } in
    let g = gave (record_at s) (λ (first : WireRecord × Extent).
    records_within most first.1.start first.1.bytes >>= λ (others : List WireRecord).
    Ok (first.0 ∷ others)) rs h in
    let k = gave (records_within most g.first.1.start g.first.1.bytes)
    (λ (others : List WireRecord). Ok (g.first.0 ∷ others)) rs g.then in
    subst HaveSmallNumbers (ok_is (g.first.0 ∷ k.first) rs k.then)
    (record_small s g.first g.is, all_small most g.first.1.start g.first.1.bytes k.first k.is)

pub small_numbers : (s : Extent) (rs : List WireRecord) → records_in s ≡ Ok rs
    → HaveSmallNumbers rs
small_numbers s rs h = all_small (length s.bytes) s.start s.bytes rs h
