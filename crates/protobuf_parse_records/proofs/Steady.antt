-- What a part of the reader takes stands at the front of the bytes, and it takes the same whatever
-- bytes stand behind that.
use Rattle.std.proofs.Common.{◌≡◌, ℕ, zero, suc, ◌+◌, ◌-◌, ◌*◌, ◌/◌, ◌%◌, ◌^◌, ◌≤◌, ltb}
use Rattle.std.proofs.Common.{Bool, true, false, List, [], ◌∷◌, ◌++◌, length, take, drop, Option}
use Rattle.std.proofs.Common.{Some, None, Ok, Err, Result, refl, sym, ap, subst, ◌∙◌, append_assoc}
use Rattle.std.proofs.Common.{length-append, arith}
use Rattle.std.specs.Prelude.{if◌then◌else◌}
use Rattle.std.specs.Int.{w32, w64, from_le_bytes}
use Rattle.std.proofs.lemmas.Bool.{ltb-false, le-ltb}
use Rattle.std.proofs.lemmas.List.{length-take-le, take-append-drop}
use Rattle.std.proofs.Math.Seq.{take-append_seam, drop-append_seam}
use Rattle.protobuf_parse_records.specs.declared.fault.FaultKind.{FaultKind}
use Rattle.protobuf_parse_records.specs.declared.fault.FaultKind.TheVariants as kind
use Rattle.protobuf_parse_records.specs.declared.wire.WireType.{WireType}
use Rattle.protobuf_parse_records.specs.Views.{Extent}
use Rattle.protobuf_parse_records.specs.Wire.{Answer, ◌>>=◌, fault, standing_at, behind, if_64_bits}
use Rattle.protobuf_parse_records.specs.Wire.{varint_within, varint_at, bytes_at, delimited_at}
use Rattle.protobuf_parse_records.specs.Wire.{fixed32_at, fixed64_at, wire_type, is_field_number}
use Rattle.protobuf_parse_records.specs.Wire.{if_known, tag_at}

-- ---- binds

-- an answer that is no fault, and what came of it
pub record Made {A B E : Type 0} (m : Result A E) (next : A → Result B E) (y : B) : Type 0 where
  pub value : A
  pub is : m ≡ Ok value
  pub gives : next value ≡ Ok y

pub made : {A B E : Type 0} (m : Result A E) (next : A → Result B E) (y : B)
    → (m >>= next) ≡ Ok y → Made m next y
made (Ok x) next y e = record { value = x; is = refl; gives = e }
made (Err x) next y e = absurd (cc)

pub same_ok : {A E : Type 0} (x y : A) → ◌≡◌ {A = Result A E} (Ok x) (Ok y) → x ≡ y
same_ok x y e = cc

-- ---- what is taken

-- an extent with other bytes
abbrev pub with_bytes : Extent → List ℕ → Extent
with_bytes s bs = record { start = s.start; bytes = bs }

-- an extent with more bytes behind it
abbrev pub longer : Extent → List ℕ → Extent
longer s more = with_bytes s (s.bytes ++ more)

-- `rest` stands behind at least so many bytes of the extent
pub record IsBehind (least : ℕ) (s rest : Extent) : Type 0 where
  pub front : List ℕ
  pub parts : s.bytes ≡ front ++ rest.bytes
  pub start : rest.start ≡ s.start + length front
  pub some : least ≤ length front

abbrev pub behind_two : (least : ℕ) (s middle rest : Extent) → IsBehind least s middle
    → IsBehind 0 middle rest → IsBehind least s rest
behind_two least s middle rest one two =
    let long = length-append one.front two.front in
    let one_start = one.start in
    let two_start = two.start in
    let one_some = one.some in
    record {
      front = one.front ++ two.front;
      parts = one.parts ∙ ap (λ (z : List ℕ). one.front ++ z) two.parts
          ∙ sym (append_assoc one.front two.front rest.bytes);
      start = omega (arith, long, one_start, two_start);
      some = omega (arith, long, one_some);
    }

abbrev pub no_more : (s : Extent) → IsBehind 0 s s
no_more s = record { front = []; parts = refl; start = omega arith; some = omega arith }

-- the rest of a list, as an extent
abbrev behind_is : (least : ℕ) (s : Extent) (front rest : List ℕ) → s.bytes ≡ front ++ rest
    → least ≤ length front → IsBehind least s (behind s rest)
behind_is least s front rest parts some =
    let long : length s.bytes ≡ length front + length rest =
    ap length parts ∙ length-append front rest in
    record { front = front; parts = parts; start = omega arith; some = some }

-- It starts there, whatever it is.
behind_front : (s : Extent) (front rest more : List ℕ) → s.bytes ≡ front ++ rest
    → behind (with_bytes s (front ++ more)) more ≡ with_bytes (behind s rest) more
behind_front s front rest more parts =
    let long : length s.bytes ≡ length front + length rest =
    ap length parts ∙ length-append front rest in
    let same : length (front ++ more) - length more ≡ length s.bytes - length rest =
    simp length-append (omega arith) in
    rw same refl

-- what reads a value at the front, and gives what stands behind it
abbrev pub Reader : Type 0 → Type 0
Reader A = Extent → Answer (A × Extent)

-- What is read stands at the front, and is read whatever stands behind that.
pub record Takes {A : Type 0} (least : ℕ) (read : Reader A) (s : Extent) (t : A × Extent)
    : Type 0 where
  pub place : IsBehind least s t.1
  pub alone : (more : List ℕ)
      → read (with_bytes s (place.front ++ more)) ≡ Ok (t.0, with_bytes t.1 more)

-- More bytes behind the rest make no difference.
pub again : {A : Type 0} (least : ℕ) (read : Reader A) (s : Extent) (t : A × Extent)
    → Takes least read s t → (more : List ℕ)
    → read (longer s more) ≡ Ok (t.0, longer t.1 more)
again {A} least read s t taken more =
    let place = taken.place in
    let parts : s.bytes ++ more ≡ place.front ++ (t.1.bytes ++ more) =
    ap (λ (z : List ℕ). z ++ more) place.parts
    ∙ append_assoc place.front t.1.bytes more in
    ap (λ (z : List ℕ). read (with_bytes s z)) parts ∙ taken.alone (t.1.bytes ++ more)

abbrev pub IsSteady : {A : Type 0} → ℕ → Reader A → Type 0
IsSteady {A} least read = (s : Extent) (t : A × Extent) → read s ≡ Ok t → Takes least read s t

pub at_least_none : {A : Type 0} (least : ℕ) (read : Reader A) → IsSteady least read
    → IsSteady 0 read
at_least_none least read steady s t e =
    let one = steady s t e in
    record {
      place = record {
        front = one.place.front;
        parts = one.place.parts;
        start = one.place.start;
        some = omega arith;
      };
      alone = one.alone;
    }

-- one value, and another one by it
pub steady_then : {A B : Type 0} (least : ℕ) (read : Reader A) (next : ℕ → A → Reader B)
    → IsSteady least read → ((start : ℕ) (x : A) → IsSteady 0 (next start x))
    → IsSteady least (λ s. read s >>= λ (x : A × Extent). next s.start x.0 x.1)
steady_then {A} {B} least read next first second s t e =
    let m = made (read s) (λ (x : A × Extent). next s.start x.0 x.1) t e in
    let one = first s m.value m.is in
    let two = second s.start m.value.0 m.value.1 t m.gives in
    record {
      place = behind_two least s m.value.1 t.1 one.place two.place;
      alone = λ more. rw (
        append_assoc one.place.front two.place.front more,
        one.alone (two.place.front ++ more),
        two.alone more,
      ) refl;
    }

-- a value, and what is made of it
pub steady_map : {A B : Type 0} (least : ℕ) (read : Reader A) (f : A → B) → IsSteady least read
    → IsSteady least (λ s. read s >>= λ (x : A × Extent). Ok (f x.0, x.1))
steady_map {A} {B} least read f first s t e =
    let m = made (read s) (λ (x : A × Extent). Ok (f x.0, x.1)) t e in
    let one = first s m.value m.is in
    subst (Takes least (λ s. read s >>= λ (x : A × Extent). Ok (f x.0, x.1)) s)
    (same_ok _ _ m.gives)
    (record { place = one.place; alone = λ more. rw (one.alone more) refl })

-- ---- varints

record TakesVarint (most : ℕ) (bs : List ℕ) (t : ℕ × List ℕ) : Type 0 where
  front : List ℕ
  parts : bs ≡ front ++ t.1
  some : 1 ≤ length front
  alone : (more : List ℕ) → varint_within most (front ++ more) ≡ Ok (t.0, more)

varint_taken : (most : ℕ) (bs : List ℕ) (t : ℕ × List ℕ) → varint_within most bs ≡ Ok t
    → TakesVarint most bs t
unfolding varint_within
varint_taken zero bs t e = absurd (cc)
varint_taken (suc most) [] t e = absurd (cc)
varint_taken (suc most) (b ∷ bs) t e =
    by_last (ltb b 128) refl e (λ high is. varint_taken most bs high is)
  where
    by_size : (high : ℕ × List ℕ) → ltb b 128 ≡ false → TakesVarint most bs high → (small : Bool)
        → ltb (b % 128 + 128 * high.0) (2 ^ 64) ≡ small
        → if◌then◌else◌ {A = Result (ℕ × List ℕ) FaultKind} small
        (Ok (b % 128 + 128 * high.0, high.1)) (Err kind.VarintTooLarge) ≡ Ok t
        → TakesVarint (suc most) (b ∷ bs) t
    by_size high continues others false is h = absurd (cc)
    by_size high continues others true is h =
        subst (TakesVarint (suc most) (b ∷ bs)) (same_ok _ _ h) (record {
          front = b ∷ others.front;
          parts = ap (λ (z : List ℕ). b ∷ z) others.parts;
          some = omega arith;
          alone = λ more. rw (continues, others.alone more, is) refl;
        })

    by_last : (last : Bool) → ltb b 128 ≡ last
        → if◌then◌else◌ {A = Result (ℕ × List ℕ) FaultKind} last (Ok (b, bs))
        (varint_within most bs >>= λ (high : ℕ × List ℕ).
        if_64_bits (b % 128 + 128 * high.0) high.1) ≡ Ok t
        → ((high : ℕ × List ℕ) → varint_within most bs ≡ Ok high → TakesVarint most bs high)
        → TakesVarint (suc most) (b ∷ bs) t
    by_last true is h others =
        subst (TakesVarint (suc most) (b ∷ bs)) (same_ok _ _ h) (record {
          front = b ∷ [];
          parts = refl;
          some = omega arith;
          alone = λ more. rw is refl;
        })
    by_last false is h others =
        let m = made (varint_within most bs) (λ (high : ℕ × List ℕ).
        if_64_bits (b % 128 + 128 * high.0) high.1) t h in
        by_size m.value is (others m.value m.is)
        (ltb (b % 128 + 128 * m.value.0) (2 ^ 64)) refl m.gives

pub varint_steady : IsSteady 1 varint_at
unfolding varint_at
varint_steady s t e =
    let m = made (standing_at s.start (varint_within 10 s.bytes)) (λ (n : ℕ × List ℕ).
    Ok (n.0, behind s n.1)) t e in
    let one = varint_taken 10 s.bytes m.value
    (stands s.start (varint_within 10 s.bytes) m.value m.is) in
    subst (Takes 1 varint_at s) (same_ok _ _ m.gives) (record {
      place = behind_is 1 s one.front m.value.1 one.parts one.some;
      alone = λ more. rw (one.alone more) (ap (λ (z : Extent). Ok (m.value.0, z))
          (behind_front s one.front m.value.1 more one.parts));
    })
  where
    stands : {A : Type 0} (at : ℕ) (r : Result A FaultKind) (x : A) → standing_at at r ≡ Ok x
        → r ≡ Ok x
    stands at (Ok y) x e = ap (λ z. Ok z) (same_ok y x e)
    stands at (Err y) x e = absurd (cc)

-- ---- bytes and numbers of fixed length

take_front : (front more : List ℕ) (n : ℕ) → length front ≡ n → take n (front ++ more) ≡ front
take_front front more n long =
    ap (λ (m : ℕ). take m (front ++ more)) (sym long) ∙ take-append_seam front more

drop_front : (front more : List ℕ) (n : ℕ) → length front ≡ n → drop n (front ++ more) ≡ more
drop_front front more n long =
    ap (λ (m : ℕ). drop m (front ++ more)) (sym long) ∙ drop-append_seam front more

pub bytes_steady : (count : ℕ) → IsSteady 0 (bytes_at count)
unfolding bytes_at
bytes_steady count s t e = by_length (ltb (length s.bytes) count) refl e
  where
    by_length : (few : Bool) → ltb (length s.bytes) count ≡ few
        → if◌then◌else◌ {A = Answer (Extent × Extent)} few (fault s.start kind.Truncated)
        (Ok (
          record { start = s.start; bytes = take count s.bytes },
          behind s (drop count s.bytes),
        )) ≡ Ok t
        → Takes 0 (bytes_at count) s t
    by_length true is h = absurd (cc)
    by_length false is h =
        let enough : count ≤ length s.bytes = ltb-false (length s.bytes) count is in
        subst (Takes 0 (bytes_at count) s) (same_ok _ _ h) (record {
          place = behind_is 0 s (take count s.bytes) (drop count s.bytes)
              (sym (take-append-drop count s.bytes)) (omega arith);
          alone = λ more. by_more more enough;
        })
      where
        by_more : (more : List ℕ) → count ≤ length s.bytes
            → bytes_at count (with_bytes s (take count s.bytes ++ more))
            ≡ Ok (
              with_bytes s (take count s.bytes),
              with_bytes (behind s (drop count s.bytes)) more,
            )
        by_more more enough =
            let long : length (take count s.bytes) ≡ count = length-take-le count s.bytes enough in
            let still : count ≤ length (take count s.bytes ++ more) =
            simp length-append (omega arith) in
            rw (
              le-ltb (length (take count s.bytes ++ more)) count still,
              take_front (take count s.bytes) more count long,
              drop_front (take count s.bytes) more count long,
            )
            (ap (λ (z : Extent). Ok (with_bytes s (take count s.bytes), z))
            (behind_front s (take count s.bytes) (drop count s.bytes) more
            (sym (take-append-drop count s.bytes))))

pub delimited_steady : IsSteady 0 delimited_at
unfolding delimited_at
delimited_steady = at_least_none 1 delimited_at (steady_then 1 varint_at
    (λ start count. bytes_at count) varint_steady (λ start count. bytes_steady count))

pub fixed32_steady : IsSteady 0 fixed32_at
unfolding fixed32_at
fixed32_steady = steady_map 0 (bytes_at 4) (λ (four : Extent). from_le_bytes w32 four.bytes)
    (bytes_steady 4)

pub fixed64_steady : IsSteady 0 fixed64_at
unfolding fixed64_at
fixed64_steady = steady_map 0 (bytes_at 8) (λ (eight : Extent). from_le_bytes w64 eight.bytes)
    (bytes_steady 8)

-- ---- tags

pub tag_steady : IsSteady 1 tag_at
unfolding tag_at
tag_steady = steady_then 1 varint_at
    (λ start tag rest. if is_field_number (tag / 8)
    then if_known start (tag / 8) (wire_type (tag % 8)) rest else fault start kind.BadFieldNumber)
    varint_steady (λ start tag. by_number start tag (is_field_number (tag / 8)))
  where
    by_type : (start number : ℕ) (w : Option WireType) → IsSteady 0 (if_known start number w)
    by_type start number None s t e = absurd (cc)
    by_type start number (Some w) s t e =
        subst (Takes 0 (if_known start number (Some w)) s) (same_ok _ _ e)
        (record { place = no_more s; alone = λ more. refl })

    by_number : (start tag : ℕ) (good : Bool)
        → IsSteady 0 (λ rest. if good then if_known start (tag / 8) (wire_type (tag % 8)) rest
        else fault start kind.BadFieldNumber)
    by_number start tag true s t e = by_type start (tag / 8) (wire_type (tag % 8)) s t e
    by_number start tag false s t e = absurd (cc)
