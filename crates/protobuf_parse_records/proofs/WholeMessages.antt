-- Records of whole messages: they are all of the bytes, and joined bytes have joined records.
use Rattle.std.proofs.Common.{◌≡◌, ℕ, zero, suc, ◌+◌, ◌-◌, ◌<◌, ◌≤◌, ltb, Bool, true, false}
use Rattle.std.proofs.Common.{List, [], ◌∷◌, ◌++◌, length, take, Ok, Err, refl, sym, ap, subst, ◌∙◌}
use Rattle.std.proofs.Common.{append_assoc, length-append, arith}
use Rattle.std.specs.Prelude.{◌==◌, if◌then◌else◌}
use Rattle.std.specs.List.{flat_map}
use Rattle.std.proofs.Math.Seq.{take-append_seam}
use Rattle.protobuf_parse_records.specs.declared.fault.FaultKind.TheVariants as kind
use Rattle.protobuf_parse_records.specs.declared.wire.WireType.{WireType}
use Rattle.protobuf_parse_records.specs.declared.wire.WireType.TheVariants as wire
use Rattle.protobuf_parse_records.specs.Views.{Extent, Content, WireRecord, varint, fixed64}
use Rattle.protobuf_parse_records.specs.Views.{fixed32, delimited, group}
use Rattle.protobuf_parse_records.specs.Wire.{Answer, ◌>>=◌, fault, up_to, varint_at, delimited_at}
use Rattle.protobuf_parse_records.specs.Wire.{fixed32_at, fixed64_at, tag_at}
use Rattle.protobuf_parse_records.specs.Splitting.{innermost, most_groups, passed, step_at}
use Rattle.protobuf_parse_records.specs.Splitting.{closed_within, group_end_at, payload_at}
use Rattle.protobuf_parse_records.specs.Splitting.{record_at, records_within, records_in}
use Rattle.protobuf_parse_records.specs.Laws.{record_bytes, FollowOn, RecordsAreTheBytes}
use Rattle.protobuf_parse_records.specs.Laws.{RecordsAreJoined}
use Rattle.protobuf_parse_records.proofs.Later.{offsets_count_on}
use Rattle.protobuf_parse_records.proofs.Steady.{made, same_ok, with_bytes, again, IsBehind}
use Rattle.protobuf_parse_records.proofs.Steady.{behind_two}
use Rattle.protobuf_parse_records.proofs.Steady.{no_more, Takes, IsSteady, at_least_none}
use Rattle.protobuf_parse_records.proofs.Steady.{steady_then, steady_map, varint_steady, tag_steady}
use Rattle.protobuf_parse_records.proofs.Steady.{delimited_steady, fixed32_steady, fixed64_steady}

-- ---- tags inside groups

passed_steady : (at : ℕ) (groups : List ℕ) (number : ℕ) (w : WireType)
    → IsSteady 0 (passed at groups number w)
unfolding passed
passed_steady at groups number wire.Varint =
    at_least_none 1 (passed at groups number wire.Varint)
    (steady_map 1 varint_at (λ (n : ℕ). groups) varint_steady)
passed_steady at groups number wire.Fixed64 =
    steady_map 0 fixed64_at (λ (n : ℕ). groups) fixed64_steady
passed_steady at groups number wire.Delimited =
    steady_map 0 delimited_at (λ (inside : Extent). groups) delimited_steady
passed_steady at groups number wire.GroupStart = by_count (ltb (length groups) most_groups)
  where
    by_count : (few : Bool)
        → IsSteady 0 (λ (s : Extent). if◌then◌else◌ {A = Answer (List ℕ × Extent)} few
        (Ok (groups ++ number ∷ [], s)) (fault at kind.TooManyGroups))
    by_count true s t e = subst (Takes 0 (λ (s : Extent). Ok (groups ++ number ∷ [], s)) s)
        (same_ok _ _ e) (record { place = no_more s; alone = λ more. refl })
    by_count false s t e = absurd (cc)
passed_steady at groups number wire.GroupEnd = by_number (innermost groups == number)
  where
    by_number : (same : Bool)
        → IsSteady 0 (λ (s : Extent). if◌then◌else◌ {A = Answer (List ℕ × Extent)} same
        (Ok (take (length groups - 1) groups, s)) (fault at kind.UnmatchedGroupEnd))
    by_number true s t e =
        subst (Takes 0 (λ (s : Extent). Ok (take (length groups - 1) groups, s)) s)
        (same_ok _ _ e) (record { place = no_more s; alone = λ more. refl })
    by_number false s t e = absurd (cc)
passed_steady at groups number wire.Fixed32 =
    steady_map 0 fixed32_at (λ (n : ℕ). groups) fixed32_steady

step_steady : (groups : List ℕ) → IsSteady 1 (step_at groups)
unfolding step_at
step_steady groups = steady_then 1 tag_at (λ start tag. passed start groups tag.0 tag.1) tag_steady
    (λ start tag. passed_steady start groups tag.0 tag.1)

-- ---- what stands up to a rest

front_is : (s rest : Extent) (front : List ℕ) → s.bytes ≡ front ++ rest.bytes
    → take (length s.bytes - length rest.bytes) s.bytes ≡ front
front_is s rest front parts =
    let long : length s.bytes ≡ length front + length rest.bytes =
    ap length parts ∙ length-append front rest.bytes in
    let same : length s.bytes - length rest.bytes ≡ length front = omega arith in
    ap (λ (n : ℕ). take n s.bytes) same ∙ ap (take (length front)) parts
    ∙ take-append_seam front rest.bytes

pub up_to_is : (s rest : Extent) (front : List ℕ) → s.bytes ≡ front ++ rest.bytes
    → up_to s rest ≡ with_bytes s front
up_to_is s rest front parts =
    ap (λ (z : List ℕ). with_bytes s z) (front_is s rest front parts)

-- ---- groups

-- The last tag, behind which no group is open, stands behind some bytes, and these bytes and the
-- tag are read so whatever stands behind.
record TakesGroup (groups : List ℕ) (s : Extent) (t : Extent × Extent) : Type 0 where
  inside : IsBehind 0 s t.0
  ending : IsBehind 1 t.0 t.1
  alone : (more : List ℕ) (most : ℕ) (last : Extent)
      → length (inside.front ++ (ending.front ++ more)) < most
      → closed_within most last groups (with_bytes s (inside.front ++ (ending.front ++ more)))
      ≡ Ok (with_bytes t.0 (ending.front ++ more), with_bytes t.1 more)

pub no_groups : (most : ℕ) (last s : Extent) → closed_within most last [] s ≡ Ok (last, s)
unfolding closed_within
no_groups zero last s = refl
no_groups (suc most) last s = refl

group_taken : (most : ℕ) (last : Extent) (g : ℕ) (gs : List ℕ) (s : Extent) (t : Extent × Extent)
    → closed_within most last (g ∷ gs) s ≡ Ok t → TakesGroup (g ∷ gs) s t
unfolding closed_within
group_taken zero last g gs s t e = absurd (cc)
group_taken (suc most) last g gs s t e =
    let m = made (step_at (g ∷ gs) s) (λ (x : List ℕ × Extent). closed_within most s x.0 x.1) t e in
    by_groups m.value.0 m.value.1 (step_steady (g ∷ gs) s m.value m.is) m.gives
    (λ h hs. group_taken most s h hs m.value.1 t)
  where
    by_groups : (next : List ℕ) (after : Extent) → Takes 1 (step_at (g ∷ gs)) s (next, after)
        → closed_within most s next after ≡ Ok t
        → ((h : ℕ) (hs : List ℕ) → closed_within most s (h ∷ hs) after ≡ Ok t
        → TakesGroup (h ∷ hs) after t)
        → TakesGroup (g ∷ gs) s t
    by_groups [] after one h others =
        subst (TakesGroup (g ∷ gs) s) (same_ok _ _ (sym (no_groups most s after) ∙ h)) (record {
          inside = no_more s;
          ending = one.place;
          alone = λ more m last le. by_most more m last le;
        })
      where
        by_most : (more : List ℕ) (m : ℕ) (last : Extent)
            → length (one.place.front ++ more) < m
            → closed_within m last (g ∷ gs) (with_bytes s (one.place.front ++ more))
            ≡ Ok (with_bytes s (one.place.front ++ more), with_bytes after more)
        by_most more zero last le = absurd (omega arith)
        by_most more (suc m) last le = rw (one.alone more)
            (no_groups m (with_bytes s (one.place.front ++ more)) (with_bytes after more))
    by_groups (k ∷ ks) after one h others = by_others (others k ks h)
      where
        at_least : IsBehind 1 s after → IsBehind 0 s after
        at_least b =
            record { front = b.front; parts = b.parts; start = b.start; some = omega arith }

        by_others : TakesGroup (k ∷ ks) after t → TakesGroup (g ∷ gs) s t
        by_others rest = record {
          inside = record {
            front = one.place.front ++ rest.inside.front;
            parts = (behind_two 0 s after t.0 (at_least one.place) rest.inside).parts;
            start = (behind_two 0 s after t.0 (at_least one.place) rest.inside).start;
            some = omega arith;
          };
          ending = rest.ending;
          alone = λ more m last le. by_most more m last le;
        }
          where
            by_most : (more : List ℕ) (m : ℕ) (last : Extent)
                → length ((one.place.front ++ rest.inside.front) ++ (rest.ending.front ++ more)) < m
                → closed_within m last (g ∷ gs) (with_bytes s
                ((one.place.front ++ rest.inside.front) ++ (rest.ending.front ++ more)))
                ≡ Ok (with_bytes t.0 (rest.ending.front ++ more), with_bytes t.1 more)
            by_most more zero last le = absurd (omega arith)
            by_most more (suc m) last le =
                let parts : (one.place.front ++ rest.inside.front) ++ (rest.ending.front ++ more)
                ≡ one.place.front ++ (rest.inside.front ++ (rest.ending.front ++ more)) =
                append_assoc one.place.front rest.inside.front (rest.ending.front ++ more) in
                let long = length-append one.place.front
                (rest.inside.front ++ (rest.ending.front ++ more)) in
                let all = ap length parts in
                let some = one.place.some in
                let less : length (rest.inside.front ++ (rest.ending.front ++ more)) < m =
                omega arith in
                rw (parts, one.alone (rest.inside.front ++ (rest.ending.front ++ more)))
                (rest.alone more m (with_bytes s
                ((one.place.front ++ rest.inside.front) ++ (rest.ending.front ++ more))) less)

-- ---- records

payload_steady : (at number : ℕ) (w : WireType) → IsSteady 0 (payload_at at number w)
unfolding payload_at group_end_at
payload_steady at number wire.Varint =
    at_least_none 1 (payload_at at number wire.Varint) (steady_map 1 varint_at varint varint_steady)
payload_steady at number wire.Fixed64 = steady_map 0 fixed64_at fixed64 fixed64_steady
payload_steady at number wire.Delimited = steady_map 0 delimited_at delimited delimited_steady
payload_steady at number wire.GroupStart = group_steady
  where
    by_group : (s : Extent) (end : Extent × Extent) → TakesGroup (number ∷ []) s end
        → Takes 0 (payload_at at number wire.GroupStart) s (group (up_to s end.0), end.1)
    by_group s end one = record {
      place = record {
        front = one.inside.front ++ one.ending.front;
        parts = (behind_two 0 s end.0 end.1 one.inside (at_least one.ending)).parts;
        start = (behind_two 0 s end.0 end.1 one.inside (at_least one.ending)).start;
        some = omega arith;
      };
      alone = λ more.
          let left : up_to (with_bytes s (one.inside.front ++ (one.ending.front ++ more)))
          (with_bytes end.0 (one.ending.front ++ more)) ≡ with_bytes s one.inside.front =
          up_to_is (with_bytes s (one.inside.front ++ (one.ending.front ++ more)))
          (with_bytes end.0 (one.ending.front ++ more)) one.inside.front refl in
          rw (
            append_assoc one.inside.front one.ending.front more,
            one.alone more (suc (length (one.inside.front ++ (one.ending.front ++ more))))
                (with_bytes s (one.inside.front ++ (one.ending.front ++ more))) (omega arith),
            left,
            up_to_is s end.0 one.inside.front one.inside.parts,
          ) refl;
    }
      where
        at_least : IsBehind 1 end.0 end.1 → IsBehind 0 end.0 end.1
        at_least b =
            record { front = b.front; parts = b.parts; start = b.start; some = omega arith }

    group_steady : IsSteady 0 (payload_at at number wire.GroupStart)
    group_steady s t e =
        let m = made (group_end_at number s) (λ (end : Extent × Extent).
        Ok (group (up_to s end.0), end.1)) t e in
        subst (Takes 0 (payload_at at number wire.GroupStart) s) (same_ok _ _ m.gives)
        (by_group s m.value
        (group_taken (suc (length s.bytes)) s number [] s m.value m.is))
payload_steady at number wire.GroupEnd = λ s t e. absurd (cc)
payload_steady at number wire.Fixed32 = steady_map 0 fixed32_at fixed32 fixed32_steady

-- What a record takes is the whole of it.
pub record TakesRecord (s : Extent) (t : WireRecord × Extent) : Type 0 where
  pub takes : Takes 1 record_at s t
  pub whole : t.0.whole ≡ with_bytes s takes.place.front

pub record_taken : (s : Extent) (t : WireRecord × Extent) → record_at s ≡ Ok t → TakesRecord s t
unfolding record_at
record_taken s t e =
    let tagged = made (tag_at s) (λ (tag : (ℕ × WireType) × Extent).
    payload_at s.start tag.0.0 tag.0.1 tag.1 >>= λ (p : Content × Extent). Ok (
      record {
        number = tag.0.0;
        whole = up_to s p.1;
        content = p.0;
      },
      p.1,
    )) t e in
    by_tag tagged.value (tag_steady s tagged.value tagged.is) tagged.gives
  where
    by_tag : (tag : (ℕ × WireType) × Extent) → Takes 1 tag_at s tag
        → ◌≡◌ {A = Answer (WireRecord × Extent)} (payload_at s.start tag.0.0 tag.0.1 tag.1
        >>= λ (p : Content × Extent). Ok (
          record {
            number = tag.0.0;
            whole = up_to s p.1;
            content = p.0;
          },
          p.1,
        )) (Ok t)
        → TakesRecord s t
    by_tag tag one h =
        let held = made (payload_at s.start tag.0.0 tag.0.1 tag.1) (λ (p : Content × Extent).
        Ok (record { number = tag.0.0; whole = up_to s p.1; content = p.0 }, p.1)) t h in
        subst (TakesRecord s) (same_ok _ _ held.gives) (by_both held.value one
        (payload_steady s.start tag.0.0 tag.0.1 tag.1 held.value held.is))
      where
        by_both : (p : Content × Extent) → Takes 1 tag_at s tag
            → Takes 0 (payload_at s.start tag.0.0 tag.0.1) tag.1 p
            → TakesRecord s (record { number = tag.0.0; whole = up_to s p.1; content = p.0 }, p.1)
        by_both p one two = record {
          takes = record {
            place = behind_two 1 s tag.1 p.1 one.place two.place;
            alone = λ more.
                let left : up_to (with_bytes s ((one.place.front ++ two.place.front) ++ more))
                (with_bytes p.1 more) ≡ with_bytes s (one.place.front ++ two.place.front) =
                up_to_is (with_bytes s ((one.place.front ++ two.place.front) ++ more))
                (with_bytes p.1 more) (one.place.front ++ two.place.front) refl in
                let parts = append_assoc one.place.front two.place.front more in
                let left' = ap (λ (z : List ℕ). up_to (with_bytes s z) (with_bytes p.1 more))
                (sym parts) ∙ left in
                rw (
                  parts,
                  one.alone (two.place.front ++ more),
                  two.alone more,
                  left',
                  whole_is one two,
                ) refl;
          };
          whole = whole_is one two;
        }
          where
            whole_is : (one : Takes 1 tag_at s tag)
                (two : Takes 0 (payload_at s.start tag.0.0 tag.0.1) tag.1 p)
                → up_to s p.1 ≡ with_bytes s (one.place.front ++ two.place.front)
            whole_is one two = up_to_is s p.1 (one.place.front ++ two.place.front)
                (behind_two 1 s tag.1 p.1 one.place two.place).parts

-- ---- the records are the bytes

pub no_bytes : (most start : ℕ) → records_within most start [] ≡ Ok []
unfolding records_within
no_bytes zero start = refl
no_bytes (suc most) start = refl

-- The records are these bytes, from that offset on.
abbrev AreAllOf : ℕ → List ℕ → List WireRecord → Type 0
AreAllOf start bs rs = (flat_map record_bytes rs ≡ bs) × FollowOn start rs

one_more : (s : Extent) (t : WireRecord × Extent) (rs : List WireRecord) → TakesRecord s t
    → AreAllOf t.1.start t.1.bytes rs → AreAllOf s.start s.bytes (t.0 ∷ rs)
one_more s t rs taken all =
    let place = taken.takes.place in
    let bytes : t.0.whole.bytes ≡ place.front =
    ap (λ (w : Extent). w.bytes) taken.whole in
    let start : t.1.start ≡ s.start + length t.0.whole.bytes =
    place.start ∙ ap (λ (z : List ℕ). s.start + length z) (sym bytes) in (
      ap (λ (z : List ℕ). z ++ flat_map record_bytes rs) bytes
          ∙ ap (λ (z : List ℕ). place.front ++ z) all.0 ∙ sym place.parts,
      (
        ap (λ (w : Extent). w.start) taken.whole,
        subst (λ (n : ℕ). FollowOn n rs) start all.1,
      ),
    )

are_all_of : (most start : ℕ) (bs : List ℕ) (rs : List WireRecord)
    → records_within most start bs ≡ Ok rs → AreAllOf start bs rs
unfolding records_within
are_all_of most start [] rs e =
    subst (AreAllOf start []) (same_ok _ _ (sym (no_bytes most start) ∙ e)) (refl, tt)
are_all_of zero start (b ∷ bs) rs e = absurd (cc)
are_all_of (suc most) start (b ∷ bs) rs e =
    let s : Extent = record { start = start; bytes = b ∷ bs } in
    let first = made (record_at s) (λ (x : WireRecord × Extent).
    records_within most x.1.start x.1.bytes >>= λ (others : List WireRecord).
    Ok (x.0 ∷ others)) rs e in
    let others = made (records_within most first.value.1.start first.value.1.bytes)
    (λ (others : List WireRecord). Ok (first.value.0 ∷ others)) rs first.gives in
    subst (AreAllOf start (b ∷ bs)) (same_ok _ _ others.gives)
    (one_more s first.value others.value (record_taken s first.value first.is)
    (are_all_of most first.value.1.start first.value.1.bytes others.value others.is))

pub records_are_the_bytes : RecordsAreTheBytes
records_are_the_bytes s rs e = are_all_of (length s.bytes) s.start s.bytes rs e

-- ---- joined bytes

pub record_shorter : (s : Extent) (t : WireRecord × Extent) → record_at s ≡ Ok t
    → length t.1.bytes < length s.bytes
record_shorter s t e =
    let place = (record_taken s t e).takes.place in
    let long : length s.bytes ≡ length place.front + length t.1.bytes =
    ap length place.parts ∙ length-append place.front t.1.bytes in
    let some = place.some in
    omega arith

-- Any number that is enough gives the same.
pub enough : (most m start : ℕ) (bs : List ℕ) → length bs ≤ most → length bs ≤ m
    → records_within most start bs ≡ records_within m start bs
unfolding records_within
enough most m start [] le le' = no_bytes most start ∙ sym (no_bytes m start)
enough zero m start (b ∷ bs) le le' = absurd (omega arith)
enough (suc most) zero start (b ∷ bs) le le' = absurd (omega arith)
enough (suc most) (suc m) start (b ∷ bs) le le' =
    by_first (record_at (record { start = start; bytes = b ∷ bs })) refl
    (λ t less. enough most m t.1.start t.1.bytes (omega arith) (omega arith))
  where
    by_first : (r : Answer (WireRecord × Extent))
        → record_at (record { start = start; bytes = b ∷ bs }) ≡ r
        → ((t : WireRecord × Extent) → length t.1.bytes < suc (length bs)
        → records_within most t.1.start t.1.bytes ≡ records_within m t.1.start t.1.bytes)
        → (r >>= λ (x : WireRecord × Extent). records_within most x.1.start x.1.bytes
        >>= λ (others : List WireRecord). Ok (x.0 ∷ others))
        ≡ (r >>= λ (x : WireRecord × Extent). records_within m x.1.start x.1.bytes
        >>= λ (others : List WireRecord). Ok (x.0 ∷ others))
    by_first (Err x) is others = refl
    by_first (Ok t) is others =
        rw (others t (record_shorter (record { start = start; bytes = b ∷ bs }) t is)) refl

one_first : (r : WireRecord) (rs : List WireRecord) (answer : Answer (List WireRecord))
    → ((answer >>= λ (others : List WireRecord). Ok (rs ++ others))
    >>= λ (others : List WireRecord). Ok (r ∷ others))
    ≡ (answer >>= λ (others : List WireRecord). Ok (r ∷ (rs ++ others)))
one_first r rs (Ok others) = refl
one_first r rs (Err x) = refl

none_first : (answer : Answer (List WireRecord))
    → (answer >>= λ (others : List WireRecord). Ok ([] ++ others)) ≡ answer
none_first (Ok others) = refl
none_first (Err x) = refl

-- the records behind others, from that offset on
abbrev and_behind : List WireRecord → ℕ → List ℕ → Answer (List WireRecord)
and_behind rs start ys = records_in (record { start = start; bytes = ys })
    >>= λ (others : List WireRecord). Ok (rs ++ others)

are_joined : (most start : ℕ) (xs ys : List ℕ) (rs : List WireRecord)
    → records_within most start xs ≡ Ok rs → (m : ℕ) → length (xs ++ ys) ≤ m
    → records_within m start (xs ++ ys) ≡ and_behind rs (start + length xs) ys
unfolding records_within
are_joined most start [] ys rs e m le =
    let none : [] ≡ rs = same_ok _ _ (sym (no_bytes most start) ∙ e) in
    subst (λ (z : List WireRecord). records_within m start ys ≡ and_behind z (start + 0) ys) none
    (enough m (length ys) start ys le (omega arith)
    ∙ ap (λ (n : ℕ). records_within (length ys) n ys) start_is
    ∙ sym (none_first (records_in (record { start = start + 0; bytes = ys }))))
  where
    start_is : start ≡ start + 0
    start_is = omega arith
are_joined zero start (b ∷ xs) ys rs e m le = absurd (cc)
are_joined (suc most) start (b ∷ xs) ys rs e zero le = absurd (omega arith)
are_joined (suc most) start (b ∷ xs) ys rs e (suc m) le =
    let s : Extent = record { start = start; bytes = b ∷ xs } in
    let first = made (record_at s) (λ (x : WireRecord × Extent).
    records_within most x.1.start x.1.bytes >>= λ (others : List WireRecord).
    Ok (x.0 ∷ others)) rs e in
    let others = made (records_within most first.value.1.start first.value.1.bytes)
    (λ (others : List WireRecord). Ok (first.value.0 ∷ others)) rs first.gives in
    subst (λ (z : List WireRecord). records_within (suc m) start ((b ∷ xs) ++ ys)
    ≡ and_behind z (start + length (b ∷ xs)) ys) (same_ok _ _ others.gives)
    (by_first first.value others.value (record_taken s first.value first.is)
    (λ short. are_joined most first.value.1.start first.value.1.bytes ys others.value others.is m
    short))
  where
    by_first : (t : WireRecord × Extent) (others : List WireRecord)
        → TakesRecord (record { start = start; bytes = b ∷ xs }) t
        → (length (t.1.bytes ++ ys) ≤ m → records_within m t.1.start (t.1.bytes ++ ys)
        ≡ and_behind others (t.1.start + length t.1.bytes) ys)
        → records_within (suc m) start ((b ∷ xs) ++ ys)
        ≡ and_behind (t.0 ∷ others) (start + length (b ∷ xs)) ys
    by_first t others taken behind =
        let place = taken.takes.place in
        let long : suc (length xs) ≡ length place.front + length t.1.bytes =
        ap length place.parts ∙ length-append place.front t.1.bytes in
        let some = place.some in
        let place_start = place.start in
        let all : length (xs ++ ys) ≡ length xs + length ys = length-append xs ys in
        let left : length (t.1.bytes ++ ys) ≡ length t.1.bytes + length ys =
        length-append t.1.bytes ys in
        let short : length (t.1.bytes ++ ys) ≤ m = omega arith in
        let start_is : t.1.start + length t.1.bytes ≡ start + suc (length xs) = omega arith in
        rw (
          again 1 record_at (record { start = start; bytes = b ∷ xs }) t taken.takes ys,
          behind short,
          start_is,
        )
        (one_first t.0 others (records_in (record { start = start + suc (length xs); bytes = ys })))

pub records_are_joined : RecordsAreJoined
records_are_joined xs ys rs e =
    are_joined (length xs) 0 xs ys rs e (length (xs ++ ys)) (omega arith)
    ∙ ap (λ (r : Answer (List WireRecord)).
    r >>= λ (others : List WireRecord). Ok (rs ++ others))
    (offsets_count_on (length xs) (record { start = 0; bytes = ys }))
