-- What stands in a group that ends is records: tags are passed over as records are read.
use Rattle.std.proofs.Common.{◌≡◌, ℕ, zero, suc, ◌+◌, ◌-◌, ◌<◌, ◌≤◌, ltb, Bool, true, false}
use Rattle.std.proofs.Common.{List, [], ◌∷◌, ◌++◌, length, take, get_or, Ok, refl, sym, ap}
use Rattle.std.proofs.Common.{subst, ◌∙◌, length-append, arith}
use Rattle.std.specs.Prelude.{◌==◌, if◌then◌else◌}
use Rattle.std.specs.List.{AllByRecursion}
use Rattle.std.proofs.lemmas.Bool.{ltb-true, lt-ltb}
use Rattle.std.proofs.Math.Seq.{take-append_seam}
use Rattle.protobuf_parse_records.specs.declared.fault.FaultKind.TheVariants as kind
use Rattle.protobuf_parse_records.specs.declared.wire.WireType.{WireType}
use Rattle.protobuf_parse_records.specs.declared.wire.WireType.TheVariants as wire
use Rattle.protobuf_parse_records.specs.Views.{Extent, Content, WireRecord, varint, fixed64}
use Rattle.protobuf_parse_records.specs.Views.{fixed32, delimited, group}
use Rattle.protobuf_parse_records.specs.Wire.{Answer, ◌>>=◌, fault, up_to, varint_at, delimited_at}
use Rattle.protobuf_parse_records.specs.Wire.{fixed32_at, fixed64_at, tag_at}
use Rattle.protobuf_parse_records.specs.Splitting.{innermost, passed, step_at}
use Rattle.protobuf_parse_records.specs.Splitting.{closed_within, group_end_at, payload_at}
use Rattle.protobuf_parse_records.specs.Splitting.{record_at, records_within, records_in}
use Rattle.protobuf_parse_records.specs.Laws.{HoldsRecords, GroupsHoldRecords}
use Rattle.protobuf_parse_records.proofs.Steady.{made, same_ok, with_bytes, IsBehind, behind_two}
use Rattle.protobuf_parse_records.proofs.Steady.{no_more, Reader, tag_steady}
use Rattle.protobuf_parse_records.proofs.WholeMessages.{TakesRecord, record_taken, record_shorter}
use Rattle.protobuf_parse_records.proofs.WholeMessages.{enough, no_bytes, no_groups, up_to_is}

-- ---- lists of open groups

innermost_is : (outer : List ℕ) (g : ℕ) → innermost (outer ++ g ∷ []) ≡ g
innermost_is outer g =
    let long : length (outer ++ g ∷ []) - 1 ≡ length outer = simp length-append (omega arith) in
    ap (λ (n : ℕ). get_or (outer ++ g ∷ []) n 0) long ∙ last_of outer
  where
    last_of : (o : List ℕ) → get_or (o ++ g ∷ []) (length o) 0 ≡ g
    last_of [] = refl
    last_of (h ∷ hs) = last_of hs

outer_is : (outer : List ℕ) (g : ℕ)
    → take (length (outer ++ g ∷ []) - 1) (outer ++ g ∷ []) ≡ outer
outer_is outer g =
    let long : length (outer ++ g ∷ []) - 1 ≡ length outer = simp length-append (omega arith) in
    ap (λ (n : ℕ). take n (outer ++ g ∷ [])) long ∙ take-append_seam outer (g ∷ [])

one_tag : (most : ℕ) (last : Extent) (outer : List ℕ) (g : ℕ) (s : Extent)
    → closed_within (suc most) last (outer ++ g ∷ []) s
    ≡ (step_at (outer ++ g ∷ []) s >>= λ (x : List ℕ × Extent). closed_within most s x.0 x.1)
unfolding closed_within
one_tag most last [] g s = refl
one_tag most last (h ∷ hs) g s = refl

no_tag : (last : Extent) (outer : List ℕ) (g : ℕ) (s : Extent)
    → closed_within zero last (outer ++ g ∷ []) s ≡ fault s.start kind.Truncated
unfolding closed_within
no_tag last [] g s = refl
no_tag last (h ∷ hs) g s = refl

-- ---- one record first

first_record : (start : ℕ) (bs : List ℕ) (r : WireRecord) (after : Extent) (rs : List WireRecord)
    → record_at (record { start = start; bytes = bs }) ≡ Ok (r, after)
    → records_in after ≡ Ok rs
    → records_in (record { start = start; bytes = bs }) ≡ Ok (r ∷ rs)
unfolding records_within
first_record start [] r after rs e others =
    let less = record_shorter (record { start = start; bytes = [] }) (r, after) e in
    absurd (omega (arith, less))
first_record start (b ∷ bs) r after rs e others =
    let less : length after.bytes < suc (length bs) =
    record_shorter (record { start = start; bytes = b ∷ bs }) (r, after) e in
    rw (
      e,
      enough (length bs) (length after.bytes) after.start after.bytes (omega arith)
          (omega arith),
      others,
    ) refl

-- ---- where the innermost group ends

-- Of so many tags some close the innermost group, whatever groups are open around it, if there are
-- not more of them; what stands before its end is records.
record Closes (most : ℕ) (outer : List ℕ) (g : ℕ) (s : Extent) (t : Extent × Extent)
    : Type 0 where
  tags : ℕ
  left : ℕ
  end : Extent
  after : Extent
  counted : most ≡ tags + left
  inside : IsBehind 0 s end
  few : tags + length after.bytes ≤ length s.bytes
  some : 1 ≤ tags
  alike : (o : List ℕ) (m : ℕ) (last : Extent) → length o ≤ length outer
      → closed_within (tags + m) last (o ++ g ∷ []) s ≡ closed_within m end o after
  others : closed_within left end outer after ≡ Ok t
  held : List WireRecord
  records : records_in (up_to s end) ≡ Ok held

-- a record, which takes so many tags, and then the group's end
behind_record : (most k n : ℕ) (outer : List ℕ) (g : ℕ) (s : Extent) (t : Extent × Extent)
    (r : WireRecord) (next : Extent) (before : Extent) → record_at s ≡ Ok (r, next)
    → most ≡ k + n → k + length next.bytes ≤ length s.bytes → 1 ≤ k
    → ((o : List ℕ) (m : ℕ) (last : Extent) → length o ≤ length outer
    → closed_within (k + m) last (o ++ g ∷ []) s ≡ closed_within m before (o ++ g ∷ []) next)
    → Closes n outer g next t → Closes most outer g s t
behind_record most k n outer g s t r next before e counted few some alike rest =
    let taken = record_taken s (r, next) e in
    let rest_counted = rest.counted in
    let rest_few = rest.few in
    record {
      tags = k + rest.tags;
      left = rest.left;
      end = rest.end;
      after = rest.after;
      counted = omega (arith, counted, rest_counted);
      inside = behind_two 0 s next rest.end (at_least taken.takes.place) rest.inside;
      few = omega (arith, few, rest_few);
      some = omega (arith, some);
      alike = λ o m last le.
          let more : k + rest.tags + m ≡ k + (rest.tags + m) = omega arith in
          ap (λ (n : ℕ). closed_within n last (o ++ g ∷ []) s) more
          ∙ alike o (rest.tags + m) last le ∙ rest.alike o m before le;
      others = rest.others;
      held = r ∷ rest.held;
      records = all taken;
    }
  where
    at_least : IsBehind 1 s next → IsBehind 0 s next
    at_least b = record { front = b.front; parts = b.parts; start = b.start; some = omega arith }

    all : TakesRecord s (r, next) → records_in (up_to s rest.end) ≡ Ok (r ∷ rest.held)
    all taken =
        let both = behind_two 0 s next rest.end (at_least taken.takes.place) rest.inside in
        let inner : records_in (with_bytes next rest.inside.front) ≡ Ok rest.held =
        ap records_in (sym (up_to_is next rest.end rest.inside.front rest.inside.parts))
        ∙ rest.records in
        ap records_in
        (up_to_is s rest.end (taken.takes.place.front ++ rest.inside.front) both.parts)
        ∙ first_record s.start (taken.takes.place.front ++ rest.inside.front) r
        (with_bytes next rest.inside.front) rest.held (taken.takes.alone rest.inside.front) inner

tag_shorter : (s : Extent) (tag : (ℕ × WireType) × Extent) → tag_at s ≡ Ok tag
    → length tag.1.bytes < length s.bytes
tag_shorter s tag e =
    let place = (tag_steady s tag e).place in
    let long : length s.bytes ≡ length place.front + length tag.1.bytes =
    ap length place.parts ∙ length-append place.front tag.1.bytes in
    let some = place.some in
    omega arith

-- The tag has a value behind it, and no group begins or ends.
value_first : {A : Type 0} (read : Reader A) (hold : A → Content) (n : ℕ) (outer : List ℕ) (g : ℕ)
    (s : Extent) (t : Extent × Extent) (tag : (ℕ × WireType) × Extent) → tag_at s ≡ Ok tag
    → ((o : List ℕ) → passed s.start o tag.0.0 tag.0.1 tag.1
    ≡ (read tag.1 >>= λ (v : A × Extent). Ok (o, v.1)))
    → payload_at s.start tag.0.0 tag.0.1 tag.1
    ≡ (read tag.1 >>= λ (v : A × Extent). Ok (hold v.0, v.1))
    → (x : List ℕ × Extent) → passed s.start (outer ++ g ∷ []) tag.0.0 tag.0.1 tag.1 ≡ Ok x
    → closed_within n s x.0 x.1 ≡ Ok t
    → ((next : Extent) → closed_within n s (outer ++ g ∷ []) next ≡ Ok t
    → Closes n outer g next t)
    → Closes (suc n) outer g s t
unfolding record_at step_at
value_first {A} read hold n outer g s t tag tagged passes holds x passing rest ih =
    let v = made (read tag.1) (λ (v : A × Extent). Ok (outer ++ g ∷ [], v.1)) x
    (sym (passes (outer ++ g ∷ [])) ∙ passing) in
    let x_is : (outer ++ g ∷ [], v.value.1) ≡ x = same_ok _ _ v.gives in
    by_value v.value v.is
    (subst (λ (y : List ℕ × Extent). closed_within n s y.0 y.1 ≡ Ok t) (sym x_is) rest)
  where
    by_value : (v : A × Extent) → read tag.1 ≡ Ok v
        → closed_within n s (outer ++ g ∷ []) v.1 ≡ Ok t → Closes (suc n) outer g s t
    by_value v is rest' =
        let r : WireRecord =
        record { number = tag.0.0; whole = up_to s v.1; content = hold v.0 } in
        let read_is : record_at s ≡ Ok (
          record {
            number = tag.0.0;
            whole = up_to s v.1;
            content = hold v.0;
          },
          v.1,
        ) =
        rw (tagged, holds, is) refl in
        let less = record_shorter s (
          record {
            number = tag.0.0;
            whole = up_to s v.1;
            content = hold v.0;
          },
          v.1,
        ) read_is in
        behind_record (suc n) 1 n outer g s t (record {
          number = tag.0.0;
          whole = up_to s v.1;
          content = hold v.0;
        }) v.1 s read_is
        (omega arith) (omega (arith, less)) (omega arith) alike (ih v.1 rest')
      where
        alike : (o : List ℕ) (m : ℕ) (last : Extent) → length o ≤ length outer
            → closed_within (1 + m) last (o ++ g ∷ []) s
            ≡ closed_within m s (o ++ g ∷ []) v.1
        alike o m last le =
            let more : 1 + m ≡ suc m = omega arith in
            let step : step_at (o ++ g ∷ []) s ≡ Ok (o ++ g ∷ [], v.1) =
            rw (tagged, passes (o ++ g ∷ []), is) refl in
            ap (λ (n : ℕ). closed_within n last (o ++ g ∷ []) s) more
            ∙ one_tag m last o g s
            ∙ ap (λ (a : Answer (List ℕ × Extent)).
            a >>= λ (x : List ℕ × Extent). closed_within m s x.0 x.1) step

-- The tag starts a group inside.
group_first : (n : ℕ) (outer : List ℕ) (g : ℕ) (s : Extent) (t : Extent × Extent) (number : ℕ)
    (rest : Extent) → tag_at s ≡ Ok ((number, wire.GroupStart), rest)
    → length (outer ++ g ∷ []) < 100 → Closes n (outer ++ g ∷ []) number rest t
    → ((left : ℕ) (last next : Extent) → left ≤ n
    → closed_within left last (outer ++ g ∷ []) next ≡ Ok t → Closes left outer g next t)
    → Closes (suc n) outer g s t
unfolding record_at payload_at group_end_at step_at passed
group_first n outer g s t number rest tagged shallow one ih =
    let counted = one.counted in
    let some = one.some in
    let one_few = one.few in
    let less = tag_shorter s ((number, wire.GroupStart), rest) tagged in
    behind_record (suc n) (suc one.tags) one.left outer g s t (record {
      number = number;
      whole = up_to s one.after;
      content = group (up_to rest one.end);
    }) one.after one.end (rw (tagged, group_is) refl) (omega (arith, counted))
    (omega (arith, one_few, less)) (omega arith) alike
    (ih one.left one.end one.after (omega (arith, counted, some)) one.others)
  where
    group_is : closed_within (suc (length rest.bytes)) rest (number ∷ []) rest
        ≡ Ok (one.end, one.after)
    group_is =
        let one_few = one.few in
        let m : ℕ = suc (length rest.bytes) - one.tags in
        let all : suc (length rest.bytes)
        ≡ one.tags + (suc (length rest.bytes) - one.tags) = omega (arith, one_few) in
        ap (λ (n : ℕ). closed_within n rest (number ∷ []) rest) all
        ∙ one.alike [] (suc (length rest.bytes) - one.tags) rest (omega arith)
        ∙ no_groups (suc (length rest.bytes) - one.tags) one.end one.after

    alike : (o : List ℕ) (m : ℕ) (last : Extent) → length o ≤ length outer
        → closed_within (suc one.tags + m) last (o ++ g ∷ []) s
        ≡ closed_within m one.end (o ++ g ∷ []) one.after
    alike o m last le =
        let more : suc one.tags + m ≡ suc (one.tags + m) = omega arith in
        let long = length-append o (g ∷ []) in
        let outer_long = length-append outer (g ∷ []) in
        let few : length (o ++ g ∷ []) < 100 = omega (arith, long, outer_long, shallow) in
        let within : length (o ++ g ∷ []) ≤ length (outer ++ g ∷ []) =
        omega (arith, long, outer_long) in
        let step : step_at (o ++ g ∷ []) s ≡ Ok ((o ++ g ∷ []) ++ number ∷ [], rest) =
        rw (tagged, lt-ltb (length (o ++ g ∷ [])) 100 few) refl in
        ap (λ (n : ℕ). closed_within n last (o ++ g ∷ []) s) more
        ∙ one_tag (one.tags + m) last o g s
        ∙ ap (λ (a : Answer (List ℕ × Extent)).
        a >>= λ (x : List ℕ × Extent). closed_within (one.tags + m) s x.0 x.1) step
        ∙ one.alike (o ++ g ∷ []) m s within

-- The tag ends the group.
end_first : (n : ℕ) (outer : List ℕ) (g : ℕ) (s : Extent) (t : Extent × Extent) (number : ℕ)
    (rest : Extent) → tag_at s ≡ Ok ((number, wire.GroupEnd), rest) → (g == number) ≡ true
    → closed_within n s outer rest ≡ Ok t → Closes (suc n) outer g s t
unfolding step_at passed
end_first n outer g s t number rest tagged same others =
    let less = tag_shorter s ((number, wire.GroupEnd), rest) tagged in
    record {
      tags = 1;
      left = n;
      end = s;
      after = rest;
      counted = omega arith;
      inside = no_more s;
      few = omega (arith, less);
      some = omega arith;
      alike = alike;
      others = others;
      held = [];
      records = ap records_in (up_to_is s s [] refl) ∙ no_bytes 0 s.start;
    }
  where
    alike : (o : List ℕ) (m : ℕ) (last : Extent) → length o ≤ length outer
        → closed_within (1 + m) last (o ++ g ∷ []) s ≡ closed_within m s o rest
    alike o m last le =
        let more : 1 + m ≡ suc m = omega arith in
        let step : step_at (o ++ g ∷ []) s ≡ Ok (o, rest) =
        rw (tagged, innermost_is o g, same, outer_is o g) refl in
        ap (λ (n : ℕ). closed_within n last (o ++ g ∷ []) s) more
        ∙ one_tag m last o g s
        ∙ ap (λ (a : Answer (List ℕ × Extent)).
        a >>= λ (x : List ℕ × Extent). closed_within m s x.0 x.1) step

closes : (bound n : ℕ) → n ≤ bound → (last : Extent) (outer : List ℕ) (g : ℕ) (s : Extent)
    (t : Extent × Extent) → closed_within n last (outer ++ g ∷ []) s ≡ Ok t
    → Closes n outer g s t
unfolding step_at passed payload_at
closes zero zero le last outer g s t e =
    let wrong = sym (no_tag last outer g s) ∙ e in absurd (cc)
closes (suc bound) zero le last outer g s t e =
    let wrong = sym (no_tag last outer g s) ∙ e in absurd (cc)
closes zero (suc n) le last outer g s t e = absurd (omega arith)
closes (suc bound) (suc n) le last outer g s t e =
    let m = made (step_at (outer ++ g ∷ []) s)
    (λ (x : List ℕ × Extent). closed_within n s x.0 x.1) t (sym (one_tag n last outer g s) ∙ e) in
    let tag = made (tag_at s) (λ (tag : (ℕ × WireType) × Extent).
    passed s.start (outer ++ g ∷ []) tag.0.0 tag.0.1 tag.1) m.value m.is in
    by_type tag.value.0.0 tag.value.0.1 tag.value.1 tag.is m.value tag.gives m.gives
    (λ k less last' o h s' is. closes bound k (omega arith) last' o h s' t is)
  where
    by_type : (number : ℕ) (w : WireType) (rest : Extent) → tag_at s ≡ Ok ((number, w), rest)
        → (x : List ℕ × Extent) → passed s.start (outer ++ g ∷ []) number w rest ≡ Ok x
        → closed_within n s x.0 x.1 ≡ Ok t
        → ((k : ℕ) → k ≤ n → (last' : Extent) (o : List ℕ) (h : ℕ) (s' : Extent)
        → closed_within k last' (o ++ h ∷ []) s' ≡ Ok t → Closes k o h s' t)
        → Closes (suc n) outer g s t
    by_type number wire.Varint rest tagged x passing others ih =
        value_first varint_at varint n outer g s t ((number, wire.Varint), rest) tagged
        (λ o. refl) refl x passing others (λ next is. ih n (omega arith) s outer g next is)
    by_type number wire.Fixed64 rest tagged x passing others ih =
        value_first fixed64_at fixed64 n outer g s t ((number, wire.Fixed64), rest) tagged
        (λ o. refl) refl x passing others (λ next is. ih n (omega arith) s outer g next is)
    by_type number wire.Delimited rest tagged x passing others ih =
        value_first delimited_at delimited n outer g s t ((number, wire.Delimited), rest) tagged
        (λ o. refl) refl x passing others (λ next is. ih n (omega arith) s outer g next is)
    by_type number wire.GroupStart rest tagged x passing others ih =
        by_count (ltb (length (outer ++ g ∷ [])) 100) refl passing
      where
        by_count : (few : Bool) → ltb (length (outer ++ g ∷ [])) 100 ≡ few
            → if◌then◌else◌ {A = Answer (List ℕ × Extent)} few
            (Ok ((outer ++ g ∷ []) ++ number ∷ [], rest)) (fault s.start kind.TooManyGroups) ≡ Ok x
            → Closes (suc n) outer g s t
        by_count false is h = absurd (cc)
        by_count true is h =
            let x_is : ((outer ++ g ∷ []) ++ number ∷ [], rest) ≡ x = same_ok _ _ h in
            let others' : closed_within n s ((outer ++ g ∷ []) ++ number ∷ []) rest ≡ Ok t =
            subst (λ (y : List ℕ × Extent). closed_within n s y.0 y.1 ≡ Ok t) (sym x_is) others in
            group_first n outer g s t number rest tagged
            (ltb-true (length (outer ++ g ∷ [])) 100 is)
            (ih n (omega arith) s (outer ++ g ∷ []) number rest others')
            (λ left last' next le is'. ih left le last' outer g next is')
    by_type number wire.GroupEnd rest tagged x passing others ih =
        by_number (innermost (outer ++ g ∷ []) == number) refl passing
      where
        by_number : (same : Bool) → (innermost (outer ++ g ∷ []) == number) ≡ same
            → if◌then◌else◌ {A = Answer (List ℕ × Extent)} same
            (Ok (take (length (outer ++ g ∷ []) - 1) (outer ++ g ∷ []), rest))
            (fault s.start kind.UnmatchedGroupEnd) ≡ Ok x
            → Closes (suc n) outer g s t
        by_number false is h = absurd (cc)
        by_number true is h =
            let x_is : (outer, rest) ≡ x =
            ap (λ (z : List ℕ). (z, rest)) (sym (outer_is outer g)) ∙ same_ok _ _ h in
            let others' : closed_within n s outer rest ≡ Ok t =
            subst (λ (y : List ℕ × Extent). closed_within n s y.0 y.1 ≡ Ok t) (sym x_is) others in
            end_first n outer g s t number rest tagged
            (ap (λ (z : ℕ). z == number) (sym (innermost_is outer g)) ∙ is) others'
    by_type number wire.Fixed32 rest tagged x passing others ih =
        value_first fixed32_at fixed32 n outer g s t ((number, wire.Fixed32), rest) tagged
        (λ o. refl) refl x passing others (λ next is. ih n (omega arith) s outer g next is)

-- ---- the law

group_holds : (number : ℕ) (s : Extent) (t : Extent × Extent) → group_end_at number s ≡ Ok t
    → HoldsRecords (group (up_to s t.0))
unfolding group_end_at
group_holds number s t e =
    let c = closes (suc (length s.bytes)) (suc (length s.bytes)) (omega arith) s [] number s t e in
    let end_is : (c.end, c.after) ≡ t =
    same_ok _ _ (sym (no_groups c.left c.end c.after) ∙ c.others) in (
      c.held,
      ap (λ (y : Extent × Extent). records_in (up_to s y.0)) (sym end_is) ∙ c.records,
    )

record_holds : (s : Extent) (t : WireRecord × Extent) → record_at s ≡ Ok t
    → HoldsRecords t.0.content
unfolding record_at payload_at
record_holds s t e =
    let tagged = made (tag_at s) (λ (tag : (ℕ × WireType) × Extent).
    payload_at s.start tag.0.0 tag.0.1 tag.1 >>= λ (p : Content × Extent). Ok (
      record {
        number = tag.0.0;
        whole = up_to s p.1;
        content = p.0;
      },
      p.1,
    )) t e in
    by_tag tagged.value tagged.gives
  where
    held : (number : ℕ) (w : WireType) (rest : Extent) (p : Content × Extent)
        → payload_at s.start number w rest ≡ Ok p → HoldsRecords p.0
    held number wire.Varint rest p h =
        let m = made (varint_at rest) (λ (v : ℕ × Extent). Ok (varint v.0, v.1)) p h in
        subst (λ (p : Content × Extent). HoldsRecords p.0) (same_ok _ _ m.gives) tt
    held number wire.Fixed64 rest p h =
        let m = made (fixed64_at rest) (λ (v : ℕ × Extent). Ok (fixed64 v.0, v.1)) p h in
        subst (λ (p : Content × Extent). HoldsRecords p.0) (same_ok _ _ m.gives) tt
    held number wire.Delimited rest p h =
        let m = made (delimited_at rest) (λ (v : Extent × Extent). Ok (delimited v.0, v.1)) p h in
        subst (λ (p : Content × Extent). HoldsRecords p.0) (same_ok _ _ m.gives) tt
    held number wire.GroupStart rest p h =
        let m = made (group_end_at number rest) (λ (end : Extent × Extent).
        Ok (group (up_to rest end.0), end.1)) p h in
        subst (λ (p : Content × Extent). HoldsRecords p.0) (same_ok _ _ m.gives)
        (group_holds number rest m.value m.is)
    held number wire.GroupEnd rest p h = absurd (cc)
    held number wire.Fixed32 rest p h =
        let m = made (fixed32_at rest) (λ (v : ℕ × Extent). Ok (fixed32 v.0, v.1)) p h in
        subst (λ (p : Content × Extent). HoldsRecords p.0) (same_ok _ _ m.gives) tt

    by_tag : (tag : (ℕ × WireType) × Extent)
        → ◌≡◌ {A = Answer (WireRecord × Extent)} (payload_at s.start tag.0.0 tag.0.1 tag.1
        >>= λ (p : Content × Extent). Ok (
          record {
            number = tag.0.0;
            whole = up_to s p.1;
            content = p.0;
          },
          p.1,
        )) (Ok t)
        → HoldsRecords t.0.content
    by_tag tag h =
        let m = made (payload_at s.start tag.0.0 tag.0.1 tag.1) (λ (p : Content × Extent).
        Ok (record { number = tag.0.0; whole = up_to s p.1; content = p.0 }, p.1)) t h in
        subst (λ (t : WireRecord × Extent). HoldsRecords t.0.content) (same_ok _ _ m.gives)
        (held tag.0.0 tag.0.1 tag.1 m.value m.is)

all_hold : (most start : ℕ) (bs : List ℕ) (rs : List WireRecord)
    → records_within most start bs ≡ Ok rs
    → AllByRecursion (λ (r : WireRecord). HoldsRecords r.content) rs
unfolding records_within
all_hold most start [] rs e =
    subst (AllByRecursion (λ (r : WireRecord). HoldsRecords r.content))
    (same_ok _ _ (sym (no_bytes most start) ∙ e)) tt
all_hold zero start (b ∷ bs) rs e = absurd (cc)
all_hold (suc most) start (b ∷ bs) rs e =
    let s : Extent = record { start = start; bytes = b ∷ bs } in
    let first = made (record_at s) (λ (x : WireRecord × Extent).
    records_within most x.1.start x.1.bytes >>= λ (others : List WireRecord).
    Ok (x.0 ∷ others)) rs e in
    let others = made (records_within most first.value.1.start first.value.1.bytes)
    (λ (others : List WireRecord). Ok (first.value.0 ∷ others)) rs first.gives in
    subst (AllByRecursion (λ (r : WireRecord). HoldsRecords r.content))
    (same_ok _ _ others.gives) (
      record_holds s first.value first.is,
      all_hold most first.value.1.start first.value.1.bytes others.value others.is,
    )

pub groups_hold_records : GroupsHoldRecords
groups_hold_records s rs e = all_hold (length s.bytes) s.start s.bytes rs e
