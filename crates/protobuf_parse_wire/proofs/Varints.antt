-- What a reader takes for a varint, and how it refuses other bytes.
use Rattle.std.proofs.Common.{◌≡◌, ◌⊎◌, ℕ, zero, suc, ◌+◌, ◌*◌, ◌%◌, ◌^◌, ◌<◌, ◌≤◌, ltb, Bool}
use Rattle.std.proofs.Common.{true, false, List, [], ◌∷◌, ◌++◌, length, Ok, Err, refl, sym, ap, ◌∙◌}
use Rattle.std.proofs.Common.{arith, inl, inr}
use Rattle.std.specs.Prelude.{if◌then◌else◌}
use Rattle.std.specs.List.{AllByRecursion}
use Rattle.std.proofs.lemmas.Bool.{lt-ltb, le-ltb, ltb-true, ltb-false}
use Rattle.protobuf_parse_wire.specs.declared.fault.ReadFault.{ReadFault}
use Rattle.protobuf_parse_wire.specs.declared.fault.ReadFault.TheVariants.{Truncated, BadVarint}
use Rattle.protobuf_parse_wire.specs.Wire.{groups, Continues, IsChain}
use Rattle.protobuf_parse_wire.specs.Reading.{◌>>=◌, WireRead, if_word, varint_at}
use Rattle.protobuf_parse_wire.specs.Varints.{IsAnyVarint}
use Rattle.protobuf_parse_wire.specs.Varints.{IsVarintFault, VarintsAreRead, OthersAreRefused}

-- ---- what is read at the front

-- A front of the bytes is what x stands for.
pub record Takes {A : Type 0} (Is : List ℕ → A → Type 0) (bs : List ℕ) (x : A)
    (rest : List ℕ) : Type 0 where
  pub front : List ℕ
  pub parts : bs ≡ front ++ rest
  pub is : Is front x

-- What is read is what the relation says, whatever stands behind it.
pub record Reads {A : Type 0} (read : List ℕ → WireRead (A × List ℕ))
    (Is : List ℕ → A → Type 0) : Type 0 where
  pub takes : (bs : List ℕ) (x : A) (rest : List ℕ) → read bs ≡ Ok (x, rest)
      → Takes Is bs x rest
  pub gives : (front : List ℕ) (x : A) (rest : List ℕ) → Is front x
      → read (front ++ rest) ≡ Ok (x, rest)

-- what two results have in common that are one
pub same_value : {A : Type 0} (x y : A) (bs cs : List ℕ)
    → ◌≡◌ {A = WireRead (A × List ℕ)} (Ok (x, bs)) (Ok (y, cs)) → x ≡ y
same_value {A} x y bs cs e =
    let pair : ◌≡◌ {A = A × List ℕ} (x, bs) (y, cs) = cc in ap (λ (z : A × List ℕ). z.0) pair

pub same_rest : {A : Type 0} (x y : A) (bs cs : List ℕ)
    → ◌≡◌ {A = WireRead (A × List ℕ)} (Ok (x, bs)) (Ok (y, cs)) → bs ≡ cs
same_rest {A} x y bs cs e =
    let pair : ◌≡◌ {A = A × List ℕ} (x, bs) (y, cs) = cc in ap (λ (z : A × List ℕ). z.1) pair

-- ---- varints of at most so many bytes

record IsWithin (room : ℕ) (bs : List ℕ) (u : ℕ) : Type 0 where
  chain : IsChain bs
  short : length bs ≤ room
  value : u ≡ groups bs
  fits : u < 2 ^ 64

pub more_chain : (b : ℕ) (bs : List ℕ) → 128 ≤ b → IsChain bs → IsChain (b ∷ bs)
more_chain b [] le h = absurd h
more_chain b (c ∷ cs) le h = (le, h)

-- the number behind a byte that continues, or why there is none
abbrev with_high : ℕ → WireRead (ℕ × List ℕ) → WireRead (ℕ × List ℕ)
with_high b high = high >>= λ (x : ℕ × List ℕ). if_word (b % 128 + 128 * x.0) x.1

longer : (n b : ℕ) (bs : List ℕ) (u : ℕ) (rest : List ℕ) (high : ℕ) (after : List ℕ) → 128 ≤ b
    → Takes (IsWithin n) bs high after → if_word (b % 128 + 128 * high) after ≡ Ok (u, rest)
    → Takes (IsWithin (suc n)) (b ∷ bs) u rest
longer n b bs u rest high after continues t e =
    by_size (ltb (b % 128 + 128 * high) (2 ^ 64)) refl e
  where
    by_size : (small : Bool) → ltb (b % 128 + 128 * high) (2 ^ 64) ≡ small
        → if◌then◌else◌ {A = WireRead (ℕ × List ℕ)} small (Ok (b % 128 + 128 * high, after))
        (Err BadVarint) ≡ Ok (u, rest)
        → Takes (IsWithin (suc n)) (b ∷ bs) u rest
    by_size false is h = absurd (cc)
    by_size true is h =
        let lt : b % 128 + 128 * high < 2 ^ 64 = ltb-true (b % 128 + 128 * high) (2 ^ 64) is in
        let u_is : b % 128 + 128 * high ≡ u = same_value (b % 128 + 128 * high) u after rest h in
        let behind : after ≡ rest = same_rest (b % 128 + 128 * high) u after rest h in
        let value : high ≡ groups t.front = t.is.value in
        let short : length t.front ≤ n = t.is.short in
        record {
          front = b ∷ t.front;
          parts = ap (λ (z : List ℕ). b ∷ z)
              (t.parts ∙ ap (λ (z : List ℕ). t.front ++ z) behind);
          is = record {
            chain = more_chain b t.front continues t.is.chain;
            short = omega arith;
            value = omega arith;
            fits = omega arith;
          };
        }

taken : (n : ℕ) (bs : List ℕ) (u : ℕ) (rest : List ℕ) → varint_at n bs ≡ Ok (u, rest)
    → Takes (IsWithin n) bs u rest
unfolding varint_at
taken zero bs u rest e = absurd (cc)
taken (suc n) [] u rest e = absurd (cc)
taken (suc n) (b ∷ bs) u rest e =
    by_bit (ltb b 128) refl e (λ high after is. taken n bs high after is)
  where
    Inside : Type 0
    Inside = (high : ℕ) (after : List ℕ) → varint_at n bs ≡ Ok (high, after)
        → Takes (IsWithin n) bs high after

    by_high : (w : WireRead (ℕ × List ℕ)) → varint_at n bs ≡ w → 128 ≤ b
        → with_high b w ≡ Ok (u, rest) → Inside → Takes (IsWithin (suc n)) (b ∷ bs) u rest
    by_high (Err f) is continues h inside = absurd (cc)
    by_high (Ok x) is continues h inside =
        longer n b bs u rest x.0 x.1 continues (inside x.0 x.1 is) h

    by_bit : (last : Bool) → ltb b 128 ≡ last
        → if◌then◌else◌ {A = WireRead (ℕ × List ℕ)} last (Ok (b, bs))
        (with_high b (varint_at n bs)) ≡ Ok (u, rest)
        → Inside → Takes (IsWithin (suc n)) (b ∷ bs) u rest
    by_bit true is h inside =
        let lt : b < 128 = ltb-true b 128 is in
        let u_is : b ≡ u = same_value b u bs rest h in
        record {
          front = b ∷ [];
          parts = ap (λ (z : List ℕ). b ∷ z) (same_rest b u bs rest h);
          is = record {
            chain = lt;
            short = omega arith;
            value = omega arith;
            fits = omega arith;
          };
        }
    by_bit false is h inside =
        by_high (varint_at n bs) refl (ltb-false b 128 is) h inside

given : (n : ℕ) (front : List ℕ) (u : ℕ) (rest : List ℕ) → IsWithin n front u
    → varint_at n (front ++ rest) ≡ Ok (u, rest)
unfolding varint_at
given n [] u rest h = absurd h.chain
given zero (b ∷ bs) u rest h = let short = h.short in absurd (omega arith)
given (suc n) (b ∷ []) u rest h =
    let lt : b < 128 = h.chain in
    let value : u ≡ b % 128 + 128 * 0 = h.value in
    let same : b ≡ u = omega arith in
    rw (lt-ltb b 128 lt) (ap (λ (x : ℕ). Ok (x, rest)) same)
given (suc n) (b ∷ c ∷ cs) u rest h =
    let short = h.short in
    let value : u ≡ b % 128 + 128 * groups (c ∷ cs) = h.value in
    let fits = h.fits in
    let inside : varint_at n (c ∷ (cs ++ rest)) ≡ Ok (groups (c ∷ cs), rest) =
    given n (c ∷ cs) (groups (c ∷ cs)) rest (record {
      chain = h.chain.1;
      short = omega arith;
      value = refl;
      fits = omega arith;
    }) in
    let small : b % 128 + 128 * groups (c ∷ cs) < 2 ^ 64 = omega arith in
    rw (le-ltb b 128 h.chain.0, inside, lt-ltb (b % 128 + 128 * groups (c ∷ cs)) (2 ^ 64) small)
    (ap (λ (x : ℕ). Ok (x, rest)) (sym value))

pub varint_reads : Reads (varint_at 10) IsAnyVarint
varint_reads = record {
  takes = λ bs u rest e.
      let t = taken 10 bs u rest e in
      record {
        front = t.front;
        parts = t.parts;
        is = record {
          chain = t.is.chain;
          at_most_ten = t.is.short;
          value = t.is.value;
          fits = t.is.fits;
        };
      };
  gives = λ front u rest h. given 10 front u rest (record {
    chain = h.chain;
    short = h.at_most_ten;
    value = h.value;
    fits = h.fits;
  });
}

-- ---- refusals

record IsLong (room : ℕ) (bs : List ℕ) : Type 0 where
  front : List ℕ
  rest : List ℕ
  parts : bs ≡ front ++ rest
  full : length front ≡ room
  continues : AllByRecursion Continues front

record IsLarge (room : ℕ) (bs : List ℕ) : Type 0 where
  front : List ℕ
  rest : List ℕ
  parts : bs ≡ front ++ rest
  chain : IsChain front
  short : length front ≤ room
  large : 2 ^ 64 ≤ groups front

abbrev Cut : ℕ → List ℕ → Type 0
Cut room bs = (length bs < room) × AllByRecursion Continues bs

abbrev Fault : ℕ → List ℕ → ReadFault → Type 0
Fault room bs e =
    ((e ≡ Truncated) × Cut room bs) ⊎ ((e ≡ BadVarint) × (IsLong room bs ⊎ IsLarge room bs))

-- the same behind one more byte that continues
behind_one : (n b : ℕ) (bs : List ℕ) (e : ReadFault) → 128 ≤ b → Fault n bs e
    → Fault (suc n) (b ∷ bs) e
behind_one n b bs e continues (inl cut) =
    let few : length bs < n = cut.1.0 in inl (cut.0, (omega arith, (continues, cut.1.1)))
behind_one n b bs e continues (inr (is, inl long)) =
    let full : length long.front ≡ n = long.full in
    inr (
      is,
      inl (record {
        front = b ∷ long.front;
        rest = long.rest;
        parts = ap (λ (z : List ℕ). b ∷ z) long.parts;
        full = omega arith;
        continues = (continues, long.continues);
      }),
    )
behind_one n b bs e continues (inr (is, inr large)) =
    let short : length large.front ≤ n = large.short in
    let above : 2 ^ 64 ≤ groups large.front = large.large in
    inr (
      is,
      inr (record {
        front = b ∷ large.front;
        rest = large.rest;
        parts = ap (λ (z : List ℕ). b ∷ z) large.parts;
        chain = more_chain b large.front continues large.chain;
        short = omega arith;
        large = omega arith;
      }),
    )

-- too large with the last of its groups, the lowest
too_large : (n b : ℕ) (bs : List ℕ) (e : ReadFault) (high : ℕ) (after : List ℕ) → 128 ≤ b
    → Takes (IsWithin n) bs high after
    → ◌≡◌ {A = WireRead (ℕ × List ℕ)} (if_word (b % 128 + 128 * high) after) (Err e)
    → Fault (suc n) (b ∷ bs) e
too_large n b bs e high after continues t h =
    by_size (ltb (b % 128 + 128 * high) (2 ^ 64)) refl h
  where
    by_size : (small : Bool) → ltb (b % 128 + 128 * high) (2 ^ 64) ≡ small
        → if◌then◌else◌ {A = WireRead (ℕ × List ℕ)} small (Ok (b % 128 + 128 * high, after))
        (Err BadVarint) ≡ Err e
        → Fault (suc n) (b ∷ bs) e
    by_size true is k = absurd (cc)
    by_size false is k =
        let many : 2 ^ 64 ≤ b % 128 + 128 * high =
        ltb-false (b % 128 + 128 * high) (2 ^ 64) is in
        let value : high ≡ groups t.front = t.is.value in
        let short : length t.front ≤ n = t.is.short in
        let same : e ≡ BadVarint = cc in
        inr (
          same,
          inr (record {
            front = b ∷ t.front;
            rest = after;
            parts = ap (λ (z : List ℕ). b ∷ z) t.parts;
            chain = more_chain b t.front continues t.is.chain;
            short = omega arith;
            large = omega arith;
          }),
        )

refused : (n : ℕ) (bs : List ℕ) (e : ReadFault) → varint_at n bs ≡ Err e → Fault n bs e
unfolding varint_at
refused zero bs e h =
    let same : e ≡ BadVarint = cc in
    inr (same, inl (record { front = []; rest = bs; parts = refl; full = refl; continues = tt }))
refused (suc n) [] e h = let same : e ≡ Truncated = cc in inl (same, (omega arith, tt))
refused (suc n) (b ∷ bs) e h = by_bit (ltb b 128) refl h (λ f is. refused n bs f is)
  where
    Inside : Type 0
    Inside = (f : ReadFault) → varint_at n bs ≡ Err f → Fault n bs f

    by_high : (w : WireRead (ℕ × List ℕ)) → varint_at n bs ≡ w → 128 ≤ b
        → with_high b w ≡ Err e → Inside → Fault (suc n) (b ∷ bs) e
    by_high (Err f) is continues k inside =
        let same : f ≡ e = cc in
        behind_one n b bs e continues (inside e (is ∙ ap (λ (z : ReadFault). Err z) same))
    by_high (Ok x) is continues k inside =
        too_large n b bs e x.0 x.1 continues (taken n bs x.0 x.1 is) k

    by_bit : (last : Bool) → ltb b 128 ≡ last
        → if◌then◌else◌ {A = WireRead (ℕ × List ℕ)} last (Ok (b, bs))
        (with_high b (varint_at n bs)) ≡ Err e
        → Inside → Fault (suc n) (b ∷ bs) e
    by_bit true is k inside = absurd (cc)
    by_bit false is k inside = by_high (varint_at n bs) refl (ltb-false b 128 is) k inside

cut_refused : (n : ℕ) (bs : List ℕ) → length bs < n → AllByRecursion Continues bs
    → varint_at n bs ≡ Err Truncated
unfolding varint_at
cut_refused zero bs few continues = absurd (omega arith)
cut_refused (suc n) [] few continues = refl
cut_refused (suc n) (b ∷ bs) few continues =
    let inside : varint_at n bs ≡ Err Truncated = cut_refused n bs (omega arith) continues.1 in
    rw (le-ltb b 128 continues.0, inside) refl

long_refused : (n : ℕ) (front rest : List ℕ) → length front ≡ n → AllByRecursion Continues front
    → varint_at n (front ++ rest) ≡ Err BadVarint
unfolding varint_at
long_refused zero front rest full continues = refl
long_refused (suc n) [] rest full continues = absurd (omega arith)
long_refused (suc n) (b ∷ bs) rest full continues =
    let inside : varint_at n (bs ++ rest) ≡ Err BadVarint =
    long_refused n bs rest (omega arith) continues.1 in
    rw (le-ltb b 128 continues.0, inside) refl

large_refused : (n : ℕ) (front rest : List ℕ) → IsChain front → length front ≤ n
    → 2 ^ 64 ≤ groups front → varint_at n (front ++ rest) ≡ Err BadVarint
unfolding varint_at
large_refused zero front rest chain short large = refl
large_refused (suc n) [] rest chain short large = absurd chain
large_refused (suc n) (b ∷ []) rest chain short large = absurd (omega arith)
large_refused (suc n) (b ∷ c ∷ cs) rest chain short large =
    by_size (ltb (groups (c ∷ cs)) (2 ^ 64)) refl
    (λ above. large_refused n (c ∷ cs) rest chain.1 (omega arith) above)
  where
    by_size : (small : Bool) → ltb (groups (c ∷ cs)) (2 ^ 64) ≡ small
        → (2 ^ 64 ≤ groups (c ∷ cs) → varint_at n (c ∷ (cs ++ rest)) ≡ Err BadVarint)
        → varint_at (suc n) (b ∷ (c ∷ (cs ++ rest))) ≡ Err BadVarint
    by_size true is others =
        let lt : groups (c ∷ cs) < 2 ^ 64 = ltb-true (groups (c ∷ cs)) (2 ^ 64) is in
        let inside : varint_at n (c ∷ (cs ++ rest)) ≡ Ok (groups (c ∷ cs), rest) =
        given n (c ∷ cs) (groups (c ∷ cs)) rest (record {
          chain = chain.1;
          short = omega arith;
          value = refl;
          fits = lt;
        }) in
        let above : 2 ^ 64 ≤ b % 128 + 128 * groups (c ∷ cs) = large in
        rw (
          le-ltb b 128 chain.0,
          inside,
          le-ltb (b % 128 + 128 * groups (c ∷ cs)) (2 ^ 64) above,
        ) refl
    by_size false is others =
        let inside = others (ltb-false (groups (c ∷ cs)) (2 ^ 64) is) in
        rw (le-ltb b 128 chain.0, inside) refl

-- ---- the laws

pub varints_are_read : VarintsAreRead
varints_are_read bs u rest = (told, back)
  where
    told : varint_at 10 bs ≡ Ok (u, rest)
        → (front : List ℕ) × (bs ≡ front ++ rest) × IsAnyVarint front u
    told e = let t = varint_reads.takes bs u rest e in (t.front, t.parts, t.is)

    back : (front : List ℕ) × (bs ≡ front ++ rest) × IsAnyVarint front u
        → varint_at 10 bs ≡ Ok (u, rest)
    back h = ap (varint_at 10) h.1 ∙ varint_reads.gives h.0 u rest h.2

told_fault : (bs : List ℕ) (e : ReadFault) → Fault 10 bs e → IsVarintFault bs e
told_fault bs e (inl cut) = inl (cut.0, record { few = cut.1.0; continues = cut.1.1 })
told_fault bs e (inr (is, inl long)) =
    inr (
      is,
      inl (record {
        front = long.front;
        rest = long.rest;
        parts = long.parts;
        ten = long.full;
        continues = long.continues;
      }),
    )
told_fault bs e (inr (is, inr large)) =
    inr (
      is,
      inr (record {
        front = large.front;
        rest = large.rest;
        parts = large.parts;
        chain = large.chain;
        at_most_ten = large.short;
        large = large.large;
      }),
    )

fault_back : (bs : List ℕ) (e : ReadFault) → IsVarintFault bs e → varint_at 10 bs ≡ Err e
fault_back bs e (inl (is, cut)) =
    cut_refused 10 bs cut.few cut.continues ∙ ap (λ (z : ReadFault). Err z) (sym is)
fault_back bs e (inr (is, inl long)) =
    ap (varint_at 10) long.parts ∙ long_refused 10 long.front long.rest long.ten long.continues
    ∙ ap (λ (z : ReadFault). Err z) (sym is)
fault_back bs e (inr (is, inr large)) =
    ap (varint_at 10) large.parts
    ∙ large_refused 10 large.front large.rest large.chain large.at_most_ten large.large
    ∙ ap (λ (z : ReadFault). Err z) (sym is)

pub others_are_refused : OthersAreRefused
others_are_refused bs e = (λ h. told_fault bs e (refused 10 bs e h), fault_back bs e)
