-- The fields of a message, a number each, with what is held there.
use Rattle.std.proofs.Common.{◌≡◌, ℕ, ◌+◌, ◌*◌, ◌<◌, ◌^◌, ltb, ◌&&◌, Bool, true, false, List, []}
use Rattle.std.proofs.Common.{◌∷◌}
use Rattle.std.proofs.Common.{◌++◌, length, length-append, filter, refl, sym, ap}
use Rattle.std.proofs.Common.{◌∙◌, subst, arith}
use Rattle.std.specs.Prelude.{◌==◌, if◌then◌else◌}
use Rattle.std.proofs.lemmas.Bool.{ltb-true}
use Rattle.std.proofs.lemmas.Grind.{flat_map-append}
use Rattle.protobuf_parse_records.specs.Views.{WireRecord}
use Rattle.protobuf_parse_wire.specs.Encoded.{delimited, varint_of}
use Rattle.protobuf_parse_set_laws.proofs.Written.{AllFit, Are, Held, HeldFits, Holds, Pair}
use Rattle.protobuf_parse_set_laws.proofs.Written.{held_bytes, octets, pair_bytes, pairs_bytes}
use Rattle.protobuf_parse_set_laws.proofs.Written.{word}

-- what is held at one number
abbrev pub of_number : ℕ → List Held → List Pair
of_number n [] = []
of_number n (h ∷ hs) = record { number = n; held = h } ∷ of_number n hs

-- what is held at some numbers
abbrev pub pairs : List ℕ → List (List Held) → List Pair
pairs [] hss = []
pairs (m ∷ ms) [] = []
pairs (m ∷ ms) (hs ∷ hss) = of_number m hs ++ pairs ms hss

-- what is held at that number
abbrev pub found : ℕ → List ℕ → List (List Held) → List Held
found n [] hss = []
found n (m ∷ ms) [] = []
found n (m ∷ ms) (hs ∷ hss) = (if m == n then hs else []) ++ found n ms hss

-- Records hold these, one by one.
abbrev pub AreHeld : List Held → List WireRecord → Type 0
AreHeld [] [] = Unit {0}
AreHeld [] (r ∷ rs) = ⊥
AreHeld (h ∷ hs) [] = ⊥
AreHeld (h ∷ hs) (r ∷ rs) = Holds h r × AreHeld hs rs

-- ---- which records have a number

first_kept : (n : ℕ) (r : WireRecord) (rs : List WireRecord) → (r.number == n) ≡ true
    → filter (λ (q : WireRecord). q.number == n) (r ∷ rs)
    ≡ r ∷ filter (λ (q : WireRecord). q.number == n) rs
first_kept n r rs e = rw e refl

first_left_out : (n : ℕ) (r : WireRecord) (rs : List WireRecord) → (r.number == n) ≡ false
    → filter (λ (q : WireRecord). q.number == n) (r ∷ rs)
    ≡ filter (λ (q : WireRecord). q.number == n) rs
first_left_out n r rs e = rw e refl

at_one : (n m : ℕ) (b : Bool) → (m == n) ≡ b → (ps : List Pair) (rest : List Held)
    → ((rs : List WireRecord) → Are ps rs
    → AreHeld rest (filter (λ (q : WireRecord). q.number == n) rs))
    → (hs : List Held) (rs : List WireRecord) → Are (of_number m hs ++ ps) rs
    → AreHeld ((if b then hs else []) ++ rest) (filter (λ (q : WireRecord). q.number == n) rs)
at_one n m true e ps rest others [] rs are = others rs are
at_one n m false e ps rest others [] rs are = others rs are
at_one n m true e ps rest others (h ∷ hs) [] are = absurd are
at_one n m false e ps rest others (h ∷ hs) [] are = absurd are
at_one n m true e ps rest others (h ∷ hs) (r ∷ rs) are =
    subst (AreHeld ((h ∷ hs) ++ rest))
    (sym (first_kept n r rs (ap (λ z. z == n) are.0.number ∙ e)))
    (are.0.holds, at_one n m true e ps rest others hs rs are.1)
at_one n m false e ps rest others (h ∷ hs) (r ∷ rs) are =
    subst (AreHeld rest)
    (sym (first_left_out n r rs (ap (λ z. z == n) are.0.number ∙ e)))
    (at_one n m false e ps rest others hs rs are.1)

-- The records with a number hold what is held there.
pub are_found : (n : ℕ) (ms : List ℕ) (hss : List (List Held)) (rs : List WireRecord)
    → Are (pairs ms hss) rs
    → AreHeld (found n ms hss) (filter (λ (q : WireRecord). q.number == n) rs)
are_found n [] hss [] are = tt
are_found n [] hss (r ∷ rs) are = absurd are
are_found n (m ∷ ms) [] [] are = tt
are_found n (m ∷ ms) [] (r ∷ rs) are = absurd are
are_found n (m ∷ ms) (hs ∷ hss) rs are =
    at_one n m (m == n) refl (pairs ms hss) (found n ms hss)
    (λ qs others. are_found n ms hss qs others) hs rs are

-- ---- what can be read

-- Each can be the number of a field.
abbrev pub are_numbers : List ℕ → Bool
are_numbers [] = true
are_numbers (m ∷ ms) = ltb 0 m && ltb m (2 ^ 29) && are_numbers ms

-- Numbers that are held have 64 bits.
abbrev pub WordFits : Held → Type 0
WordFits (word u) = u < 2 ^ 64
WordFits (octets t) = Unit {0}

abbrev pub WordsFit : List Held → Type 0
WordsFit [] = Unit {0}
WordsFit (h ∷ hs) = WordFits h × WordsFit hs

abbrev pub AllWordsFit : List (List Held) → Type 0
AllWordsFit [] = Unit {0}
AllWordsFit (hs ∷ hss) = WordsFit hs × AllWordsFit hss

held_fits : (n : ℕ) (h : Held) → WordFits h → length (held_bytes n h) < 2 ^ 64 → HeldFits h
held_fits n (word u) fits lt = fits
held_fits n (octets t) fits lt =
    omega (
      arith,
      lt,
      length-append (varint_of (n * 8 + 2)) (delimited t),
      length-append (varint_of (length t)) t,
    )

one_longer : (p : Pair) (ps : List Pair)
    → length (pairs_bytes (p ∷ ps)) ≡ length (pair_bytes p) + length (pairs_bytes ps)
unfolding pairs_bytes
one_longer p ps = length-append (pair_bytes p) (pairs_bytes ps)

number_fits : (m : ℕ) (hs : List Held) (ps : List Pair) → 0 < m → m < 2 ^ 29 → WordsFit hs
    → (length (pairs_bytes ps) < 2 ^ 64 → AllFit ps)
    → length (pairs_bytes (of_number m hs ++ ps)) < 2 ^ 64 → AllFit (of_number m hs ++ ps)
number_fits m [] ps some few words others lt = others lt
number_fits m (h ∷ hs) ps some few words others lt =
    let long = one_longer (record { number = m; held = h }) (of_number m hs ++ ps) in (
      record {
        some = some;
        few = few;
        held = held_fits m h words.0 (omega (arith, lt, long));
      },
      number_fits m hs ps some few words.1 others (omega (arith, lt, long)),
    )

all_true : (a b c : Bool) → (a && b && c) ≡ true → (a ≡ true) × (b ≡ true) × (c ≡ true)
all_true true true true e = (refl, refl, refl)
all_true true true false e = absurd (cc)
all_true true false c e = absurd (cc)
all_true false b c e = absurd (cc)

-- Fewer than 2 ^ 64 bytes can be read.
pub pairs_fit : (ms : List ℕ) (hss : List (List Held)) → are_numbers ms ≡ true → AllWordsFit hss
    → length (pairs_bytes (pairs ms hss)) < 2 ^ 64 → AllFit (pairs ms hss)
pairs_fit [] hss numbers words lt = tt
pairs_fit (m ∷ ms) [] numbers words lt = tt
pairs_fit (m ∷ ms) (hs ∷ hss) numbers words lt =
    let each = all_true (ltb 0 m) (ltb m (2 ^ 29)) (are_numbers ms) numbers in
    number_fits m hs (pairs ms hss) (ltb-true 0 m each.0) (ltb-true m (2 ^ 29) each.1) words.0
    (λ fewer. pairs_fit ms hss each.2 words.1 fewer) lt

-- the bytes of some and then of others
pub pairs_joined : (ps qs : List Pair) → pairs_bytes (ps ++ qs) ≡ pairs_bytes ps ++ pairs_bytes qs
unfolding pairs_bytes
pairs_joined ps qs = flat_map-append pair_bytes ps qs
