-- Packed numbers, one by one: those that were read, and what remains.
use Rattle.std.proofs.Common.{◌≡◌, ℕ, zero, suc, ℤ, ◌≤◌, ◌<◌, List, [], ◌∷◌, ◌++◌, length, Ok, Err}
use Rattle.std.proofs.Common.{refl, sym, ap, subst, ◌∙◌, append_assoc, arith}
use Rattle.std.proofs.lemmas.List.{append-nil}
use Rattle.protobuf_parse_records.specs.Views.{Extent}
use Rattle.protobuf_parse_records.specs.Wire.{◌>>=◌, varint_at}
use Rattle.protobuf_parse_set_reader.specs.declared.fault.SetFault.{SetFault}
use Rattle.protobuf_parse_set_reader.specs.declared.fault.SetError.{SetError}
use Rattle.protobuf_parse_set_reader.specs.declared.fault.SetError.TheVariants as error
use Rattle.protobuf_parse_set_reader.specs.Answers.{Answer, Fails, on_wire}
use Rattle.protobuf_parse_set_reader.specs.Values.{packed, packed_within, int_of}

-- these numbers, and then those of an answer
abbrev pub behind_these : List ℤ → Answer (List ℤ) → Answer (List ℤ)
behind_these front answer = answer >>= λ vs. Ok (front ++ vs)

-- The numbers that were read and those of the rest are all.
pub record Remains (front : List ℤ) (rest : Extent) (all : Answer (List ℤ)) : Type 0 where
  pub most : ℕ
  pub enough : length rest.bytes ≤ most
  pub joined : behind_these front (packed_within most rest.start rest.bytes) ≡ all

behind_none : (answer : Answer (List ℤ)) → behind_these [] answer ≡ answer
behind_none (Ok vs) = refl
behind_none (Err f) = refl

pub at_first : (s : Extent) → Remains [] s (packed s)
at_first s = record { most = length s.bytes; enough = omega arith; joined = behind_none _ }

one_to_front : (front : List ℤ) (v : ℤ) (answer : Answer (List ℤ))
    → behind_these front (answer >>= λ vs. Ok (v ∷ vs)) ≡ behind_these (front ++ v ∷ []) answer
one_to_front front v (Ok vs) = ap (λ (x : List ℤ). Ok x) (sym (append_assoc front (v ∷ []) vs))
one_to_front front v (Err f) = refl

read_at : (front : List ℤ) (most start : ℕ) (bs : List ℕ) (n : ℕ) (rest : Extent)
    (all : Answer (List ℤ)) → length bs ≤ most → length rest.bytes < length bs
    → on_wire (varint_at (record { start = start; bytes = bs })) ≡ Ok (n, rest)
    → behind_these front (packed_within most start bs) ≡ all
    → Remains (front ++ int_of n ∷ []) rest all
unfolding packed_within
read_at front most start [] n rest all le less e joined = absurd (omega arith)
read_at front zero start (b ∷ bs) n rest all le less e joined = absurd (omega arith)
read_at front (suc most) start (b ∷ bs) n rest all le less e joined =
    let step : behind_these front (packed_within (suc most) start (b ∷ bs))
    ≡ behind_these (front ++ int_of n ∷ []) (packed_within most rest.start rest.bytes) =
    rw e (one_to_front front (int_of n) (packed_within most rest.start rest.bytes)) in
    record { most = most; enough = omega arith; joined = sym step ∙ joined }

-- One more is read.
pub one_read : (front next : List ℤ) (v : ℤ) (s : Extent) (n : ℕ) (rest : Extent)
    (all : Answer (List ℤ)) → next ≡ front ++ v ∷ [] → v ≡ int_of n
    → length rest.bytes < length s.bytes → on_wire (varint_at s) ≡ Ok (n, rest)
    → Remains front s all → Remains next rest all
one_read front next v s n rest all more is less e remains =
    subst (λ z. Remains z rest all) (sym (more ∙ ap (λ z. front ++ z ∷ []) is))
    (read_at front remains.most s.start s.bytes n rest all remains.enough less e remains.joined)

failed_at : (front : List ℤ) (most start : ℕ) (bs : List ℕ) (f : SetFault)
    (all : Answer (List ℤ)) → length bs ≤ most → 0 < length bs
    → on_wire (varint_at (record { start = start; bytes = bs })) ≡ Err f
    → behind_these front (packed_within most start bs) ≡ all → all ≡ Err f
unfolding packed_within
failed_at front most start [] f all le some stops joined = absurd (omega arith)
failed_at front zero start (b ∷ bs) f all le some stops joined = absurd (omega arith)
failed_at front (suc most) start (b ∷ bs) f all le some stops joined =
    let step : behind_these front (packed_within (suc most) start (b ∷ bs)) ≡ Err f =
    rw stops refl in
    sym joined ∙ step

-- One fails, and so do all.
pub one_failed : (front : List ℤ) (s : Extent) (e : SetError) (all : Answer (List ℤ))
    → 0 < length s.bytes → Fails e (on_wire (varint_at s)) → Remains front s all → Fails e all
one_failed front s error.Memory all some fails remains = tt
one_failed front s (error.Fault f) all some fails remains =
    failed_at front remains.most s.start s.bytes f all remains.enough some fails remains.joined

-- Nothing remains.
pub all_read : (front : List ℤ) (s : Extent) (all : Answer (List ℤ)) → length s.bytes ≡ 0
    → Remains front s all → all ≡ Ok front
unfolding packed_within
all_read front s all none remains =
    sym remains.joined
    ∙ ap (behind_these front) (no_more remains.most s.start s.bytes none)
    ∙ ap (λ (vs : List ℤ). Ok vs) (append-nil front)
  where
    no_more : (most start : ℕ) (bs : List ℕ) → length bs ≡ 0 → packed_within most start bs ≡ Ok []
    no_more most start [] none = refl
    no_more most start (b ∷ bs) none = absurd (omega arith)
