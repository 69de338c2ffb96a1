-- Packed numbers one after the other, as a loop does.
use Rattle.std.proofs.Common.{◌≡◌, ℕ, zero, suc, ◌≤◌, ◌<◌, List, [], ◌∷◌, ◌++◌, length, Ok, Err}
use Rattle.std.proofs.Common.{refl, sym}
use Rattle.std.proofs.Common.{ap, ◌∙◌, arith, true}
use Rattle.protobuf_parse_records.specs.Views.{Extent, delimited}
use Rattle.protobuf_parse_records.specs.Wire.{◌>>=◌}
use Rattle.protobuf_parse_records.specs.Wire as wire
use Rattle.protobuf_parse_records.specs.declared.fault.Fault.{Fault}
use Rattle.protobuf_parse_records.specs.declared.fault.RecordsError.{RecordsError}
use Rattle.protobuf_parse_records.specs.declared.fault.RecordsError.TheVariants as error
use Rattle.protobuf_parse_wire.specs.Kinds.{Word}
use Rattle.protobuf_parse_decode.specs.declared.fault.DecodeError.{DecodeError}
use Rattle.protobuf_parse_decode.specs.declared.fault.DecodeError.TheVariants as failed
use Rattle.protobuf_parse_decode.specs.Answers.{Answer, Fails, error_of, record_fault}
use Rattle.protobuf_parse_decode.specs.Decoding.{numbers_in, packed, packed_within, word_at}
use Rattle.protobuf_parse_decode.specs.Fields.{Value, Values, no_values, value, known}
use Rattle.protobuf_parse_decode.specs.Sorts.{Says}
use Rattle.protobuf_parse_decode.specs.Views.{values_in_front}

-- an answer behind values that were found
abbrev pub with_front : List Value → Answer Values → Answer Values
with_front front answer = answer >>= λ (vs : Values). Ok (values_in_front front vs)

-- The front and what the rest says are all.
pub record ToUnpack (w : Word) (says : Says) (front : List Value) (rest : Extent)
    (total : Answer Values) : Type 0 where
  pub most : ℕ
  pub enough : length rest.bytes ≤ most
  pub so_far : with_front front (packed_within w says most rest.start rest.bytes) ≡ total

one_more : (front : List Value) (v : Value) (vs : Values)
    → values_in_front (front ++ v ∷ []) vs ≡ values_in_front front (value v vs)
one_more [] v vs = refl
one_more (g ∷ front) v vs = ap (value g) (one_more front v vs)

regroup : (front : List Value) (v : Value) (answer : Answer Values)
    → with_front front (answer >>= λ (vs : Values). Ok (value v vs))
    ≡ with_front (front ++ v ∷ []) answer
regroup front v (Ok vs) = ap (λ (x : Values). Ok x) (sym (one_more front v vs))
regroup front v (Err e) = refl

nothing_found : (answer : Answer Values) → with_front [] answer ≡ answer
nothing_found (Ok vs) = refl
nothing_found (Err e) = refl

pub begins : (w : Word) (says : Says) (s : Extent) → ToUnpack w says [] s (packed w says s)
begins w says s = record {
  most = length s.bytes;
  enough = omega arith;
  so_far = nothing_found (packed w says s);
}

goes_on_at : (w : Word) (says : Says) (front : List Value) (n start : ℕ) (bs : List ℕ) (u : ℕ)
    (after : Extent) (total : Answer Values) → length bs ≤ n → length after.bytes < length bs
    → word_at w (record { start = start; bytes = bs }) ≡ Ok (u, after)
    → with_front front (packed_within w says n start bs) ≡ total
    → ToUnpack w says (front ++ says u ∷ []) after total
unfolding packed_within
goes_on_at w says front n start [] u after total le less e so_far = absurd (omega arith)
goes_on_at w says front zero start (b ∷ bs) u after total le less e so_far = absurd (omega arith)
goes_on_at w says front (suc n) start (b ∷ bs) u after total le less e so_far =
    let one : with_front front (packed_within w says (suc n) start (b ∷ bs))
    ≡ with_front (front ++ says u ∷ []) (packed_within w says n after.start after.bytes) =
    rw e (regroup front (says u) (packed_within w says n after.start after.bytes)) in
    record { most = n; enough = omega arith; so_far = sym one ∙ so_far }

-- one number more
pub goes_on : (w : Word) (says : Says) (front : List Value) (s : Extent) (u : ℕ)
    (after : Extent) (total : Answer Values) → length after.bytes < length s.bytes
    → word_at w s ≡ Ok (u, after) → ToUnpack w says front s total
    → ToUnpack w says (front ++ says u ∷ []) after total
goes_on w says front s u after total less e left =
    goes_on_at w says front left.most s.start s.bytes u after total left.enough less e left.so_far

ends_at : (w : Word) (says : Says) (front : List Value) (n start : ℕ) (bs : List ℕ) (f : Fault)
    (total : Answer Values) → length bs ≤ n → 0 < length bs
    → word_at w (record { start = start; bytes = bs }) ≡ Err f
    → with_front front (packed_within w says n start bs) ≡ total → total ≡ Err (record_fault f)
unfolding packed_within
ends_at w says front n start [] f total le some e so_far = absurd (omega arith)
ends_at w says front zero start (b ∷ bs) f total le some e so_far = absurd (omega arith)
ends_at w says front (suc n) start (b ∷ bs) f total le some e so_far =
    let one : with_front front (packed_within w says (suc n) start (b ∷ bs))
    ≡ Err (record_fault f) = rw e refl in
    sym so_far ∙ one

-- What is wrong with the next number is what is wrong with all.
pub ends : (w : Word) (says : Says) (front : List Value) (s : Extent) (e : RecordsError)
    (total : Answer Values) → 0 < length s.bytes → wire.Fails e (word_at w s)
    → ToUnpack w says front s total → Fails (error_of e) total
ends w says front s error.Memory total some fails left = tt
ends w says front s (error.Fault f) total some fails left =
    ends_at w says front left.most s.start s.bytes f total left.enough some fails left.so_far

done_at : (w : Word) (says : Says) (front : List Value) (n start : ℕ) (bs : List ℕ)
    (total : Answer Values) → length bs ≡ 0
    → with_front front (packed_within w says n start bs) ≡ total
    → total ≡ Ok (values_in_front front no_values)
unfolding packed_within
done_at w says front n start [] total none so_far = sym so_far
done_at w says front n start (b ∷ bs) total none so_far = absurd (omega arith)

-- Nothing is left.
pub is_done : (w : Word) (says : Says) (front : List Value) (s : Extent) (total : Answer Values)
    → length s.bytes ≡ 0 → ToUnpack w says front s total
    → total ≡ Ok (values_in_front front no_values)
is_done w says front s total none left =
    done_at w says front left.most s.start s.bytes total none left.so_far

-- ---- a payload of packed numbers

pub packed_given : (w : Word) (says : Says) (s : Extent) (vs : Values)
    → packed w says s ≡ Ok vs → numbers_in w says true (delimited s) ≡ Ok (known vs)
packed_given w says s vs h = rw h refl

pub packed_fails : (w : Word) (says : Says) (s : Extent) (e : DecodeError)
    → Fails e (packed w says s) → Fails e (numbers_in w says true (delimited s))
packed_fails w says s failed.Memory h = tt
packed_fails w says s (failed.Fault f) h = rw h refl
