-- A loop over records, by the definition.
use Rattle.std.proofs.Common.{◌≡◌, ℕ, zero, suc, ◌≤◌, ◌<◌, List, [], ◌∷◌, ◌++◌, length, Ok, Err}
use Rattle.std.proofs.Common.{refl, sym, ap, ◌∙◌, append_assoc, arith}
use Rattle.std.proofs.lemmas.List.{append-nil}
use Rattle.protobuf_parse_records.specs.declared.fault.Fault.{Fault}
use Rattle.protobuf_parse_records.specs.declared.fault.RecordsError.{RecordsError}
use Rattle.protobuf_parse_records.specs.declared.fault.RecordsError.TheVariants as error
use Rattle.protobuf_parse_records.specs.Views.{Extent, WireRecord}
use Rattle.protobuf_parse_records.specs.Wire.{◌>>=◌, Answer, Fails}
use Rattle.protobuf_parse_records.specs.Splitting.{record_at, records_within, records_in}

-- an answer behind records that were found
abbrev pub behind_found : List WireRecord → Answer (List WireRecord) → Answer (List WireRecord)
behind_found found answer = answer >>= λ rs. Ok (found ++ rs)

-- What is found and what the rest gives are the whole answer.
pub record IsLeft (found : List WireRecord) (rest : Extent) (whole : Answer (List WireRecord))
    : Type 0 where
  pub most : ℕ
  pub enough : length rest.bytes ≤ most
  pub answer : behind_found found (records_within most rest.start rest.bytes) ≡ whole

nothing_found : (answer : Answer (List WireRecord)) → behind_found [] answer ≡ answer
nothing_found (Ok rs) = refl
nothing_found (Err e) = refl

pub begins : (s : Extent) → IsLeft [] s (records_in s)
begins s = record { most = length s.bytes; enough = omega arith; answer = nothing_found _ }

found_more : (found : List WireRecord) (r : WireRecord) (answer : Answer (List WireRecord))
    → behind_found found (answer >>= λ rs. Ok (r ∷ rs)) ≡ behind_found (found ++ r ∷ []) answer
found_more found r (Ok rs) =
    ap (λ (x : List WireRecord). Ok x) (sym (append_assoc found (r ∷ []) rs))
found_more found r (Err e) = refl

one_more : (found : List WireRecord) (most start : ℕ) (bs : List ℕ) (r : WireRecord)
    (after : Extent) (whole : Answer (List WireRecord)) → length bs ≤ most
    → length after.bytes < length bs
    → record_at (record { start = start; bytes = bs }) ≡ Ok (r, after)
    → behind_found found (records_within most start bs) ≡ whole
    → IsLeft (found ++ r ∷ []) after whole
unfolding records_within
one_more found most start [] r after whole enough less first answer = absurd (omega arith)
one_more found zero start (b ∷ bs) r after whole enough less first answer = absurd (omega arith)
one_more found (suc most) start (b ∷ bs) r after whole enough less first answer =
    let same : behind_found found (records_within (suc most) start (b ∷ bs))
    ≡ behind_found (found ++ r ∷ []) (records_within most after.start after.bytes) =
    rw first (found_more found r (records_within most after.start after.bytes)) in
    record { most = most; enough = omega arith; answer = sym same ∙ answer }

-- one record more
pub goes_on : (found : List WireRecord) (s : Extent) (r : WireRecord) (after : Extent)
    (whole : Answer (List WireRecord)) → length after.bytes < length s.bytes
    → record_at s ≡ Ok (r, after) → IsLeft found s whole → IsLeft (found ++ r ∷ []) after whole
goes_on found s r after whole less first left =
    one_more found left.most s.start s.bytes r after whole left.enough less first left.answer

is_fault : (found : List WireRecord) (most start : ℕ) (bs : List ℕ) (e : Fault)
    (whole : Answer (List WireRecord)) → length bs ≤ most → 0 < length bs
    → record_at (record { start = start; bytes = bs }) ≡ Err e
    → behind_found found (records_within most start bs) ≡ whole → whole ≡ Err e
unfolding records_within
is_fault found most start [] e whole enough some first answer = absurd (omega arith)
is_fault found zero start (b ∷ bs) e whole enough some first answer = absurd (omega arith)
is_fault found (suc most) start (b ∷ bs) e whole enough some first answer =
    let same : behind_found found (records_within (suc most) start (b ∷ bs)) ≡ Err e =
    rw first refl in
    sym answer ∙ same

-- What is wrong with the next record is what is wrong with all.
pub breaks : (found : List WireRecord) (s : Extent) (e : RecordsError)
    (whole : Answer (List WireRecord)) → 0 < length s.bytes → Fails e (record_at s)
    → IsLeft found s whole → Fails e whole
breaks found s error.Memory whole some fails left = tt
breaks found s (error.Fault f) whole some fails left =
    is_fault found left.most s.start s.bytes f whole left.enough some fails left.answer

-- Nothing is left.
pub ends : (found : List WireRecord) (s : Extent) (whole : Answer (List WireRecord))
    → length s.bytes ≡ 0 → IsLeft found s whole → whole ≡ Ok found
unfolding records_within
ends found s whole none left =
    sym left.answer ∙ ap (behind_found found) (no_bytes left.most s.start s.bytes none)
    ∙ ap (λ (rs : List WireRecord). Ok rs) (append-nil found)
  where
    no_bytes : (most start : ℕ) (bs : List ℕ) → length bs ≡ 0
        → records_within most start bs ≡ Ok []
    no_bytes most start [] none = refl
    no_bytes most start (b ∷ bs) none = absurd (omega arith)
