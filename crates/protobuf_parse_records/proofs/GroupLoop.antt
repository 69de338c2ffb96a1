-- A loop over the tags inside a group, by the definition.
use Rattle.std.proofs.Common.{◌≡◌, ℕ, zero, suc, ◌<◌, List, [], ◌∷◌, length, Ok, Err}
use Rattle.std.proofs.Common.{refl, sym, ◌∙◌, arith}
use Rattle.protobuf_parse_records.specs.declared.fault.Fault.{Fault}
use Rattle.protobuf_parse_records.specs.declared.fault.RecordsError.{RecordsError}
use Rattle.protobuf_parse_records.specs.declared.fault.RecordsError.TheVariants as error
use Rattle.protobuf_parse_records.specs.Views.{Extent}
use Rattle.protobuf_parse_records.specs.Wire.{Answer, Fails}
use Rattle.protobuf_parse_records.specs.Splitting.{step_at, closed_within}

-- What the rest gives, inside these groups, is the whole answer.
pub record IsInside (last : Extent) (groups : List ℕ) (rest : Extent)
    (whole : Answer (Extent × Extent)) : Type 0 where
  pub most : ℕ
  pub enough : length rest.bytes < most
  pub answer : closed_within most last groups rest ≡ whole

pub begins : (number : ℕ) (s : Extent)
    → IsInside s (number ∷ []) s (closed_within (suc (length s.bytes)) s (number ∷ []) s)
begins number s = record { most = suc (length s.bytes); enough = omega arith; answer = refl }

-- one tag more
pub goes_on : (last : Extent) (groups : List ℕ) (s : Extent) (next : List ℕ) (after : Extent)
    (whole : Answer (Extent × Extent)) → 0 < length groups → length after.bytes < length s.bytes
    → step_at groups s ≡ Ok (next, after) → IsInside last groups s whole
    → IsInside s next after whole
unfolding closed_within
goes_on last [] s next after whole some less step inside = absurd (omega arith)
goes_on last (g ∷ gs) s next after whole some less step inside =
    within inside.most inside.enough inside.answer
  where
    within : (most : ℕ) → length s.bytes < most → closed_within most last (g ∷ gs) s ≡ whole
        → IsInside s next after whole
    within zero enough answer = absurd (omega arith)
    within (suc most) enough answer =
        let same : closed_within (suc most) last (g ∷ gs) s ≡ closed_within most s next after =
        rw step refl in
        record { most = most; enough = omega arith; answer = sym same ∙ answer }

is_fault : (last : Extent) (groups : List ℕ) (s : Extent) (e : Fault)
    (whole : Answer (Extent × Extent)) → 0 < length groups → step_at groups s ≡ Err e
    → IsInside last groups s whole → whole ≡ Err e
unfolding closed_within
is_fault last [] s e whole some step inside = absurd (omega arith)
is_fault last (g ∷ gs) s e whole some step inside =
    within inside.most inside.enough inside.answer
  where
    within : (most : ℕ) → length s.bytes < most → closed_within most last (g ∷ gs) s ≡ whole
        → whole ≡ Err e
    within zero enough answer = absurd (omega arith)
    within (suc most) enough answer =
        let same : closed_within (suc most) last (g ∷ gs) s ≡ Err e = rw step refl in
        sym answer ∙ same

-- What is wrong with the next tag is what is wrong with the group.
pub breaks : (last : Extent) (groups : List ℕ) (s : Extent) (e : RecordsError)
    (whole : Answer (Extent × Extent)) → 0 < length groups → Fails e (step_at groups s)
    → IsInside last groups s whole → Fails e whole
breaks last groups s error.Memory whole some fails inside = tt
breaks last groups s (error.Fault f) whole some fails inside =
    is_fault last groups s f whole some fails inside

-- No group is open.
pub ends : (last : Extent) (groups : List ℕ) (s : Extent) (whole : Answer (Extent × Extent))
    → length groups ≡ 0 → IsInside last groups s whole → whole ≡ Ok (last, s)
unfolding closed_within
ends last [] s whole none inside = sym inside.answer ∙ no_groups inside.most
  where
    no_groups : (most : ℕ) → closed_within most last [] s ≡ Ok (last, s)
    no_groups zero = refl
    no_groups (suc most) = refl
ends last (g ∷ gs) s whole none inside = absurd (omega arith)
