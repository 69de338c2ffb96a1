-- Answers one after another: what comes of a step that gave something, and of one that failed.
use Rattle.std.proofs.Common.{◌≡◌, List, [], ◌∷◌, ◌++◌, Result, Ok, Err, refl, sym, ap, ◌∙◌}
use Rattle.std.proofs.Common.{append_assoc}
use Rattle.protobuf_parse_records.specs.Views.{WireRecord}
use Rattle.protobuf_parse_records.specs.Wire as wire
use Rattle.protobuf_parse_records.specs.Wire.{◌>>=◌}
use Rattle.protobuf_parse_records.specs.declared.fault.Fault.{Fault}
use Rattle.protobuf_parse_records.specs.declared.fault.RecordsError.{RecordsError}
use Rattle.protobuf_parse_records.specs.declared.fault.RecordsError.TheVariants as records
use Rattle.protobuf_parse_set_reader.specs.declared.fault.SetFault.{SetFault}
use Rattle.protobuf_parse_set_reader.specs.declared.fault.SetError.{SetError}
use Rattle.protobuf_parse_set_reader.specs.declared.fault.SetError.TheVariants as error
use Rattle.protobuf_parse_set_reader.specs.Answers.{Answer, Fails, error_of, on_wire}
use Rattle.protobuf_parse_set_reader.specs.Values.{all_of}

-- two answers that are one give the same
pub same_given : {A : Type 0} {x y : A} → ◌≡◌ {A = Answer A} (Ok x) (Ok y) → x ≡ y
same_given e = cc

-- where two steps give something, the first did, and the second of it
pub both_gave : {A B : Type 0} (first : Answer A) (next : A → Answer B) (y : B)
    → (first >>= next) ≡ Ok y → (x : A) × (first ≡ Ok x) × (next x ≡ Ok y)
both_gave (Ok x) next y e = (x, refl, e)
both_gave (Err f) next y e = absurd (cc)

-- where the first of two steps fails, both do
pub fails_first : {A B : Type 0} (e : SetError) (first : Answer A) (next : A → Answer B)
    → Fails e first → Fails e (first >>= next)
fails_first error.Memory first next fails = tt
fails_first (error.Fault f) first next fails = rw fails refl

-- ---- what all records say

-- some records, and then others
pub all_joined : {A : Type 0} (said : WireRecord → Answer (List A)) (rs ss : List WireRecord)
    (a b : List A) → all_of said rs ≡ Ok a → all_of said ss ≡ Ok b
    → all_of said (rs ++ ss) ≡ Ok (a ++ b)
all_joined said [] ss a b ea eb = eb ∙ ap (λ z. Ok (z ++ b)) (same_given ea)
all_joined said (r ∷ rs) ss a b ea eb =
    let first = both_gave (said r) _ a ea in
    let others = both_gave (all_of said rs) _ a first.2 in
    let joined = all_joined said rs ss others.0 b others.1 eb in
    rw (first.1, joined) (ap (λ z. Ok z) (sym (append_assoc first.0 others.0 b))
    ∙ ap (λ z. Ok (z ++ b)) (same_given others.2))

-- some records, and then one that fails
pub all_stopped : {A : Type 0} (said : WireRecord → Answer (List A)) (rs : List WireRecord)
    (r : WireRecord) (ss : List WireRecord) (a : List A) (f : SetFault)
    → all_of said rs ≡ Ok a → said r ≡ Err f → all_of said (rs ++ r ∷ ss) ≡ Err f
all_stopped said [] r ss a f ea ef = rw ef refl
all_stopped said (q ∷ rs) r ss a f ea ef =
    let first = both_gave (said q) _ a ea in
    let others = both_gave (all_of said rs) _ a first.2 in
    rw (first.1, all_stopped said rs r ss others.0 f others.1 ef) refl

-- ---- records

-- where the bytes are no records
pub fails_on_wire : {B : Type 0} (e : RecordsError) (answer : Result B Fault)
    → wire.Fails e answer → Fails (error_of e) (on_wire answer)
fails_on_wire records.Memory answer fails = tt
fails_on_wire (records.Fault f) answer fails = rw fails refl
