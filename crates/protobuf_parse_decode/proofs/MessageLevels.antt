-- One level of a message, by what the code found.
use Rattle.std.proofs.Common.{◌≡◌, ℕ, zero, suc, ◌-◌, List, Option, Ok, refl, ap, arith}
use Rattle.protobuf_parse_records.specs.Views.{Extent, WireRecord}
use Rattle.protobuf_parse_records.specs.Wire as wire
use Rattle.protobuf_parse_records.specs.Splitting.{records_in}
use Rattle.protobuf_parse_records.specs.declared.fault.RecordsError.{RecordsError}
use Rattle.protobuf_parse_records.specs.declared.fault.RecordsError.TheVariants as records
use Rattle.protobuf_parse_model.specs.Descriptors.{Text}
use Rattle.protobuf_parse_decode.specs.declared.fault.DecodeError.{DecodeError}
use Rattle.protobuf_parse_decode.specs.declared.fault.DecodeError.TheVariants as error
use Rattle.protobuf_parse_decode.specs.declared.fault.DecodeFaultKind.TheVariants.{TooDeep}
use Rattle.protobuf_parse_decode.specs.Answers.{Fails, error_of, fault, found}
use Rattle.protobuf_parse_decode.specs.Declarations.{Enter, FieldsByNumber}
use Rattle.protobuf_parse_decode.specs.Decoding.{fields_of, message_within}

pub too_deep : (enter : Enter) (levels at : ℕ) (name : Option Text) (s : Extent) → levels ≡ 0
    → message_within enter levels at name s ≡ fault at TooDeep
unfolding message_within
too_deep enter zero at name s none = refl
too_deep enter (suc n) at name s none = absurd (omega arith)

pub not_entered : (enter : Enter) (levels at : ℕ) (name : Option Text) (s : Extent)
    (e : DecodeError) → (levels ≡ 0 → ⊥) → Fails e (found at (enter name))
    → Fails e (message_within enter levels at name s)
unfolding message_within
not_entered enter zero at name s e some fails = absurd (some refl)
not_entered enter (suc n) at name s error.Memory some fails = tt
not_entered enter (suc n) at name s (error.Fault f) some fails = rw fails refl

pub no_records : (enter : Enter) (levels at : ℕ) (name : Option Text) (s : Extent)
    (declared : FieldsByNumber) (e : RecordsError) → (levels ≡ 0 → ⊥)
    → found at (enter name) ≡ Ok declared → wire.Fails e (records_in s)
    → Fails (error_of e) (message_within enter levels at name s)
unfolding message_within
no_records enter zero at name s declared e some is fails = absurd (some refl)
no_records enter (suc n) at name s declared records.Memory some is fails = tt
no_records enter (suc n) at name s declared (records.Fault f) some is fails = rw (is, fails) refl

pub one_level : (enter : Enter) (levels at : ℕ) (name : Option Text) (s : Extent)
    (declared : FieldsByNumber) (rs : List WireRecord) → (levels ≡ 0 → ⊥)
    → found at (enter name) ≡ Ok declared → records_in s ≡ Ok rs
    → message_within enter levels at name s
    ≡ fields_of (message_within enter (levels - 1)) declared rs
unfolding message_within
one_level enter zero at name s declared rs some is are = absurd (some refl)
one_level enter (suc n) at name s declared rs some is are =
    let k : n ≡ suc n - 1 = omega arith in
    rw (is, are) (ap (λ m. fields_of (message_within enter m) declared rs) k)
