-- Texts of numbers, as they are read.
use Rattle.std.proofs.Common.{◌≡◌, ◌≢◌, ℕ, ◌<◌, ◌≤◌, ◌^◌, Bool, true, false, ◌&&◌, [], ◌∷◌, length}
use Rattle.std.proofs.Common.{refl, ap, arith, rules, Err}
use Rattle.std.specs.Prelude.{nat_lt, ◌==◌}
use Rattle.std.specs.Char.{is_ascii_digit}
use Rattle.std.specs.List.{list_all}
use Rattle.std.specs.Str.Parse.{ParsesUnsigned, digits_value, starts_with_minus}
use Rattle.std.proofs.lemmas.Bool.{eqb-true, ltb-false, ltb-true}
use Rattle.std.proofs.lemmas.Str.Parse.{IsNumeralModel, numerals_by_value, parse_digits}
use Rattle.protobuf_parse_model.specs.Descriptors.{Text}
use Rattle.protobuf_parse_rules.specs.NumberTexts.{is_digits, without_minus}

own : IsNumeralModel (λ ds. list_all is_ascii_digit ds ≡ true) (digits_value 10)
own = numerals_by_value _ (search rules)

both : (a b : Bool) → (a && b) ≡ true → (a ≡ true) × (b ≡ true)
both true true e = (refl, refl)
both true false e = absurd cc
both false b e = absurd cc

-- digits that are too many for 64 bits
pub too_large : {E : Type 0} (digits : Text) (e : E) (most : ℕ) → most < 2 ^ 64
    → is_digits digits ≡ true → ParsesUnsigned 64 10 digits (Err e)
    → true ≡ nat_lt most (digits_value 10 digits)
too_large digits e most fits are reads =
    let parts = both (nat_lt 0 (length digits)) (list_all is_ascii_digit digits) are in
    let long : 0 < length digits = ltb-true 0 (length digits) parts.0 in
    let never = parse_digits own 64 digits (Err e) reads parts.1 in
    at (nat_lt most (digits_value 10 digits)) refl
    (λ less. absurd (never (long, less)))
  where
    at : (b : Bool) → nat_lt most (digits_value 10 digits) ≡ b
        → (digits_value 10 digits < 2 ^ 64 → true ≡ b) → true ≡ b
    at true f small = refl
    at false f small =
        let le : digits_value 10 digits ≤ most = ltb-false most (digits_value 10 digits) f in
        small (omega arith)

no_minus : (text : Text) → ((rest : Text) → text ≢ 45 ∷ rest) → starts_with_minus text ≡ false
no_minus [] other = refl
no_minus (c ∷ cs) other = at (c == 45) refl
  where
    at : (b : Bool) → (c == 45) ≡ b → b ≡ false
    at false e = refl
    at true e = absurd (other cs (ap (λ n. n ∷ cs) (eqb-true c 45 e)))

pub nothing_before : (text : Text) → ((rest : Text) → text ≢ 45 ∷ rest)
    → text ≡ without_minus text
nothing_before text other = rw (no_minus text other) refl
