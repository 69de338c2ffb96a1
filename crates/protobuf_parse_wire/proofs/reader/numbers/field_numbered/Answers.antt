use Rattle.std.proofs.Common.{◌≡◌, ℕ, ◌<◌, ◌^◌, ℤ, pos, Result, Ok, Err, Some, None, true, Bool}
use Rattle.std.proofs.Common.{cond, option_map, lt-ltb, arith, ap, sym, ◌∙◌}
use Rattle.std.specs.Prelude.{nat_lt}
use Rattle.std.specs.BTreeMap.{get}
use Rattle.std.specs.Int.{w32}
use Rattle.std.specs.Int.RustNames.{FitsSigned}
use Rattle.std.specs.Ordering.{int_cmp}
use Rattle.std.specs.Result.{OkIff, result_ok}
use Rattle.std.proofs.lemmas.Int.{to_z-of_z, ints}
use Rattle.protobuf_parse_wire.proofs.Distinct.{seen}
use Rattle.protobuf_parse_wire.proofs.reader.numbers.field_numbered.Goals as goal

-- a number that was converted is one that fits, and the same
converted : {E : Type 0} (r : Result ℤ E) (n : ℕ) (z : ℤ) → OkIff r (FitsSigned w32 (pos n)) (pos n)
    → Some z ≡ result_ok r → FitsSigned w32 (pos n) × (z ≡ pos n)
converted (Ok x) n z fits is =
    let same : z ≡ x = cc in
    (fits.0, same ∙ fits.1)
converted (Err e) n z fits is = absurd (cc)

below : (n : ℕ) → FitsSigned w32 (pos n) → n < 2 ^ 31
below n fits = omega (arith, ints)

pub returns-clause-found : goal.returns-clause-found
returns-clause-found c =
    let m = c.args.numbers.now in
    let n : ℕ = c.args.number in
    let z : ℤ = c.in_ok-number.number in
    let k = converted c.try_from.result n z c.try_from.ensures c.in_ok-number.ensures.value in
    let fits : FitsSigned w32 z = rw k.1 k.0 in
    let key = to_z-of_z w32 z fits ∙ k.1 in
    let got : c.copied.result ≡ get int_cmp m (pos n) = c.copied.ensures ∙ c.get.ensures.value
    ∙ ap (get int_cmp m) key in
    let test : nat_lt n (2 ^ 31) ≡ true = lt-ltb n (2 ^ 31) (below n k.0) in
    ap (option_map seen) got
    ∙ sym (ap (λ (b : Bool). cond b (option_map seen (get int_cmp m (pos n))) None) test)
