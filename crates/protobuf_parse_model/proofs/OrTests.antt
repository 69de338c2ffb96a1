-- Tests joined by `||`.
use Rattle.std.proofs.Common.{◌≡◌, Bool, true, false, refl}
use Rattle.std.specs.Prelude.{cond, ◌||◌}

pub cond-true_or : (a b : Bool) → cond a true b ≡ (a || b)
cond-true_or true b = refl
cond-true_or false b = refl

pub or_left_comm : (a b c : Bool) → (a || (b || c)) ≡ (b || (a || c))
or_left_comm true true c = refl
or_left_comm true false c = refl
or_left_comm false true c = refl
or_left_comm false false c = refl
