-- Two steps, the second of which takes what the first one gave.
use Rattle.std.proofs.Common.{◌≡◌, Result, Ok, Err, refl}
use Rattle.protobuf_parse_records.specs.Wire.{◌>>=◌}

-- what a step gave that led to something
pub record Gave {A B E : Type 0} (r : Result A E) (f : A → Result B E) (b : B) : Type 0 where
  pub first : A
  pub is : r ≡ Ok first
  pub then : f first ≡ Ok b

pub gave : {A B E : Type 0} (r : Result A E) (f : A → Result B E) (b : B) → (r >>= f) ≡ Ok b
    → Gave r f b
gave (Ok x) f b h = record { first = x; is = refl; then = h }
gave (Err e) f b h = absurd (cc)

pub ok_is : {A E : Type 0} (a b : A) → ◌≡◌ {A = Result A E} (Ok a) (Ok b) → a ≡ b
ok_is a b h = cc
