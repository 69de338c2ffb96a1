-- Numbers of places.
use Rattle.std.proofs.Common.{◌≡◌, refl, ℕ, ◌+◌, ◌*◌, ◌<◌, Bool, true, false, arith}
use Rattle.std.specs.Prelude.{◌==◌, ◌&&◌}
use Rattle.std.specs.Bool.{one_answer}
use Rattle.std.specs.Cmp.{unsigned_Decides}

both : (a b : Bool) → a ≡ true → b ≡ true → (a && b) ≡ true
both true b h k = k
both false b h k = h

first : (a b : Bool) → (a && b) ≡ true → a ≡ true
first true b h = refl
first false b h = h

second : (a b : Bool) → (a && b) ≡ true → b ≡ true
second true b h = h
second false b h = absurd (let e : false ≡ true = h in cc)

-- two places have one number just where they are one
pub numbers_tie : (line col l c : ℕ) → col < 4294967296 → c < 4294967296
    → (l * 4294967296 + c == line * 4294967296 + col) ≡ ((line == l) && (col == c))
numbers_tie line col l c small less =
    one_answer _ _ (unsigned_Decides (l * 4294967296 + c) (line * 4294967296 + col)) (
      (λ h. let p : line ≡ l = (unsigned_Decides line l).0 (first _ _ h) in
          let q : col ≡ c = (unsigned_Decides col c).0 (second _ _ h) in omega arith),
      (λ h. both _ _ ((unsigned_Decides line l).1 (omega arith))
          ((unsigned_Decides col c).1 (omega arith))),
    )
