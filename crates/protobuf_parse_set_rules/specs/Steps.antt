-- No public clause rests on this file.
-- What holds of positions on the way back through a set.
use Rattle.std.specs.Prelude.{ℕ, ◌<◌, List}
use Rattle.std.specs.List.{All}
use Rattle.protobuf_parse_set_rules.specs.Sights.{publics_at}

-- each is below n
abbrev pub IsBelow : ℕ → List ℕ → Type 0
IsBelow n ps = All (λ p. p < n) ps

-- each file's public imports stand before it
abbrev pub GoBack : List (List ℕ) → Type 0
GoBack publics = (n : ℕ) → IsBelow n (publics_at publics n)
