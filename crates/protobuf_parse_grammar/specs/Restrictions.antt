-- No public clause rests on this file.
-- Relations of token lists that are restricted.
use Rattle.std.specs.Prelude.{◌≡◌, Option, Some, None, Bool, true}
use Rattle.protobuf_parse_grammar.specs.Relations.{Either, Nothing, Rel, ◌>>=◌}

-- such a part, or nothing
abbrev pub Optional : {Tok A : Type 0} → Rel Tok A → Rel Tok (Option A)
Optional R = Either (do a ← R; Nothing (Some a)) (Nothing None)

-- what a part says means the value
abbrev pub Meant : {Tok A B : Type 0} → Rel Tok A → (A → Option B) → Rel Tok B
Meant {A = A} R means ts b = (a : A) × R ts a × (means a ≡ Some b)

-- a part that may stand only where b is true
abbrev pub Only : {Tok A : Type 0} → Bool → Rel Tok A → Rel Tok A
Only b R ts a = (b ≡ true) × R ts a
