-- The values of a type are told apart by their texts alone.
use Rattle.std.specs.Prelude.{ℕ, Bool, IsTrue, List, ◌≡◌, ◌↔◌}
use Rattle.std.specs.Hash as fed

-- Two values are equal exactly if their texts are the same.
abbrev pub EqualByText : {T : Type 0} → (T → T → Bool) → (T → List ℕ) → Type 0
EqualByText {T = T} equal text = (x y : T) → IsTrue (equal x y) ↔ (text x ≡ text y)

-- What a hasher is given of a value is its text, as of a `str`.
abbrev pub HashedByText : {T : Type 0} → (T → List (List ℕ)) → (T → List ℕ) → Type 0
HashedByText {T = T} given text = (x : T) → given x ≡ fed.str (text x)
