-- Bytes one behind another.
use Rattle.std.proofs.Common.{◌≡◌, ℕ, List, ◌++◌, ap, ◌∙◌}

-- five pieces, of which each is put behind those before
pub joined : (a b c d e o p q r s : List ℕ) → o ≡ a → p ≡ o ++ b → q ≡ p ++ c → r ≡ q ++ d
    → s ≡ r ++ e → s ≡ (((a ++ b) ++ c) ++ d) ++ e
joined a b c d e o p q r s first second third fourth fifth =
    fifth
    ∙ ap (λ (z : List ℕ). z ++ e) (fourth
    ∙ ap (λ (z : List ℕ). z ++ d) (third
    ∙ ap (λ (z : List ℕ). z ++ c) (second ∙ ap (λ (z : List ℕ). z ++ b) first)))
