-- Texts that begin with no parenthesis.
use Rattle.std.proofs.Common.{◌≡◌, ◌≢◌, ℕ, Bool, true, false, cond, List, [], ◌∷◌, refl, ap}
use Rattle.std.specs.Prelude.{◌==◌}
use Rattle.std.proofs.lemmas.Bool.Decides.{Decides-eqb}
use Rattle.protobuf_parse_model.specs.Descriptors.{Text}
use Rattle.protobuf_parse_proto_text.specs.Items.{rooted}

by_test : (b : Bool) (bs other : Text) → (b ≡ true → ⊥) → bs ≡ cond b other bs
by_test true bs other never = absurd (never refl)
by_test false bs other never = refl

pub no_paren : (bs : Text) → ((rest : List ℕ) → bs ≢ 40 ∷ rest) → bs ≡ rooted bs
no_paren [] h = refl
no_paren (b ∷ bs) h = by_test (b == 40) (b ∷ bs) _
    (λ e. h bs (ap (λ (n : ℕ). n ∷ bs) ((Decides-eqb b 40).0 e)))
