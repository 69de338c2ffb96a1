-- Texts that begin with no dot.
use Rattle.std.proofs.Common.{◌≡◌, ◌≢◌, ℕ, Bool, true, false, cond, List, [], ◌∷◌, refl, ap}
use Rattle.std.specs.Prelude.{◌==◌}
use Rattle.std.proofs.lemmas.Bool.Decides.{Decides-eqb}
use Rattle.protobuf_parse_model.specs.Descriptors.{Text}
use Rattle.protobuf_parse_index.specs.Options.{without_dot}

by_test : (b : Bool) (bs rest : Text) → (b ≡ true → ⊥) → bs ≡ cond b rest bs
by_test true bs rest never = absurd (never refl)
by_test false bs rest never = refl

pub no_dot : (bs : Text) → ((rest : List ℕ) → bs ≢ 46 ∷ rest) → bs ≡ without_dot bs
no_dot [] h = refl
no_dot (b ∷ bs) h = by_test (b == 46) (b ∷ bs) bs
    (λ e. h bs (ap (λ (n : ℕ). n ∷ bs) ((Decides-eqb b 46).0 e)))
