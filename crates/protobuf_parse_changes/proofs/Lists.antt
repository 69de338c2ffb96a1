-- Tests of lists that are mapped, and lists that grow.
use Rattle.std.proofs.Common.{◌≡◌, ◌∙◌, Bool, List, [], ◌∷◌, ◌++◌, map, refl, ap, append_assoc}
use Rattle.std.specs.Prelude.{◌||◌}
use Rattle.std.specs.List.{list_any}

-- whether any passes, of a list that is mapped
pub list_any_map : {X Y : Type 0} (f : X → Y) (test : Y → Bool) (xs : List X)
    → list_any (λ (x : X). test (f x)) xs ≡ list_any test (map f xs)
list_any_map f test [] = refl
list_any_map f test (x ∷ xs) = ap (λ b. test (f x) || b) (list_any_map f test xs)

-- what two calls tell, one after the other
pub told_two : {X : Type 0} (a b c xs ys : List X) → b ≡ a ++ xs → c ≡ b ++ ys
    → c ≡ a ++ (xs ++ ys)
told_two a b c xs ys p q = q ∙ ap (λ z. z ++ ys) p ∙ append_assoc a xs ys

-- what three calls tell
pub told_three : {X : Type 0} (a b c d xs ys zs : List X) → b ≡ a ++ xs → c ≡ b ++ ys
    → d ≡ c ++ zs → d ≡ a ++ (xs ++ (ys ++ zs))
told_three a b c d xs ys zs p q r =
    told_two a b d xs (ys ++ zs) p (told_two b c d ys zs q r)

-- what five calls tell
pub told_five : {X : Type 0} (a b c d e f vs ws xs ys zs : List X) → b ≡ a ++ vs → c ≡ b ++ ws
    → d ≡ c ++ xs → e ≡ d ++ ys → f ≡ e ++ zs → f ≡ a ++ (vs ++ (ws ++ (xs ++ (ys ++ zs))))
told_five a b c d e f vs ws xs ys zs p q r s t =
    told_two a b f vs (ws ++ (xs ++ (ys ++ zs))) p
    (told_two b c f ws (xs ++ (ys ++ zs)) q (told_three c d e f xs ys zs r s t))
