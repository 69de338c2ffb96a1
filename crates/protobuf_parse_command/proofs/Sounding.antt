-- Sound files that are kept one after another.
use Rattle.std.proofs.Common.{◌≡◌, ◌∙◌, Bool, true, false, List, [], ◌∷◌, ◌++◌, ap, append-nil, map}
use Rattle.std.proofs.Common.{sym}
use Rattle.std.specs.Prelude.{filter}
use Rattle.std.proofs.lemmas.Bool.{cond-false, cond-true}
use Rattle.std.proofs.lemmas.List.{map-append}
use Rattle.std.proofs.lemmas.List.Elements.{filter-append}

-- what is made of one more that passes is added
pub sound_one : {X Y : Type 0} (p : X → Bool) (f : X → Y) (seen : List X) (x : X) (old new : List Y)
    → p x ≡ true → old ≡ map f (filter p seen) → new ≡ old ++ f x ∷ []
    → new ≡ map f (filter p (seen ++ x ∷ []))
sound_one p f seen x old new passes before step =
    step ∙ (ap (λ z. z ++ f x ∷ []) before ∙ sym (ap (map f) (filter-append p seen (x ∷ [])
    ∙ ap (λ z. filter p seen ++ z) (cond-true (p x) _ _ passes))
    ∙ map-append f (filter p seen) (x ∷ [])))

-- and nothing of one that doesn't
pub other_one : {X Y : Type 0} (p : X → Bool) (f : X → Y) (seen : List X) (x : X) (old : List Y)
    → p x ≡ false → old ≡ map f (filter p seen) → old ≡ map f (filter p (seen ++ x ∷ []))
other_one p f seen x old fails before =
    before ∙ sym (ap (map f) (filter-append p seen (x ∷ [])
    ∙ (ap (λ z. filter p seen ++ z) (cond-false (p x) _ _ fails) ∙ append-nil (filter p seen))))
