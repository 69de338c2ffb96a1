-- Lists of faults of which the second is told only where the first is empty.
use Rattle.std.proofs.Common.{◌≡◌, ◌⊎◌, inl, inr, List, [], ◌∷◌, refl}
use Rattle.protobuf_parse_model.specs.Faults.{Among, Fault}
use Rattle.protobuf_parse_model.specs.Linking.{before_others}

pub none-before : (firsts others : List Fault) → before_others firsts others ≡ []
    → firsts ≡ []
none-before [] others h = refl
none-before (a ∷ firsts) others h = h

pub none-after : (firsts others : List Fault) → before_others firsts others ≡ []
    → others ≡ []
none-after [] others h = h
none-after (a ∷ firsts) others h = cc

pub no-others : (firsts others : List Fault) → firsts ≡ [] → others ≡ []
    → before_others firsts others ≡ []
no-others firsts others h k = rw (h, k) refl

pub told-before : (firsts others : List Fault) (f : Fault) → Among firsts f
    → Among (before_others firsts others) f
told-before [] others f m = absurd (no-member f m)
  where
    no-member : (f : Fault) → Among [] f → ⊥
    no-member f m = elim m [ ]
told-before (a ∷ firsts) others f m = m

pub told-after : (firsts others : List Fault) (f : Fault) → firsts ≡ []
    → Among others f → Among (before_others firsts others) f
told-after firsts others f h m = rw h m

pub which-told : (firsts others : List Fault) (f : Fault)
    → Among (before_others firsts others) f → Among firsts f ⊎ ((firsts ≡ []) × Among others f)
which-told [] others f m = inr (refl, m)
which-told (a ∷ firsts) others f m = inl m
