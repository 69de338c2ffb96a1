-- What grows by the parts of one element after another.
use Rattle.std.proofs.Common.{◌≡◌, ◌∙◌, ℕ, ◌+◌, ◌<◌, ◌≤◌, List, [], ◌∷◌, ◌++◌, ap, sym}
use Rattle.std.proofs.Common.{append_assoc, append-nil, flat_map, get_or, length, map, take}
use Rattle.std.proofs.lemmas.Grind.{flat_map-append}
use Rattle.std.proofs.lemmas.List.{map-append, take_all, take_more}

-- one more element of a list that is mapped
pub mapped_next : {X Y : Type 0} (v : X → Y) (xs : List X) (k : ℕ) (x : X) → k < length xs
    → x ≡ get_or xs k x → map v (take (k + 1) xs) ≡ map v (take k xs) ++ v x ∷ []
mapped_next v xs k x lt is = ap (map v) (take_more xs k x lt)
    ∙ map-append v (take k xs) (get_or xs k x ∷ [])
    ∙ ap (λ y. map v (take k xs) ++ v y ∷ []) (sym is)

-- the parts of one more element
pub grown_next : {X Y Z : Type 0} (f : Y → List Z) (v : X → Y) (xs : List X) (k : ℕ) (x : X)
    (start old new : List Z) → k < length xs → x ≡ get_or xs k x
    → old ≡ start ++ flat_map f (map v (take k xs)) → new ≡ old ++ f (v x)
    → new ≡ start ++ flat_map f (map v (take (k + 1) xs))
grown_next f v xs k x start old new lt is before one =
    one ∙ ap (λ z. z ++ f (v x)) before
    ∙ append_assoc start (flat_map f (map v (take k xs))) (f (v x))
    ∙ ap (λ z. start ++ z) (sym (ap (flat_map f) (mapped_next v xs k x lt is)
    ∙ flat_map-append f (map v (take k xs)) (v x ∷ [])
    ∙ ap (λ z. flat_map f (map v (take k xs)) ++ z) (append-nil (f (v x)))))

-- the parts of all elements
pub grown_all : {X Y Z : Type 0} (f : Y → List Z) (v : X → Y) (xs : List X) (k : ℕ)
    (start now : List Z) → length xs ≤ k → now ≡ start ++ flat_map f (map v (take k xs))
    → now ≡ start ++ flat_map f (map v xs)
grown_all f v xs k start now le h = h
    ∙ ap (λ z. start ++ flat_map f (map v z)) (take_all k xs le)

-- one more element, mapped twice
pub mapped_more : {X Y Z : Type 0} (f : Y → Z) (v : X → Y) (xs : List X) (k : ℕ) (x : X)
    (start old new : List Z) → k < length xs → x ≡ get_or xs k x
    → old ≡ start ++ map f (map v (take k xs)) → new ≡ old ++ f (v x) ∷ []
    → new ≡ start ++ map f (map v (take (k + 1) xs))
mapped_more f v xs k x start old new lt is before one =
    one ∙ ap (λ z. z ++ f (v x) ∷ []) before
    ∙ append_assoc start (map f (map v (take k xs))) (f (v x) ∷ [])
    ∙ ap (λ z. start ++ z) (sym (ap (map f) (mapped_next v xs k x lt is)
    ∙ map-append f (map v (take k xs)) (v x ∷ [])))

-- all elements
pub mapped_all : {X Y Z : Type 0} (f : Y → Z) (v : X → Y) (xs : List X) (k : ℕ)
    (start now : List Z) → length xs ≤ k → now ≡ start ++ map f (map v (take k xs))
    → now ≡ start ++ map f (map v xs)
mapped_all f v xs k start now le h = h
    ∙ ap (λ z. start ++ map f (map v z)) (take_all k xs le)
