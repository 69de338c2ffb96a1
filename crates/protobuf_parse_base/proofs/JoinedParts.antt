-- Parts joined one after the other.
use Rattle.std.proofs.Common.{◌≡◌, ◌∙◌, ap, sym, ℕ, ◌+◌, ◌<◌, ◌≤◌, List, [], ◌∷◌, ◌++◌, Bor}
use Rattle.std.proofs.Common.{append-nil, get_or, length, take, flat_map}
use Rattle.std.proofs.lemmas.List.{flat_map_more, map-append, take_all, take_more}
use Rattle.protobuf_parse_base.specs.PathParts.{part_behind}
use Rattle.protobuf_parse_base.specs.PathViews.{part_texts}
use Rattle.protobuf_parse_base.specs.Paths.{joined}

abbrev Text : Type 0
Text = List ℕ

-- the parts behind the first, each after a slash
pub joined-spread : (first : Text) (parts : List Text)
    → joined (first ∷ parts) ≡ first ++ flat_map part_behind parts
joined-spread first [] = sym (append-nil first)
joined-spread first (next ∷ parts) =
    ap (λ (r : List ℕ). first ++ (47 ∷ r)) (joined-spread next parts)

-- one more part, after a slash
pub appended-part : (xs : List (Bor (List ℕ))) (k : ℕ) (d : Bor (List ℕ)) (start old new : List ℕ)
    → k < length xs → old ≡ start ++ flat_map part_behind (part_texts (take k xs))
    → new ≡ old ++ part_behind (get_or xs k d).now
    → new ≡ start ++ flat_map part_behind (part_texts (take (k + 1) xs))
appended-part xs k d start old new lt before one =
    let next : part_texts (take (k + 1) xs) ≡ part_texts (take k xs) ++ (get_or xs k d).now ∷ [] =
    ap part_texts (take_more xs k d lt)
    ∙ map-append (λ (p : Bor (List ℕ)). p.now) (take k xs) (get_or xs k d ∷ []) in
    one ∙ (ap (λ (z : List ℕ). z ++ part_behind (get_or xs k d).now) before
    ∙ (flat_map_more part_behind start (part_texts (take k xs)) (get_or xs k d).now
    ∙ ap (λ (z : List Text). start ++ flat_map part_behind z) (sym next)))

-- all of them
pub appended-parts : (xs : List (Bor (List ℕ))) (k : ℕ) (start text : List ℕ) → length xs ≤ k
    → text ≡ start ++ flat_map part_behind (part_texts (take k xs))
    → text ≡ start ++ flat_map part_behind (part_texts xs)
appended-parts xs k start text le h = h
    ∙ ap (λ z. start ++ flat_map part_behind (part_texts z)) (take_all k xs le)

-- the first, and the others behind it
pub joined-of : (all : List (Bor (List ℕ))) (first : Bor (List ℕ)) (others : List (Bor (List ℕ)))
    (text new : List ℕ) → all ≡ first ∷ others
    → text ≡ first.now → new ≡ text ++ flat_map part_behind (part_texts others)
    → new ≡ joined (part_texts all)
joined-of all first others text new split one rest =
    rest ∙ (ap (λ (t : List ℕ). t ++ flat_map part_behind (part_texts others)) one
    ∙ (sym (joined-spread first.now (part_texts others))
    ∙ ap (λ (z : List (Bor (List ℕ))). joined (part_texts z)) (sym split)))
