-- The fronts of a list.
use Rattle.std.proofs.Common.{◌≡◌, ℕ, ◌++◌, suc, List, [], ◌∷◌, Option, None, Some, MatchOption}
use Rattle.std.proofs.Common.{length, map, refl, sym, ap, ◌∙◌, append_assoc}
use Rattle.std.proofs.lemmas.List.{map_push}
use Rattle.protobuf_parse_base.specs.Names.{fronts}

-- the fronts of what is left to list, if anything is
abbrev pub fronts_of : {X Y : Type 0} → (X → List Y) → Option X → List (List Y)
fronts_of view None = []
fronts_of view (Some x) = fronts (view x)

-- how many they are
abbrev pub count_of : {X Y : Type 0} → (X → List Y) → Option X → ℕ
count_of view None = 0
count_of view (Some x) = suc (length (view x))

-- the longest front stands first, and the fronts of the list without its last element follow
pub fronts-push : {X : Type 0} (xs : List X) (y : X)
    → fronts (xs ++ y ∷ []) ≡ (xs ++ y ∷ []) ∷ fronts xs
fronts-push [] y = refl
fronts-push (x ∷ xs) y = ap (λ all. map (λ front. x ∷ front) all ++ ([] ∷ [])) (fronts-push xs y)

-- one path more
pub fronts_more : {X Y : Type 0} (view : X → List Y) (done : List X) (path : X) (next : Option X)
    (all : List (List Y))
    → map view done ++ fronts (view path) ≡ all
    → fronts (view path) ≡ view path ∷ fronts_of view next
    → map view (done ++ path ∷ []) ++ fronts_of view next ≡ all
fronts_more view done path next all before step =
    ap (λ front. front ++ fronts_of view next) (map_push view done path)
    ∙ (append_assoc (map view done) (view path ∷ []) (fronts_of view next)
    ∙ (ap (λ rest. map view done ++ rest) (sym step) ∙ before))

-- the fronts of a path, by the path without its last element
pub fronts-step : {X Y : Type 0} (view : X → List Y) (path : X) (next : Option X)
    → MatchOption next (view path ≡ [])
    (λ parent. (last : Y) × (view path ≡ view parent ++ last ∷ []))
    → fronts (view path) ≡ view path ∷ fronts_of view next
fronts-step view path None h = rw h refl
fronts-step view path (Some parent) h =
    ap fronts h.1
    ∙ (fronts-push (view parent) h.0 ∙ ap (λ whole. whole ∷ fronts (view parent)) (sym h.1))
