-- Lists that grow by one element.
use Rattle.std.proofs.Common.{◌≡◌, ◌∙◌, ℕ, ◌+◌, ◌<◌, suc, List, [], ◌∷◌, ◌++◌, map, take, get_or}
use Rattle.std.proofs.Common.{length, sym, ap, append-nil, append_assoc, arith}
use Rattle.std.specs.List.{flat_map}
use Rattle.std.proofs.lemmas.Grind.{flat_map-append}
use Rattle.std.proofs.lemmas.List.{length-map, length-take, map-append, take_more}
use Rattle.protobuf_parse_set_rules.specs.Positions.{by_position}

-- one more element of a list that is mapped
pub mapped_one_more : {X Y : Type 0} (f : X → Y) (xs : List X) (i : ℕ) (x : X) → i < length xs
    → x ≡ get_or xs i x → map f (take (i + 1) xs) ≡ map f (take i xs) ++ f x ∷ []
mapped_one_more f xs i x lt is = ap (map f) (take_more xs i x lt)
    ∙ map-append f (take i xs) (get_or xs i x ∷ [])
    ∙ ap (λ y. map f (take i xs) ++ f y ∷ []) (sym is)

-- the same where the element has no name
pub mapped_next : {X Y : Type 0} (f : X → Y) (xs : List X) (i : ℕ) (d : X) → i < length xs
    → map f (take (i + 1) xs) ≡ map f (take i xs) ++ f (get_or xs i d) ∷ []
mapped_next f xs i d lt = ap (map f) (take_more xs i d lt)
    ∙ map-append f (take i xs) (get_or xs i d ∷ [])

-- the same of a list of lists
pub joined_one_more : {X Y Z : Type 0} (g : Y → List Z) (f : X → Y) (xs : List X) (i : ℕ) (x : X)
    → i < length xs → x ≡ get_or xs i x
    → flat_map g (map f (take (i + 1) xs)) ≡ flat_map g (map f (take i xs)) ++ g (f x)
joined_one_more g f xs i x lt is = ap (flat_map g) (mapped_one_more f xs i x lt is)
    ∙ flat_map-append g (map f (take i xs)) (f x ∷ [])
    ∙ ap (λ ys. flat_map g (map f (take i xs)) ++ ys) (append-nil (g (f x)))

-- what is told behind what was told
pub told_more : {X : Type 0} (a b c xs ys : List X) → b ≡ a ++ xs → c ≡ b ++ ys
    → c ≡ a ++ (xs ++ ys)
told_more a b c xs ys p q = q ∙ ap (λ z. z ++ ys) p ∙ append_assoc a xs ys

-- ---- by positions

none_more : (n : ℕ) → n ≡ n + 0
none_more n = omega arith

one_more : (n k : ℕ) → (n + 1) + k ≡ n + suc k
one_more n k = omega arith

by_position-append : {X Y : Type 0} (f : ℕ → X → List Y) (n : ℕ) (xs : List X) (x : X)
    → by_position f n (xs ++ x ∷ []) ≡ by_position f n xs ++ f (n + length xs) x
by_position-append f n [] x = append-nil (f n x) ∙ ap (λ k. f k x) (none_more n)
by_position-append f n (y ∷ xs) x =
    ap (λ ys. f n y ++ ys) (by_position-append f (n + 1) xs x
    ∙ ap (λ k. by_position f (n + 1) xs ++ f k x) (one_more n (length xs)))
    ∙ sym (append_assoc (f n y) (by_position f (n + 1) xs) (f (n + suc (length xs)) x))

mapped_length : {X Y : Type 0} (v : X → Y) (xs : List X) (i : ℕ) → i < length xs
    → 0 + length (map v (take i xs)) ≡ i
mapped_length v xs i lt = omega (arith, length-map (take i xs) v, length-take i xs, lt)

-- one more element of a list of which each is spoken of by its position
pub positioned_more : {X Y Z : Type 0} (f : ℕ → Y → List Z) (v : X → Y) (xs : List X) (i : ℕ)
    (x : X) → i < length xs → x ≡ get_or xs i x
    → by_position f 0 (map v (take (i + 1) xs)) ≡ by_position f 0 (map v (take i xs)) ++ f i (v x)
positioned_more f v xs i x lt is =
    ap (by_position f 0) (mapped_one_more v xs i x lt is)
    ∙ by_position-append f 0 (map v (take i xs)) (v x)
    ∙ ap (λ n. by_position f 0 (map v (take i xs)) ++ f n (v x)) (mapped_length v xs i lt)
