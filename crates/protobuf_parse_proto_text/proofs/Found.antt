-- The first position of what passes a test.
use Rattle.std.proofs.Common.{◌≡◌, ◌∙◌, ℕ, suc, ◌+◌, ◌≤◌, Bool, true, false, cond, List, [], ◌∷◌}
use Rattle.std.proofs.Common.{Option, Some, add-one, ap, length, map, refl, sym, take}
use Rattle.std.specs.Prelude.{option_map}
use Rattle.std.specs.List.{position_from}
use Rattle.std.proofs.lemmas.List.{take_all}
use Rattle.protobuf_parse_index.specs.Kept.{first_at}
use Rattle.protobuf_parse_index.proofs.Positions.{first_at-map}

shift : (b : Bool) (i : ℕ) (o : Option ℕ)
    → cond b (Some (i + 1)) (option_map suc o) ≡ option_map suc (cond b (Some i) o)
shift true i o = ap (λ (n : ℕ). Some n) (add-one i)
shift false i o = refl

-- counted from one further on
position_from-suc : {X : Type 0} (p : X → Bool) (i : ℕ) (xs : List X)
    → position_from p (i + 1) xs ≡ option_map suc (position_from p i xs)
position_from-suc p i [] = refl
position_from-suc p i (x ∷ xs) =
    ap (λ o. cond (p x) (Some (i + 1)) o) (position_from-suc p (i + 1) xs)
    ∙ shift (p x) i (position_from p (i + 1) xs)

first_is : {X : Type 0} (p : X → Bool) (xs : List X) → first_at p xs ≡ position_from p 0 xs
first_is p [] = refl
first_is p (x ∷ xs) = ap (λ o. cond (p x) (Some 0) o)
    (ap (option_map suc) (first_is p xs) ∙ sym (position_from-suc p 0 xs))

-- of all elements, mapped
pub first_of_all : {X Y : Type 0} (f : X → Y) (p : Y → Bool) (xs : List X) (k : ℕ)
    → length xs ≤ k → first_at (λ (x : X). p (f x)) (take k xs) ≡ position_from p 0 (map f xs)
first_of_all {X} f p xs k le = ap (first_at (λ (x : X). p (f x))) (take_all k xs le)
    ∙ sym (first_at-map f p xs) ∙ first_is p (map f xs)
