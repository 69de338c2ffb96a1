-- Positions of what passes a test, and what stands there.
use Rattle.std.proofs.Common.{◌≡◌, ℕ, suc, ◌+◌, ◌<◌, Bool, true, false, cond, List, []}
use Rattle.std.proofs.Common.{◌∷◌, ◌++◌, map, length, take, get_or, length-take, arith, refl, sym}
use Rattle.std.proofs.Common.{ap, ◌∙◌, Option, Some, None}
use Rattle.std.proofs.lemmas.List.{take_more}
use Rattle.std.specs.Prelude.{find, option_map, slice_get}
use Rattle.std.specs.Borrow.{Bor}
use Rattle.std.specs.Option.{option_and_then, option_copied, option_or}
use Rattle.protobuf_parse_locations.specs.Kept.{first_at}

suc_or : (a b : Option ℕ)
    → option_map suc (option_or a b) ≡ option_or (option_map suc a) (option_map suc b)
suc_or None b = refl
suc_or (Some x) b = refl

suc_if : (b : Bool) (n : ℕ)
    → option_map suc (cond b (Some n) None) ≡ cond b (Some (suc n)) None
suc_if true n = refl
suc_if false n = refl

last : (b : Bool) → cond b (Some 0) (option_map suc None) ≡ cond b (Some 0) None
last true = refl
last false = refl

push_by : (b c : Bool) (n : ℕ) (more old : Option ℕ)
    → more ≡ option_or old (cond c (Some n) None)
    → cond b (Some 0) (option_map suc more)
    ≡ option_or (cond b (Some 0) (option_map suc old)) (cond c (Some (suc n)) None)
push_by true c n more old e = refl
push_by false c n more old e = ap (option_map suc) e ∙ suc_or old (cond c (Some n) None)
    ∙ ap (option_or (option_map suc old)) (suc_if c n)

first_at-push : {X : Type 0} (test : X → Bool) (xs : List X) (x : X)
    → first_at test (xs ++ x ∷ [])
    ≡ option_or (first_at test xs) (cond (test x) (Some (length xs)) None)
first_at-push test [] x = last (test x)
first_at-push test (y ∷ ys) x =
    push_by (test y) (test x) (length ys) (first_at test (ys ++ x ∷ [])) (first_at test ys)
    (first_at-push test ys x)

-- one more of a list's first elements
pub first_at-more : {X : Type 0} (test : X → Bool) (xs : List X) (i : ℕ) (x : X)
    → i < length xs → x ≡ get_or xs i x
    → first_at test (take (i + 1) xs)
    ≡ option_or (first_at test (take i xs)) (cond (test x) (Some i) None)
first_at-more test xs i x lt is =
    let size : length (take i xs) ≡ i = simp length-take (omega arith) in
    ap (first_at test) (take_more xs i x lt)
    ∙ first_at-push test (take i xs) (get_or xs i x)
    ∙ ap (λ n. option_or (first_at test (take i xs))
    (cond (test (get_or xs i x)) (Some n) None)) size
    ∙ ap (λ y. option_or (first_at test (take i xs)) (cond (test y) (Some i) None)) (sym is)

-- ---- what stands there

next_get : {X : Type 0} (x : X) (xs : List X) (o : Option ℕ)
    → option_and_then (slice_get (x ∷ xs)) (option_map suc o) ≡ option_and_then (slice_get xs) o
next_get x xs None = refl
next_get x xs (Some n) = refl

found_by : {X : Type 0} (x : X) (xs : List X) (b : Bool) (o : Option ℕ) (rest : Option X)
    → option_and_then (slice_get xs) o ≡ rest
    → option_and_then (slice_get (x ∷ xs)) (cond b (Some 0) (option_map suc o))
    ≡ cond b (Some x) rest
found_by x xs true o rest e = refl
found_by x xs false o rest e = next_get x xs o ∙ e

found_at : {X : Type 0} (test : X → Bool) (xs : List X)
    → option_and_then (slice_get xs) (first_at test xs) ≡ find test xs
found_at test [] = refl
found_at test (x ∷ xs) =
    found_by x xs (test x) (first_at test xs) (find test xs) (found_at test xs)

map_if : {T X : Type 0} (f : T → X) (b : Bool) (x : T) (rest : Option T)
    → option_map f (cond b (Some x) rest) ≡ cond b (Some (f x)) (option_map f rest)
map_if f true x rest = refl
map_if f false x rest = refl

find_map : {T X : Type 0} (view : T → X) (test : X → Bool) (xs : List T)
    → option_map view (find (λ (t : T). test (view t)) xs) ≡ find test (map view xs)
find_map view test [] = refl
find_map view test (x ∷ xs) =
    map_if view (test (view x)) x (find (λ t. test (view t)) xs)
    ∙ ap (cond (test (view x)) (Some (view x))) (find_map view test xs)

copied_map : {T X : Type 0} (view : T → X) (r : Option (Bor T))
    → option_map (λ (t : Bor T). view t.now) r ≡ option_map view (option_copied r)
copied_map view None = refl
copied_map view (Some t) = refl

-- what was found, by its view
pub found_view : {T X : Type 0} (view : T → X) (test : X → Bool) (items : List T)
    (r : Option (Bor T)) → option_copied r ≡ find (λ (t : T). test (view t)) items
    → option_map (λ (t : Bor T). view t.now) r ≡ find test (map view items)
found_view view test items r gives =
    copied_map view r ∙ ap (option_map view) gives ∙ find_map view test items

-- what a look-up by the position of the first gives
pub found_there : {T X : Type 0} (view : T → X) (test : X → Bool) (items : List T)
    (r : Option (Bor T)) (o : Option ℕ) → option_copied r ≡ option_and_then (slice_get items) o
    → o ≡ first_at (λ (t : T). test (view t)) items
    → option_map (λ (t : Bor T). view t.now) r ≡ find test (map view items)
found_there view test items r o gives first =
    found_view view test items r
    (gives ∙ ap (option_and_then (slice_get items)) first
    ∙ found_at (λ t. test (view t)) items)
