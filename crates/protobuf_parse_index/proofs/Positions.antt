-- Positions of what passes a test.
use Rattle.std.proofs.Common.{◌≡◌, ℕ, ℤ, zero, suc, ◌+◌, ◌<◌, Bool, true, false, cond, List, []}
use Rattle.std.proofs.Common.{◌∷◌, ◌++◌, map, length, take, get_or, length-take, arith, refl, sym}
use Rattle.std.proofs.Common.{ap, ◌∙◌, Option, Some, None}
use Rattle.std.proofs.lemmas.List.{map-append, take_more}
use Rattle.protobuf_parse_wire.proofs.Adding.{mapped_one_more}
use Rattle.std.specs.Prelude.{find, option_map, slice_get}
use Rattle.std.specs.Borrow.{Bor}
use Rattle.std.specs.Option.{option_and_then, option_copied, option_or}
use Rattle.protobuf_parse_index.specs.Kept.{first_at}

suc_or : (a b : Option ℕ)
    → option_map suc (option_or a b) ≡ option_or (option_map suc a) (option_map suc b)
suc_or None b = refl
suc_or (Some x) b = refl

suc_if : (b : Bool) (n : ℕ)
    → option_map suc (cond b (Some n) None) ≡ cond b (Some (suc n)) None
suc_if true n = refl
suc_if false n = refl

last : (b : Bool) → cond b (Some 0) (option_map suc None) ≡ cond b (Some 0) None
last true = refl
last false = refl

push_by : (b c : Bool) (n : ℕ) (more old : Option ℕ)
    → more ≡ option_or old (cond c (Some n) None)
    → cond b (Some 0) (option_map suc more)
    ≡ option_or (cond b (Some 0) (option_map suc old)) (cond c (Some (suc n)) None)
push_by true c n more old e = refl
push_by false c n more old e = ap (option_map suc) e ∙ suc_or old (cond c (Some n) None)
    ∙ ap (option_or (option_map suc old)) (suc_if c n)

-- one more element
pub first_at-push : {X : Type 0} (test : X → Bool) (xs : List X) (x : X)
    → first_at test (xs ++ x ∷ [])
    ≡ option_or (first_at test xs) (cond (test x) (Some (length xs)) None)
first_at-push test [] x = last (test x)
first_at-push test (y ∷ ys) x =
    push_by (test y) (test x) (length ys) (first_at test (ys ++ x ∷ [])) (first_at test ys)
    (first_at-push test ys x)

-- one more of a list's first elements
pub first_at-more : {X : Type 0} (test : X → Bool) (xs : List X) (i : ℕ) (x : X)
    → i < length xs → x ≡ get_or xs i x
    → first_at test (take (i + 1) xs)
    ≡ option_or (first_at test (take i xs)) (cond (test x) (Some i) None)
first_at-more test xs i x lt is =
    let size : length (take i xs) ≡ i = simp length-take (omega arith) in
    ap (first_at test) (take_more xs i x lt)
    ∙ first_at-push test (take i xs) (get_or xs i x)
    ∙ ap (λ n. option_or (first_at test (take i xs))
    (cond (test (get_or xs i x)) (Some n) None)) size
    ∙ ap (λ y. option_or (first_at test (take i xs)) (cond (test y) (Some i) None)) (sym is)

-- in a list that is mapped
pub first_at-map : {X Y : Type 0} (f : X → Y) (test : Y → Bool) (xs : List X)
    → first_at test (map f xs) ≡ first_at (λ (x : X). test (f x)) xs
first_at-map f test [] = refl
first_at-map f test (x ∷ xs) =
    ap (λ o. cond (test (f x)) (Some 0) (option_map suc o)) (first_at-map f test xs)

next_get : {X : Type 0} (x : X) (xs : List X) (o : Option ℕ)
    → option_and_then (slice_get (x ∷ xs)) (option_map suc o) ≡ option_and_then (slice_get xs) o
next_get x xs None = refl
next_get x xs (Some n) = refl

found_by : {X : Type 0} (x : X) (xs : List X) (b : Bool) (o : Option ℕ) (rest : Option X)
    → option_and_then (slice_get xs) o ≡ rest
    → option_and_then (slice_get (x ∷ xs)) (cond b (Some 0) (option_map suc o))
    ≡ cond b (Some x) rest
found_by x xs true o rest e = refl
found_by x xs false o rest e = next_get x xs o ∙ e

-- what stands there
pub found_at : {X : Type 0} (test : X → Bool) (xs : List X)
    → option_and_then (slice_get xs) (first_at test xs) ≡ find test xs
found_at test [] = refl
found_at test (x ∷ xs) =
    found_by x xs (test x) (first_at test xs) (find test xs) (found_at test xs)

pub slice_get-map : {X Y : Type 0} (f : X → Y) (xs : List X) (n : ℕ)
    → slice_get (map f xs) n ≡ option_map f (slice_get xs n)
slice_get-map f [] n = refl
slice_get-map f (x ∷ xs) zero = refl
slice_get-map f (x ∷ xs) (suc n) = slice_get-map f xs n

-- by a position in one list, what stands there in another
pub then_map : {X Y : Type 0} (f : X → Y) (xs : List X) (o : Option ℕ)
    → option_map f (option_and_then (slice_get xs) o) ≡ option_and_then (slice_get (map f xs)) o
then_map f xs None = refl
then_map f xs (Some n) = sym (slice_get-map f xs n)

-- ---- what a look-up by a position gives

copied_map : {T X : Type 0} (view : T → X) (r : Option (Bor T))
    → option_map (λ (t : Bor T). view t.now) r ≡ option_map view (option_copied r)
copied_map view None = refl
copied_map view (Some t) = refl

pub found_there : {T X : Type 0} (view : T → X) (test : X → Bool) (items : List T) (xs : List X)
    (r : Option (Bor T)) (o : Option ℕ)
    → option_copied r ≡ option_and_then (slice_get items) o → map view items ≡ xs
    → o ≡ first_at test xs → option_map (λ (t : Bor T). view t.now) r ≡ find test xs
found_there view test items xs r o gives same first =
    copied_map view r ∙ ap (option_map view) gives ∙ then_map view items o
    ∙ ap (λ ys. option_and_then (slice_get ys) o) same
    ∙ ap (option_and_then (slice_get xs)) first ∙ found_at test xs

copied_then : {M V : Type 0} (f : M → ℤ → Option V) (n : ℤ) (r : Option (Bor M))
    → option_and_then (λ (m : Bor M). f m.now n) r
    ≡ option_and_then (λ (h : ℤ → Option V). h n) (option_map f (option_copied r))
copied_then f n None = refl
copied_then f n (Some m) = refl

map_then : {S V : Type 0} (g : S → ℤ → Option V) (n : ℤ) (o : Option S)
    → option_and_then (λ (h : ℤ → Option V). h n) (option_map g o)
    ≡ option_and_then (λ (s : S). g s n) o
map_then g n None = refl
map_then g n (Some s) = refl

-- what has the number in what stands there
pub numbered_there : {M S V : Type 0} (f : M → ℤ → Option V) (g : S → ℤ → Option V)
    (test : S → Bool) (ms : List M) (ss : List S) (r : Option (Bor M)) (o : Option ℕ) (n : ℤ)
    → option_copied r ≡ option_and_then (slice_get ms) o → map f ms ≡ map g ss
    → o ≡ first_at test ss
    → option_and_then (λ (m : Bor M). f m.now n) r
    ≡ option_and_then (λ (s : S). g s n) (find test ss)
numbered_there {M} {S} {V} f g test ms ss r o n gives same first =
    let at : Option (ℤ → Option V) → Option V = option_and_then (λ (h : ℤ → Option V). h n) in
    copied_then f n r ∙ ap (λ z. at (option_map f z)) gives ∙ ap at (then_map f ms o)
    ∙ ap (λ ys. at (option_and_then (slice_get ys) o)) same ∙ ap at (sym (then_map g ss o))
    ∙ ap (λ z. at (option_map g (option_and_then (slice_get ss) z))) first
    ∙ ap (λ z. at (option_map g z)) (found_at test ss) ∙ map_then g n (find test ss)

-- ---- what is put where nothing was

pub put_absent : {V : Type 0} (o : Option V) (b : Bool) (v : V) → (b ≡ true → o ≡ None)
    → cond b (Some v) o ≡ option_or o (cond b (Some v) None)
put_absent o true v none = ap (λ z. option_or z (Some v)) (sym (none refl))
put_absent None false v none = refl
put_absent (Some x) false v none = refl

-- one more element of a list that is mapped twice
pub mapped_twice_more : {X Y Z : Type 0} (g : Y → Z) (f : X → Y) (xs : List X) (i : ℕ) (x : X)
    → i < length xs → x ≡ get_or xs i x
    → map g (map f (take (i + 1) xs)) ≡ map g (map f (take i xs)) ++ g (f x) ∷ []
mapped_twice_more g f xs i x lt is = ap (map g) (mapped_one_more f xs i x lt is)
    ∙ map-append g (map f (take i xs)) (f x ∷ [])
