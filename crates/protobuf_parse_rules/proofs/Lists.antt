-- Lists that grow by one element.
use Rattle.std.proofs.Common.{◌≡◌, ℕ, ◌+◌, ◌<◌, ◌≤◌, List, [], ◌∷◌, ◌++◌, map, take, get_or, length}
use Rattle.std.proofs.Common.{sym, ap, ◌∙◌, append-nil, refl, Bool, true, false, ◌||◌, zero, suc}
use Rattle.std.proofs.Common.{arith}
use Rattle.std.specs.List.{flat_map, list_any}
use Rattle.protobuf_parse_rules.specs.Customs.{are_any}
use Rattle.std.proofs.lemmas.List.Folds.{list_any-append}
use Rattle.std.proofs.lemmas.List.{take_more, take_all, map-append}
use Rattle.std.proofs.lemmas.Grind.{flat_map-append}

-- one more element of a list that is mapped
pub mapped_one_more : {X Y : Type 0} (f : X → Y) (xs : List X) (i : ℕ) (x : X) → i < length xs
    → x ≡ get_or xs i x → map f (take (i + 1) xs) ≡ map f (take i xs) ++ f x ∷ []
mapped_one_more f xs i x lt is = ap (map f) (take_more xs i x lt)
    ∙ map-append f (take i xs) (get_or xs i x ∷ [])
    ∙ ap (λ y. map f (take i xs) ++ f y ∷ []) (sym is)

-- the same of a list of lists
pub joined_one_more : {X Y Z : Type 0} (g : Y → List Z) (f : X → Y) (xs : List X) (i : ℕ) (x : X)
    → i < length xs → x ≡ get_or xs i x
    → flat_map g (map f (take (i + 1) xs)) ≡ flat_map g (map f (take i xs)) ++ g (f x)
joined_one_more g f xs i x lt is = ap (flat_map g) (mapped_one_more f xs i x lt is)
    ∙ flat_map-append g (map f (take i xs)) (f x ∷ [])
    ∙ ap (λ ys. flat_map g (map f (take i xs)) ++ ys) (append-nil (g (f x)))

pub mapped_all : {X Y : Type 0} (f : X → Y) (xs : List X) (i : ℕ) → length xs ≤ i
    → map f (take i xs) ≡ map f xs
mapped_all f xs i le = ap (map f) (take_all i xs le)

-- one more element of a list that is mapped twice
pub mapped_twice_more : {X Y Z : Type 0} (g : Y → Z) (f : X → Y) (xs : List X) (i : ℕ) (x : X)
    → i < length xs → x ≡ get_or xs i x
    → map g (map f (take (i + 1) xs)) ≡ map g (map f (take i xs)) ++ g (f x) ∷ []
mapped_twice_more g f xs i x lt is = ap (map g) (mapped_one_more f xs i x lt is)
    ∙ map-append g (map f (take i xs)) (f x ∷ [])

-- one more element of a list that is mapped, where it has no name
pub mapped_next : {X Y : Type 0} (f : X → Y) (xs : List X) (i : ℕ) (d : X) → i < length xs
    → map f (take (i + 1) xs) ≡ map f (take i xs) ++ f (get_or xs i d) ∷ []
mapped_next f xs i d lt = ap (map f) (take_more xs i d lt)
    ∙ map-append f (take i xs) (get_or xs i d ∷ [])

-- whether a test finds one of one more element
pub any_one_more : {X Y : Type 0} (p : Y → Bool) (f : X → Y) (xs : List X) (i : ℕ) (x : X)
    → i < length xs → x ≡ get_or xs i x
    → list_any p (map f (take (i + 1) xs)) ≡ (list_any p (map f (take i xs)) || p (f x))
any_one_more p f xs i x lt is =
    ap (list_any p) (mapped_one_more f xs i x lt is)
    ∙ list_any-append p (map f (take i xs)) (f x ∷ [])
    ∙ ap (λ b. list_any p (map f (take i xs)) || b) (or_false (p (f x)))
  where
    or_false : (b : Bool) → (b || false) ≡ b
    or_false true = refl
    or_false false = refl

-- it is found now
pub found_now : (new r a b : Bool) → new ≡ true → r ≡ true → r ≡ b → new ≡ (a || b)
found_now new r true b p q e = p
found_now new r false b p q e = p ∙ sym q ∙ e

-- or it is not, and what was found stays so
pub found_stays : (new old r a b : Bool) → new ≡ old → old ≡ a → r ≡ false → r ≡ b
    → new ≡ (a || b)
found_stays new old r true b p q f e = p ∙ q
found_stays new old r false b p q f e = p ∙ q ∙ sym f ∙ e

or_true : (b : Bool) → true ≡ (b || true)
or_true true = refl
or_true false = refl

-- one of a list passes the test
pub any_found : {X Y : Type 0} (p : Y → Bool) (f : X → Y) (xs : List X) (i : ℕ) (x : X)
    → i < length xs → x ≡ get_or xs i x → p (f x) ≡ true → true ≡ list_any p (map f xs)
any_found p f [] i x lt is e = absurd (omega arith)
any_found p f (y ∷ ys) zero x lt is e =
    ap (λ b. b || list_any p (map f ys)) (sym e ∙ ap (λ z. p (f z)) is)
any_found p f (y ∷ ys) (suc i) x lt is e =
    or_true (p (f y)) ∙ ap (λ b. p (f y) || b) (any_found p f ys i x (omega arith) is e)

-- a list that is mapped has as many elements
pub any_mapped : {X Y : Type 0} (f : X → Y) (xs : List X) → are_any (map f xs) ≡ are_any xs
any_mapped f [] = refl
any_mapped f (x ∷ xs) = refl

-- the same of a list that isn't mapped
pub one_passes : {X : Type 0} (p : X → Bool) (xs : List X) (i : ℕ) (x : X) → i < length xs
    → x ≡ get_or xs i x → p x ≡ true → true ≡ list_any p xs
one_passes p [] i x lt is e = absurd (omega arith)
one_passes p (y ∷ ys) zero x lt is e = ap (λ b. b || list_any p ys) (sym e ∙ ap p is)
one_passes p (y ∷ ys) (suc i) x lt is e =
    or_true (p y) ∙ ap (λ b. p y || b) (one_passes p ys i x (omega arith) is e)

-- the same of one that has no name
pub any_there : {X Y : Type 0} (p : Y → Bool) (f : X → Y) (xs : List X) (i : ℕ) (d : X)
    → i < length xs → p (f (get_or xs i d)) ≡ true → true ≡ list_any p (map f xs)
any_there p f [] i d lt e = absurd (omega arith)
any_there p f (y ∷ ys) zero d lt e = ap (λ b. b || list_any p (map f ys)) (sym e)
any_there p f (y ∷ ys) (suc i) d lt e =
    or_true (p (f y)) ∙ ap (λ b. p (f y) || b) (any_there p f ys i d (omega arith) e)
