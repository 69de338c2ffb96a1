-- Sets, and lists of what they have.
use Rattle.std.proofs.Common.{◌≡◌, ◌∙◌, ◌++◌, ◌∷◌, ◌||◌, [], Bool, true, false, cond, List, ap}
use Rattle.std.proofs.Common.{ℕ, ◌+◌, ◌<◌, append-nil, flat_map, get_or, length, map, refl, sym}
use Rattle.std.proofs.Common.{append_assoc, take}
use Rattle.std.specs.List.{list_any}
use Rattle.std.proofs.lemmas.Grind.{flat_map-append}
use Rattle.std.proofs.lemmas.List.{map_more}

pub or_assoc : (a b c : Bool) → ((a || b) || c) ≡ (a || (b || c))
or_assoc true b c = refl
or_assoc false b c = refl

pub or_swap : (a b c : Bool) → (a || (b || c)) ≡ (b || (a || c))
or_swap true true c = refl
or_swap true false c = refl
or_swap false true c = refl
or_swap false false c = refl

pub or_turn : (a b : Bool) → (a || b) ≡ (b || a)
or_turn true true = refl
or_turn true false = refl
or_turn false true = refl
or_turn false false = refl

pub or_none : (a : Bool) → (a || false) ≡ a
or_none true = refl
or_none false = refl

pub cond_or : (b s : Bool) → cond b true s ≡ (b || s)
cond_or true s = refl
cond_or false s = refl

module _ {X : Type 0} (p : X → Bool) where
  -- in two lists
  pub any-append : (xs ys : List X) → list_any p (xs ++ ys) ≡ (list_any p xs || list_any p ys)
  any-append [] ys = refl
  any-append (x ∷ xs) ys =
      ap (λ b. p x || b) (any-append xs ys)
      ∙ sym (or_assoc (p x) (list_any p xs) (list_any p ys))

  -- one more
  pub any-push : (xs : List X) (x : X) → list_any p (xs ++ x ∷ []) ≡ (p x || list_any p xs)
  any-push xs x =
      any-append xs (x ∷ []) ∙ or_turn (list_any p xs) (p x || false)
      ∙ ap (λ b. b || list_any p xs) (or_none (p x))

  -- one that a set gets
  pub any_more : (xs : List X) (x : X) (new old : Bool) → new ≡ cond (p x) true old
      → old ≡ list_any p xs → new ≡ list_any p (xs ++ x ∷ [])
  any_more xs x new old e is =
      e ∙ ap (λ b. cond (p x) true b) is ∙ cond_or (p x) (list_any p xs) ∙ sym (any-push xs x)

  -- what a set gets behind others
  pub any_behind : (xs ys : List X) (new old first : Bool)
      → new ≡ (old || list_any p ys) → old ≡ (first || list_any p xs)
      → new ≡ (first || list_any p (xs ++ ys))
  any_behind xs ys new old first e is =
      e ∙ ap (λ b. b || list_any p ys) is ∙ or_assoc first (list_any p xs) (list_any p ys)
      ∙ ap (λ b. first || b) (sym (any-append xs ys))

-- the lists of one more
pub flat_map-push : {X Y : Type 0} (f : X → List Y) (xs : List X) (x : X)
    → flat_map f (xs ++ x ∷ []) ≡ flat_map f xs ++ f x
flat_map-push f xs x =
    flat_map-append f xs (x ∷ []) ∙ ap (λ ys. flat_map f xs ++ ys) (append-nil (f x))

-- one more of a list that is seen
pub map_item : {X Y : Type 0} (f : X → Y) (xs : List X) (i : ℕ) (x : X) → i < length xs
    → x ≡ get_or xs i x → map f (take (i + 1) xs) ≡ map f (take i xs) ++ f x ∷ []
map_item f xs i x less is =
    map_more f xs i x less ∙ ap (λ z. map f (take i xs) ++ f z ∷ []) (sym is)

-- what is told of one more
pub told_next : {X T : Type 0} (f : X → List T) (t0 t1 t2 : List T) (xs ys : List X) (x : X)
    → t1 ≡ t0 ++ flat_map f xs → t2 ≡ t1 ++ f x → ys ≡ xs ++ x ∷ [] → t2 ≡ t0 ++ flat_map f ys
told_next f t0 t1 t2 xs ys x told next more =
    next ∙ ap (λ t. t ++ f x) told ∙ append_assoc t0 (flat_map f xs) (f x)
    ∙ ap (λ z. t0 ++ z) (sym (flat_map-push f xs x) ∙ ap (flat_map f) (sym more))

module _ {X Y : Type 0} (p : Y → Bool) (f : X → List Y) where
  -- what a set gets of one more, behind others
  pub any_next_behind : (xs ys : List X) (x : X) (new old first : Bool)
      → new ≡ (old || list_any p (f x)) → old ≡ (first || list_any p (flat_map f xs))
      → ys ≡ xs ++ x ∷ [] → new ≡ (first || list_any p (flat_map f ys))
  any_next_behind xs ys x new old first e is more =
      any_behind p (flat_map f xs) (f x) new old first e is
      ∙ ap (λ (zs : List Y). first || list_any p zs)
      (sym (flat_map-push f xs x) ∙ ap (flat_map f) (sym more))

  -- and behind none
  pub any_next : (xs ys : List X) (x : X) (new old : Bool) → new ≡ (old || list_any p (f x))
      → old ≡ list_any p (flat_map f xs) → ys ≡ xs ++ x ∷ [] → new ≡ list_any p (flat_map f ys)
  any_next xs ys x new old e is more = any_next_behind xs ys x new old false e is more
