-- Parts appended one after another.
use Rattle.std.proofs.Common.{◌≡◌, ◌∙◌, ℕ, ◌+◌, ◌<◌, ◌≤◌, List, [], ◌∷◌, ◌++◌, ap, sym, refl}
use Rattle.std.proofs.Common.{append_assoc, flat_map, get_or, length, map, take}
use Rattle.std.specs.Prelude.{Result, Ok, Err, OnOk}
use Rattle.std.proofs.lemmas.List.{flat_map_more, map-append, take_all, take_more}

-- five parts in a row
pub appended_five : (t u v w x a b c d e : List ℕ) → u ≡ t ++ a → v ≡ u ++ b → w ≡ v ++ c
    → x ≡ w ++ d → x ++ e ≡ t ++ (a ++ (b ++ c ++ d ++ e))
appended_five t u v w x a b c d e p q r s = rw (s, r, q, p) (simp append_assoc refl)

-- what follows from a fact under Ok holds under Ok
pub on_ok_then : {X E P Q : Type 0} (r : Result X E) → (P → Q) → OnOk r P → OnOk r Q
on_ok_then (Ok x) f h = f h
on_ok_then (Err e) f h = tt

-- one more part of a list's parts
pub appended_next : {X Y : Type 0} (f : Y → List ℕ) (v : X → Y) (xs : List X) (k : ℕ) (x : X)
    (start old new : List ℕ) → k < length xs → x ≡ get_or xs k x
    → old ≡ start ++ flat_map f (map v (take k xs)) → new ≡ old ++ f (v x)
    → new ≡ start ++ flat_map f (map v (take (k + 1) xs))
appended_next f v xs k x start old new lt is before one =
    let next : map v (take (k + 1) xs) ≡ map v (take k xs) ++ v x
    ∷ [] = ap (map v) (take_more xs k x lt)
    ∙ (map-append v (take k xs) (get_or xs k x ∷ [])
    ∙ ap (λ z. map v (take k xs) ++ v z ∷ []) (sym is)) in
    one ∙ (ap (λ z. z ++ f (v x)) before
    ∙ (flat_map_more f start (map v (take k xs)) (v x)
    ∙ ap (λ z. start ++ flat_map f z) (sym next)))

-- all parts
pub appended_all : {X Y : Type 0} (f : Y → List ℕ) (v : X → Y) (xs : List X) (k : ℕ)
    (start text : List ℕ) → length xs ≤ k → text ≡ start ++ flat_map f (map v (take k xs))
    → text ≡ start ++ flat_map f (map v xs)
appended_all f v xs k start text le h = h
    ∙ ap (λ z. start ++ flat_map f (map v z)) (take_all k xs le)

pub appended_three : (t a b c : List ℕ) {u v w : List ℕ} → u ≡ t ++ a → v ≡ u ++ b → w ≡ v ++ c
    → w ≡ t ++ (a ++ b ++ c)
appended_three t a b c p q r = rw (r, q, p) (simp append_assoc refl)

-- a line of two parts
pub appended_line : (t blanks a b : List ℕ) {u v w : List ℕ} → u ≡ t ++ (blanks ++ a) → v ≡ u ++ b
    → w ≡ v ++ 10 ∷ [] → w ≡ t ++ (blanks ++ (a ++ b) ++ 10 ∷ [])
appended_line t blanks a b p q r = rw (r, q, p) (simp append_assoc refl)

-- a line that begins with some words and a label, and the lines below it
pub appended_labelled : (t blanks front label after below : List ℕ) {u v w words : List ℕ}
    → words ≡ label ++ after → u ≡ t ++ (blanks ++ (front ++ label)) → v ≡ u ++ (after ++ 10 ∷ [])
    → w ≡ v ++ below → w ≡ t ++ (blanks ++ (front ++ words) ++ 10 ∷ [] ++ below)
appended_labelled t blanks front label after below e p q r =
    rw (r, q, p, e) (simp append_assoc refl)

pub appended_two : (t u v a b : List ℕ) → u ≡ t ++ a → v ≡ u ++ b → v ≡ t ++ (a ++ b)
appended_two t u v a b p q = q ∙ (ap (λ z. z ++ b) p ∙ append_assoc t a b)
