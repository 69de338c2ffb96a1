-- Lists of paths that stand in the order of another.
use Rattle.std.proofs.Common.{◌≡◌, ℕ, suc, Bool, true, false, ◌||◌, cond, List, []}
use Rattle.std.proofs.Common.{◌∷◌, ◌++◌, filter, refl, sym, ◌∙◌, ap, subst, inl, inr, nat_eq}
use Rattle.std.proofs.Common.{if◌then◌else◌, append-nil}
use Rattle.std.specs.Prelude.{bytes_eq}
use Rattle.std.specs.List.{list_any}
use Rattle.std.specs.List.Sorted.{IsStrictlyIncreasing}
use Rattle.std.proofs.lemmas.List.Elements.{filter-append}
use Rattle.protobuf_parse_model.specs.Descriptors.{Text}
use Rattle.protobuf_parse_model.specs.Tables.{picked}
use Rattle.protobuf_parse_model.proofs.DeclaringFiles.{filter-alike}
use Rattle.protobuf_parse_model.proofs.Picks as picks
use Rattle.protobuf_parse_elaboration.specs.FilesByPath.{AreDistinct, among}
use Rattle.protobuf_parse_run.proofs.Keeping.{among-append, bool_cases, never_both, or_cases}
use Rattle.protobuf_parse_run.proofs.Keeping.{or_left, or_right, text-same, text-true}
use Rattle.protobuf_parse_check.specs.Trimmed.{AreInOrder}

-- lists in one order with the same members
pub ordered-same : (all xs ys : List Text) → AreInOrder all xs → AreInOrder all ys
    → ((q : Text) → among q xs ≡ among q ys) → xs ≡ ys
ordered-same all xs ys x y same =
    x ∙ filter-alike (λ (q : Text). among q xs) (λ (q : Text). among q ys) same all ∙ sym y

-- what is kept by a test that holds of none
none-kept : (test : Text → Bool) (xs : List Text)
    → ((q : Text) → among q xs ≡ true → test q ≡ false) → filter test xs ≡ []
none-kept test [] none = refl
none-kept test (x ∷ xs) none =
    ap (λ (b : Bool). cond b (x ∷ filter test xs) (filter test xs))
    (none x (or_left (bytes_eq x x) (among x xs) (text-same x)))
    ∙ none-kept test xs (λ q m. none q (or_right (bytes_eq q x) (among q xs) m))

-- tests that agree on the members
pub kept-alike : (f g : Text → Bool) (xs : List Text)
    → ((q : Text) → among q xs ≡ true → f q ≡ g q) → filter f xs ≡ filter g xs
kept-alike f g [] same = refl
kept-alike f g (x ∷ xs) same =
    ap (λ (b : Bool). cond b (x ∷ filter f xs) (filter f xs))
    (same x (or_left (bytes_eq x x) (among x xs) (text-same x)))
    ∙ ap (λ (ys : List Text). cond (g x) (x ∷ ys) ys)
    (kept-alike f g xs (λ q m. same q (or_right (bytes_eq q x) (among q xs) m)))

-- what is kept was there
pub kept-there : (test : Text → Bool) (q : Text) (xs : List Text)
    → among q (filter test xs) ≡ true → among q xs ≡ true
kept-there test q [] m = m
kept-there test q (x ∷ xs) m = at (test x) (kept-there test q xs) m
  where
    at : (b : Bool) → (among q (filter test xs) ≡ true → among q xs ≡ true)
        → among q (cond b (x ∷ filter test xs) (filter test xs)) ≡ true
        → among q (x ∷ xs) ≡ true
    at true more h =
        elim (or_cases (bytes_eq q x) (among q (filter test xs)) h) [
          | inl w ↦ or_left (bytes_eq q x) (among q xs) w
          | inr w ↦ or_right (bytes_eq q x) (among q xs) (more w)
        ]
    at false more h = or_right (bytes_eq q x) (among q xs) (more h)

-- members of the one part of a list whose members are distinct are none of the other
apart : (xs ys : List Text) → AreDistinct (xs ++ ys) → (q : Text) → among q xs ≡ true
    → among q ys ≡ true → ⊥
apart [] ys d q m k = cc
apart (x ∷ xs) ys d q m k =
    elim (or_cases (bytes_eq q x) (among q xs) m) [
      | inl w ↦
          let there : among x ys ≡ true = subst (λ (z : Text). among z ys ≡ true)
          (text-true q x w) k in
          never_both (among x (xs ++ ys))
          (among-append x xs ys ∙ or_right (among x xs) (among x ys) there) d.0
      | inr w ↦ apart xs ys d.1 q w k
    ]

-- what is in the order of the front is in that of the whole
pub in-longer : (front more some : List Text) → AreDistinct (front ++ more)
    → AreInOrder front some → AreInOrder (front ++ more) some
in-longer front more some d ordered =
    ordered
    ∙ sym (append-nil (filter (λ (q : Text). among q some) front))
    ∙ ap (λ (ys : List Text). filter (λ (q : Text). among q some) front ++ ys)
    (sym (none-kept (λ (q : Text). among q some) more none))
    ∙ sym (filter-append (λ (q : Text). among q some) front more)
  where
    in_front : (q : Text) → among q some ≡ true → among q front ≡ true
    in_front q m = kept-there (λ (z : Text). among z some) q front
        (subst (λ (ys : List Text). among q ys ≡ true) ordered m)

    none : (q : Text) → among q more ≡ true → among q some ≡ false
    none q m =
        elim (bool_cases (among q some)) [
          | inl w ↦ absurd (apart front more d q (in_front q w) m)
          | inr w ↦ w
        ]

-- ** by ascending numbers

-- the members of a list with distinct ones, whose numbers are among these
module _ (numbers : List ℕ) where
  abbrev those : ℕ → List Text → List Text
  those n ps = picks.among numbers n ps

  those-there : (n : ℕ) (ps : List Text) (q : Text) → among q (those n ps) ≡ true
      → among q ps ≡ true
  those-there n [] q m = m
  those-there n (p ∷ ps) q m =
      at (list_any (nat_eq n) numbers) (those-there (suc n) ps q) m
    where
      at : (b : Bool) → (among q (those (suc n) ps) ≡ true → among q ps ≡ true)
          → among q ((if b then p ∷ [] else []) ++ those (suc n) ps) ≡ true
          → among q (p ∷ ps) ≡ true
      at true more h =
          elim (or_cases (bytes_eq q p) (among q (those (suc n) ps)) h) [
            | inl w ↦ or_left (bytes_eq q p) (among q ps) w
            | inr w ↦ or_right (bytes_eq q p) (among q ps) (more w)
          ]
      at false more h = or_right (bytes_eq q p) (among q ps) (more h)

  those-in-order : (n : ℕ) (ps : List Text) → AreDistinct ps → AreInOrder ps (those n ps)
  those-in-order n [] d = refl
  those-in-order n (p ∷ ps) d =
      at (list_any (nat_eq n) numbers) (those-in-order (suc n) ps d.1)
    where
      rest : List Text
      rest = those (suc n) ps

      other : (q : Text) → among q ps ≡ true → bytes_eq q p ≡ false
      other q m =
          elim (bool_cases (bytes_eq q p)) [
            | inl w ↦ absurd (never_both (among p ps)
                (subst (λ (z : Text). among z ps ≡ true) (text-true q p w) m) d.0)
            | inr w ↦ w
          ]

      not_later : among p rest ≡ false
      not_later =
          elim (bool_cases (among p rest)) [
            | inl w ↦ absurd (never_both (among p ps) (those-there (suc n) ps p w) d.0)
            | inr w ↦ w
          ]

      at : (b : Bool) → AreInOrder ps rest
          → AreInOrder (p ∷ ps) ((if b then p ∷ [] else []) ++ rest)
      at true more =
          ap (λ (ys : List Text). p ∷ ys)
          (more ∙ kept-alike (λ (q : Text). among q rest) (λ (q : Text). among q (p ∷ rest)) ps
          (λ q m. sym (ap (λ (b : Bool). b || among q rest) (other q m))))
          ∙ ap (λ (b : Bool). cond (b || among p rest)
          (p ∷ filter (λ (q : Text). among q (p ∷ rest)) ps)
          (filter (λ (q : Text). among q (p ∷ rest)) ps)) (sym (text-same p))
      at false more =
          more ∙ ap (λ (b : Bool). cond b (p ∷ filter (λ (q : Text). among q rest) ps)
          (filter (λ (q : Text). among q rest) ps)) (sym not_later)

-- so are those picked by ascending numbers
pub picked-in-order : (ps : List Text) (numbers : List ℕ) → AreDistinct ps
    → IsStrictlyIncreasing numbers → AreInOrder ps (picked ps numbers)
picked-in-order ps numbers d up =
    subst (AreInOrder ps) (picks.picked_among ps numbers up) (those-in-order numbers 0 ps d)
