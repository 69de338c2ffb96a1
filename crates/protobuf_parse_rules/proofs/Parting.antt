-- Claims that pass a test, where others are in no conflict.
use Rattle.std.proofs.Common.{◌≡◌, Bool, true, false, cond, not, ◌||◌, ◌∷◌, [], List, ◌++◌, refl, sym, ap}
use Rattle.std.proofs.Common.{◌∙◌, append-nil, Some, inl, inr}
use Rattle.std.specs.Prelude.{filter}
use Rattle.std.specs.List.{list_any}
use Rattle.std.proofs.lemmas.Bool.{cases_Bool}
use Rattle.std.proofs.lemmas.List.Elements.{filter-append}
use Rattle.protobuf_parse_rules.specs.Claims.{Claim, Rules, conflict, conflicts, first_claim}
use Rattle.protobuf_parse_rules.specs.Claims.{same_thing}
use Rattle.protobuf_parse_rules.proofs.Counting.{nil_left, nil_right}

-- ---- lists of what passes a test

pub kept_head : {X : Type 0} (p : X → Bool) (x : X) (xs : List X) → p x ≡ true
    → filter p (x ∷ xs) ≡ x ∷ filter p xs
kept_head p x xs e = ap (λ b. cond b (x ∷ filter p xs) (filter p xs)) e

pub left_head : {X : Type 0} (p : X → Bool) (x : X) (xs : List X) → p x ≡ false
    → filter p (x ∷ xs) ≡ filter p xs
left_head p x xs e = ap (λ b. cond b (x ∷ filter p xs) (filter p xs)) e

kept_last : {X : Type 0} (p : X → Bool) (xs : List X) (x : X) → p x ≡ true
    → filter p (xs ++ x ∷ []) ≡ filter p xs ++ x ∷ []
kept_last p xs x e = filter-append p xs (x ∷ []) ∙ ap (λ ys. filter p xs ++ ys) (kept_head p x [] e)

left_last : {X : Type 0} (p : X → Bool) (xs : List X) (x : X) → p x ≡ false
    → filter p (xs ++ x ∷ []) ≡ filter p xs
left_last p xs x e = filter-append p xs (x ∷ []) ∙ ap (λ ys. filter p xs ++ ys) (left_head p x [] e)
    ∙ append-nil (filter p xs)

-- nothing is left where nothing passes
pub none_kept : {X : Type 0} (p : X → Bool) (xs : List X) → list_any p xs ≡ false → filter p xs ≡ []
none_kept p [] e = refl
none_kept p (x ∷ xs) e = at (p x) refl e (none_kept p xs)
  where
    at : (b : Bool) → p x ≡ b → (b || list_any p xs) ≡ false
        → (list_any p xs ≡ false → filter p xs ≡ []) → filter p (x ∷ xs) ≡ []
    at true pass h more = absurd cc
    at false fails h more = left_head p x xs fails ∙ more h

-- ---- claims

-- the first claim of a thing, among those that pass a test which this thing passes
first_kept : (q : Claim → Bool)
    → ((a b : Claim) → same_thing a.thing b.thing ≡ true → q a ≡ q b)
    → (before : List Claim) (c : Claim) → q c ≡ true
    → first_claim (filter q before) c.thing ≡ first_claim before c.thing
first_kept q alike [] c e = refl
first_kept q alike (b ∷ bs) c e = at (q b) refl (first_kept q alike bs c e)
  where
    apart : q b ≡ false → same_thing b.thing c.thing ≡ false
    apart fails = elim (cases_Bool (same_thing b.thing c.thing)) [
      | inl same ↦ let never = sym fails ∙ alike b c same ∙ e in absurd cc
      | inr other ↦ other
    ]

    at : (t : Bool) → q b ≡ t → first_claim (filter q bs) c.thing ≡ first_claim bs c.thing
        → first_claim (filter q (b ∷ bs)) c.thing ≡ first_claim (b ∷ bs) c.thing
    at true pass more =
        ap (λ cs. first_claim cs c.thing) (kept_head q b bs pass)
        ∙ ap (λ o. cond (same_thing b.thing c.thing) (Some b) o) more
    at false fails more =
        ap (λ cs. first_claim cs c.thing) (left_head q b bs fails)
        ∙ more
        ∙ sym (ap (λ t. cond t (Some b) (first_claim bs c.thing)) (apart fails))

module _ (rules : Rules) (p : Claim → Bool)
    (alike : (a b : Claim) → same_thing a.thing b.thing ≡ true → p a ≡ p b) where
  abbrev fails_test : Claim → Bool
  fails_test c = not (p c)

  unlike : (a b : Claim) → same_thing a.thing b.thing ≡ true → fails_test a ≡ fails_test b
  unlike a b e = ap not (alike a b e)

  -- Where the others are in no conflict, the conflicts are those of what passes the test.
  pub parted : (before cs : List Claim)
      → conflicts rules (filter fails_test before) (filter fails_test cs) ≡ []
      → conflicts rules before cs ≡ conflicts rules (filter p before) (filter p cs)
  parted before [] none = refl
  parted before (c ∷ cs) none = at (p c) refl (parted (before ++ c ∷ []) cs)
    where
      at : (b : Bool) → p c ≡ b
          → (conflicts rules (filter fails_test (before ++ c ∷ [])) (filter fails_test cs) ≡ []
          → conflicts rules (before ++ c ∷ []) cs
          ≡ conflicts rules (filter p (before ++ c ∷ [])) (filter p cs))
          → conflicts rules before (c ∷ cs) ≡ conflicts rules (filter p before) (filter p (c ∷ cs))
      at true pass next =
          let left : fails_test c ≡ false = ap not pass in
          let others : conflicts rules (filter fails_test (before ++ c ∷ []))
          (filter fails_test cs) ≡ [] =
          ap (λ bs. conflicts rules bs (filter fails_test cs)) (left_last fails_test before c left)
          ∙ ap (conflicts rules (filter fails_test before)) (sym (left_head fails_test c cs left))
          ∙ none in
          ap (λ bs. conflict rules c (first_claim before c.thing) ++ bs) (next others)
          ∙ ap (λ bs. conflict rules c (first_claim before c.thing)
          ++ conflicts rules bs (filter p cs)) (kept_last p before c pass)
          ∙ ap (λ o. conflict rules c o ++ conflicts rules (filter p before ++ c ∷ []) (filter p cs))
          (sym (first_kept p alike before c pass))
          ∙ ap (conflicts rules (filter p before)) (sym (kept_head p c cs pass))
      at false fails next =
          let kept : fails_test c ≡ true = ap not fails in
          let whole : conflict rules c (first_claim (filter fails_test before) c.thing)
          ++ conflicts rules (filter fails_test before ++ c ∷ []) (filter fails_test cs) ≡ [] =
          ap (conflicts rules (filter fails_test before)) (sym (kept_head fails_test c cs kept))
          ∙ none in
          let here : conflict rules c (first_claim before c.thing) ≡ [] =
          ap (conflict rules c) (sym (first_kept fails_test unlike before c kept))
          ∙ nil_left (conflict rules c (first_claim (filter fails_test before) c.thing))
          (conflicts rules (filter fails_test before ++ c ∷ []) (filter fails_test cs)) whole in
          let others : conflicts rules (filter fails_test (before ++ c ∷ []))
          (filter fails_test cs) ≡ [] =
          ap (λ bs. conflicts rules bs (filter fails_test cs)) (kept_last fails_test before c kept)
          ∙ nil_right (conflict rules c (first_claim (filter fails_test before) c.thing))
          (conflicts rules (filter fails_test before ++ c ∷ []) (filter fails_test cs)) whole in
          ap (λ bs. bs ++ conflicts rules (before ++ c ∷ []) cs) here
          ∙ next others
          ∙ ap (λ bs. conflicts rules bs (filter p cs)) (left_last p before c fails)
          ∙ ap (conflicts rules (filter p before)) (sym (left_head p c cs fails))
