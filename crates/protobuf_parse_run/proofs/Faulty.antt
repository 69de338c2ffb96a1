-- Whether one of some files is such, by their paths and by their numbers.
use Rattle.std.proofs.Common.{arith}
use Rattle.std.proofs.Common.{◌≡◌, inl, inr, ℕ, Bool, true, false, List, [], ◌∷◌}
use Rattle.std.proofs.Common.{Option, Some, None, option_map, refl, sym, ◌∙◌, subst}
use Rattle.std.proofs.Common.{Contains}
use Rattle.std.specs.Prelude.{bytes_eq, slice_get}
use Rattle.std.specs.List.{list_any}
use Rattle.std.proofs.lemmas.Option.{slice_get-map}
use Rattle.std.proofs.lemmas.List.Elements.{Contains-append_cases, Contains-append_left}
use Rattle.std.proofs.lemmas.List.Elements.{Contains-append_right}
use Rattle.protobuf_parse_model.specs.Descriptors.{Text}
use Rattle.protobuf_parse_run.specs.Walks.{among}
use Rattle.protobuf_parse_run.specs.Loading.{LoadedEntry, Named, named_trees}
use Rattle.protobuf_parse_run.proofs.Keeping.{or_cases, or_left, or_right, text-same, text-true}
use Rattle.protobuf_parse_run.proofs.Numbers.{name_of, only-one}

pub same-bool : (a b : Bool) → (a ≡ true → b ≡ true) → (b ≡ true → a ≡ true) → a ≡ b
same-bool true true h k = refl
same-bool true false h k = sym (h refl)
same-bool false true h k = k refl
same-bool false false h k = refl

-- ** by paths

pub text-any : (test : Text → Bool) (xs : List Text) → list_any test xs ≡ true
    → (q : Text) × (among q xs ≡ true) × (test q ≡ true)
text-any test [] h = cc
text-any test (x ∷ xs) h =
    elim (or_cases (test x) (list_any test xs) h) [
      | inl w ↦ (x, or_left (bytes_eq x x) (among x xs) (text-same x), w)
      | inr w ↦ let r = text-any test xs w in
          (r.0, or_right (bytes_eq r.0 x) (among r.0 xs) r.1, r.2)
    ]

pub any-text : (test : Text → Bool) (xs : List Text) (q : Text) → among q xs ≡ true
    → test q ≡ true → list_any test xs ≡ true
any-text test [] q m h = cc
any-text test (x ∷ xs) q m h =
    elim (or_cases (bytes_eq q x) (among q xs) m) [
      | inl w ↦ or_left (test x) (list_any test xs)
          (subst (λ (z : Text). test z ≡ true) (text-true q x w) h)
      | inr w ↦ or_right (test x) (list_any test xs) (any-text test xs q w h)
    ]

-- ** by numbers

none-in : (n : ℕ) → Contains [] n → ⊥
none-in n (k, lt, is) = omega (arith, lt)

pub number-any : (test : ℕ → Bool) (ns : List ℕ) → list_any test ns ≡ true
    → (n : ℕ) × Contains ns n × (test n ≡ true)
number-any test [] h = cc
number-any test (n ∷ ns) h =
    elim (or_cases (test n) (list_any test ns) h) [
      | inl w ↦ (n, Contains-append_left (n ∷ []) ns n (0, omega arith, refl), w)
      | inr w ↦ let r = number-any test ns w in
          (r.0, Contains-append_right (n ∷ []) ns r.0 r.1, r.2)
    ]

pub any-number : (test : ℕ → Bool) (ns : List ℕ) (n : ℕ) → Contains ns n → test n ≡ true
    → list_any test ns ≡ true
any-number test [] n c h = absurd (none-in n c)
any-number test (m ∷ ns) n c h =
    elim (Contains-append_cases (m ∷ []) ns n c) [
      | inl w ↦ or_left (test m) (list_any test ns)
          (subst (λ (k : ℕ). test k ≡ true) (only-one m n w) h)
      | inr w ↦ or_right (test m) (list_any test ns) (any-number test ns n w h)
    ]

-- ** loaded files

-- the loaded file that has this name and tree
pub entry-at : (loaded : List LoadedEntry) (n : ℕ) (f : Named)
    → slice_get (named_trees loaded) n ≡ Some f
    → (e : LoadedEntry) × (slice_get loaded n ≡ Some e) × (name_of e ≡ f)
entry-at loaded n f h = out (slice_get loaded n) refl (sym (slice_get-map name_of loaded n) ∙ h)
  where
    some_is : (a b : Named) → Some a ≡ Some b → a ≡ b
    some_is a b h = cc

    out : (o : Option LoadedEntry) → slice_get loaded n ≡ o → option_map name_of o ≡ Some f
        → (e : LoadedEntry) × (slice_get loaded n ≡ Some e) × (name_of e ≡ f)
    out None is k = cc
    out (Some e) is k = (e, is, some_is (name_of e) f k)
