-- Names of which none stands among those before it: one alone, and those whose keys differ.
use Rattle.std.proofs.Common.{◌≡◌, ℕ, ◌<◌, List, [], ◌∷◌, ◌++◌, false, map, length}
use Rattle.std.proofs.Common.{refl, sym, ap, subst, ◌∙◌, append_assoc, arith, inl, inr}
use Rattle.std.proofs.Math.Dec.{eqb}
use Rattle.std.specs.Prelude.{bytes_eq}
use Rattle.std.specs.List.{IsDistinct, AllByRecursion}
use Rattle.std.proofs.lemmas.Bool.{cases_Bool, or_from, eqb-false}
use Rattle.std.proofs.lemmas.Slice.Eq.{bytes_eq-Decides}
use Rattle.std.proofs.lemmas.Map.Keys.{IsDistinct-head, IsDistinct-tail}
use Rattle.protobuf_parse_model.specs.declared.error.ElabErrorKind.TheVariants.{DuplicateName}
use Rattle.protobuf_parse_model.specs.Descriptors.{Text}
use Rattle.protobuf_parse_model.specs.Duplicates.{NamedAt, stands_in, fault_when, repeats_after}
use Rattle.protobuf_parse_model.specs.Duplicates.{duplicates}
use Rattle.protobuf_parse_model.specs.Faults.{placed}
use Rattle.protobuf_parse_elaboration.proofs.Told.{names_of}

-- one name alone stands nowhere before itself
pub few_unlike : {A : Type 0} (name : A → Text) (items : List A) → length items < 2
    → (declared : List NamedAt) → map name items ≡ names_of declared → duplicates declared ≡ []
few_unlike name items few [] h = refl
few_unlike name items few (a ∷ []) h = refl
few_unlike name [] few (a ∷ b ∷ declared) h = absurd cc
few_unlike name (x ∷ []) few (a ∷ b ∷ declared) h = absurd cc
few_unlike name (x ∷ y ∷ items) few (a ∷ b ∷ declared) h = absurd (omega arith)

-- ---- keys that differ

texts_differ : (key : Text → ℕ) (a b : Text) → eqb (key a) (key b) ≡ false → bytes_eq a b ≡ false
texts_differ key a b h =
    elim (cases_Bool (bytes_eq a b)) [
      | inl same ↦ absurd (eqb-false (key a) (key b) h (ap key ((bytes_eq-Decides a b).0 same)))
      | inr other ↦ other
    ]

holds_of : (key : Text → ℕ) (P : ℕ → Type 0) (before xs : List Text) (x : Text)
    → AllByRecursion P (map key (before ++ x ∷ xs)) → P (key x)
holds_of key P [] xs x h = h.0
holds_of key P (b ∷ bs) xs x h = holds_of key P bs xs x h.1

-- a name whose key differs from those before it does not stand among them
stands_alone : (key : Text → ℕ) (before xs : List Text) (x : Text)
    → IsDistinct eqb (map key (before ++ x ∷ xs)) → stands_in x before ≡ false
stands_alone key [] xs x h = refl
stands_alone key (b ∷ bs) xs x h =
    or_from (bytes_eq b x) (stands_in x bs)
    (texts_differ key b x (holds_of key (λ y. eqb (key b) y ≡ false) bs xs x
    (IsDistinct-head eqb (key b) (map key (bs ++ x ∷ xs)) h)))
    (stands_alone key bs xs x (IsDistinct-tail eqb (key b) (map key (bs ++ x ∷ xs)) h))

none_again : (key : Text → ℕ) (before : List Text) (xs : List NamedAt)
    → IsDistinct eqb (map key (before ++ names_of xs)) → repeats_after before xs ≡ []
none_again key before [] h = refl
none_again key before (x ∷ xs) h =
    ap (λ b. placed x.place (fault_when b DuplicateName x.name)
    ++ repeats_after (before ++ x.name ∷ []) xs)
    (stands_alone key before (names_of xs) x.name h)
    ∙ none_again key (before ++ x.name ∷ []) xs
    (subst (λ ts. IsDistinct eqb (map key ts))
    (sym (append_assoc before (x.name ∷ []) (names_of xs))) h)

keys_are : {A : Type 0} (key : Text → ℕ) (name : A → Text) (items : List A)
    → map (λ x. key (name x)) items ≡ map key (map name items)
keys_are key name [] = refl
keys_are key name (x ∷ items) = ap (λ keys. key (name x) ∷ keys) (keys_are key name items)

pub unlike : {A : Type 0} (key : Text → ℕ) (name : A → Text) (items : List A) (keys : List ℕ)
    → keys ≡ map (λ x. key (name x)) items → IsDistinct eqb keys → (declared : List NamedAt)
    → map name items ≡ names_of declared → duplicates declared ≡ []
unlike key name items keys e apart declared named =
    none_again key [] declared
    (subst (IsDistinct eqb) (e ∙ keys_are key name items ∙ ap (map key) named) apart)
