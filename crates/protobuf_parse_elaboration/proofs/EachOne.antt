-- What holds for each member of a list, and lists that are empty together.
use Rattle.std.proofs.Common.{◌≡◌, List, [], ◌∷◌, ◌++◌, map}
use Rattle.std.proofs.Common.{flat_map}
use Rattle.std.proofs.Common.{refl}
use Rattle.std.specs.List.{AllByRecursion}
use Rattle.protobuf_parse_model.specs.Descriptors.{Text}
use Rattle.protobuf_parse_model.specs.Faults.{Among, here, there, Fault}

-- ---- lists

-- of two lists that are empty together the first is empty
pub no-left : {A : Type 0} (xs ys : List A) → xs ++ ys ≡ [] → xs ≡ []
no-left [] ys h = refl
no-left (x ∷ xs) ys h = absurd cc

-- and so is the second
pub no-right : {A : Type 0} (xs ys : List A) → xs ++ ys ≡ [] → ys ≡ []
no-right [] ys h = h
no-right (x ∷ xs) ys h = absurd cc

-- what holds of each of two lists together holds of each of the first
pub all-left : {A : Type 0} (P : A → Type 0) (xs ys : List A) → AllByRecursion P (xs ++ ys)
    → AllByRecursion P xs
all-left P [] ys h = tt
all-left P (x ∷ xs) ys h = (h.0, all-left P xs ys h.1)

-- and of each of the second
pub all-right : {A : Type 0} (P : A → Type 0) (xs ys : List A) → AllByRecursion P (xs ++ ys)
    → AllByRecursion P ys
all-right P [] ys h = h
all-right P (x ∷ xs) ys h = all-right P xs ys h.1

-- what holds of each of two lists holds of each of both together
pub all-both : {A : Type 0} (P : A → Type 0) (xs ys : List A) → AllByRecursion P xs
    → AllByRecursion P ys → AllByRecursion P (xs ++ ys)
all-both P [] ys h k = k
all-both P (x ∷ xs) ys h k = (h.0, all-both P xs ys h.1 k)

-- what holds of all that each element becomes holds of all that the list becomes
pub all-flat : {A B : Type 0} (Q : B → Type 0) (f : A → List B) (P : A → Type 0)
    → ((x : A) → P x → AllByRecursion Q (f x)) → (xs : List A) → AllByRecursion P xs
    → AllByRecursion Q (flat_map f xs)
all-flat Q f P each [] h = tt
all-flat Q f P each (x ∷ xs) h =
    all-both Q (f x) (flat_map f xs) (each x h.0) (all-flat Q f P each xs h.1)

-- the same where each becomes one
pub all-map : {A B : Type 0} (Q : B → Type 0) (f : A → B) (P : A → Type 0)
    → ((x : A) → P x → Q (f x)) → (xs : List A) → AllByRecursion P xs → AllByRecursion Q (map f xs)
all-map Q f P each [] h = tt
all-map Q f P each (x ∷ xs) h = (each x h.0, all-map Q f P each xs h.1)

-- what holds of each holds of one that stands there
pub all-among : {A : Type 0} (P : A → Type 0) {xs : List A} {x : A} → Among xs x
    → AllByRecursion P xs → P x
all-among P here h = h.0
all-among P (there k) h = all-among P k h.1

-- what holds of all that stand there holds of each
pub all-from : {A : Type 0} (P : A → Type 0) (xs : List A) → ((x : A) → Among xs x → P x)
    → AllByRecursion P xs
all-from P [] f = tt
all-from P (x ∷ xs) f = (f x here, all-from P xs (λ y k. f y (there k)))

-- where no fault stands in a list, none stands in an element
pub none-each : {A : Type 0} (faults : A → List Fault) (xs : List A) → flat_map faults xs ≡ []
    → AllByRecursion (λ (x : A). faults x ≡ []) xs
none-each faults [] h = tt
none-each faults (x ∷ xs) h = (
  no-left (faults x) (flat_map faults xs) h,
  none-each faults xs (no-right (faults x) (flat_map faults xs) h),
)

-- no fault stands in it, and the names of what is generated behind it have the property
pub record IsClean {A : Type 0} (faults : A → List Fault) (P : Text → Type 0)
    (generated : A → List Text) (x : A) : Type 0 where
  pub none : faults x ≡ []
  pub each : AllByRecursion P (generated x)

-- what holds of a list in this way holds of each element
pub clean-each : {A : Type 0} (faults : A → List Fault) (P : Text → Type 0)
    (generated : A → List Text) (xs : List A) → flat_map faults xs ≡ []
    → AllByRecursion P (flat_map generated xs)
    → AllByRecursion (IsClean faults P generated) xs
clean-each faults P generated [] h k = tt
clean-each faults P generated (x ∷ xs) h k = (
  record {
    none = no-left (faults x) (flat_map faults xs) h;
    each =
        all-left P (generated x) (flat_map generated xs) k;
  },
  clean-each faults P generated xs (no-right (faults x) (flat_map faults xs) h)
      (all-right P (generated x) (flat_map generated xs) k),
)
