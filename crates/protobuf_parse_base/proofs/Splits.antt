-- The parts of a list between separators, and the list that they make again.
use Rattle.std.proofs.Common.{◌≡◌, ◌++◌, List, [], ◌∷◌, Bool, true, refl, ◌∙◌, inl, inr}
use Rattle.std.proofs.lemmas.Bool.{cases_Bool}
use Rattle.std.proofs.lemmas.List.Splits.{slice_split-cons_yes, slice_split-cons_no}
use Rattle.std.specs.List.{onto_first, slice_split}

-- a split has a first part
pub record HasFirst {X : Type 0} (parts : List (List X)) : Type 0 where
  pub first : List X
  pub others : List (List X)
  pub is : parts ≡ first ∷ others

onto_first-HasFirst : {X : Type 0} (x : X) (parts : List (List X)) → HasFirst (onto_first x parts)
onto_first-HasFirst x [] = record { first = x ∷ []; others = []; is = refl }
onto_first-HasFirst x (part ∷ parts) = record { first = x ∷ part; others = parts; is = refl }

pub slice_split-HasFirst : {X : Type 0} (p : X → Bool) (xs : List X) → HasFirst (slice_split p xs)
slice_split-HasFirst p [] = record { first = []; others = []; is = refl }
slice_split-HasFirst p (x ∷ xs) =
    elim (cases_Bool (p x)) [
      | inl cut ↦ record {
        first = [];
        others = slice_split p xs;
        is =
            slice_split-cons_yes p x xs cut;
      }
      | inr kept ↦
          let parts = onto_first-HasFirst x (slice_split p xs) in
          record {
            first = parts.first;
            others = parts.others;
            is = slice_split-cons_no p x xs kept
                ∙ parts.is;
          }
    ]

-- an element more in the first part of two lists of parts
onto_first-append : {X : Type 0} (x : X) (parts more : List (List X)) → HasFirst parts
    → onto_first x (parts ++ more) ≡ onto_first x parts ++ more
onto_first-append x [] more h = cc h.is
onto_first-append x (part ∷ parts) more h = refl

-- a list that is cut at a separator has the parts of both pieces
pub slice_split-append : {X : Type 0} (p : X → Bool) (xs : List X) (y : X) (ys : List X)
    → p y ≡ true
    → slice_split p (xs ++ y ∷ ys) ≡ slice_split p xs ++ slice_split p ys
slice_split-append p [] y ys h = slice_split-cons_yes p y ys h
slice_split-append p (x ∷ xs) y ys h =
    let rest : slice_split p (xs ++ y ∷ ys) ≡ slice_split p xs
    ++ slice_split p ys = slice_split-append p xs y ys h in
    elim (cases_Bool (p x)) [
      | inl cut ↦ rw (
        slice_split-cons_yes p x (xs ++ y ∷ ys) cut,
        slice_split-cons_yes p x xs cut,
        rest,
      ) refl
      | inr kept ↦ rw (
        slice_split-cons_no p x (xs ++ y ∷ ys) kept,
        slice_split-cons_no p x xs kept,
        rest,
      )
          (onto_first-append x (slice_split p xs) (slice_split p ys) (slice_split-HasFirst p xs))
    ]
