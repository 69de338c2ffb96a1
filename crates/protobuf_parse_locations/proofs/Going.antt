-- Declarations that a loop adds, one item after another.
use Rattle.std.proofs.Common.{◌≡◌, ◌∙◌, ℕ, suc, ◌+◌, ◌<◌, ◌≤◌, List, [], ◌∷◌, ◌++◌, map, drop}
use Rattle.std.proofs.Common.{length, get_or, sym, ap, append-nil, append_assoc, add-one}
use Rattle.std.proofs.Math.ListN.{drop_of_length-le}
use Rattle.std.proofs.Math.Seq.{drop-cons}
use Rattle.protobuf_parse_model.specs.Descriptors.{Text}
use Rattle.protobuf_parse_source_info.specs.Parts.{next, nth}
use Rattle.protobuf_parse_source_info.specs.Walks.{Path}
use Rattle.protobuf_parse_locations.specs.Adds.{Adds}
use Rattle.protobuf_parse_locations.specs.Declarations.{DeclarationAt, items, named}
use Rattle.protobuf_parse_locations.specs.Views.{declaration_view}
use Rattle.protobuf_parse_locations.specs.declared.declaration.Declaration.{Declaration}
use Rattle.protobuf_parse_locations.specs.declared.declaration.DeclarationKind.{DeclarationKind}

-- What is there now, and what is still to come, is what was there at first and all that comes.
pub record Going (first now : List Declaration) (rest all : List DeclarationAt) : Type 0 where
  pub same : map declaration_view now ++ rest ≡ map declaration_view first ++ all

-- some more were added
pub some_more : (first now new : List Declaration) (here rest all : List DeclarationAt)
    → Going first now (here ++ rest) all → Adds now new here → Going first new rest all
some_more first now new here rest all g a = record {
  same = ap (λ z. z ++ rest) a.all ∙ append_assoc (map declaration_view now) here rest ∙ g.same;
}

-- nothing is to come
pub all_added : (first now : List Declaration) (all : List DeclarationAt) → Going first now [] all
    → Adds first now all
all_added first now all g = record {
  all = sym (append-nil (map declaration_view now)) ∙ g.same;
}

-- some, and then more
pub adds_more : (a b c : List Declaration) (xs ys : List DeclarationAt) → Adds a b xs → Adds b c ys
    → Adds a c (xs ++ ys)
adds_more a b c xs ys first second = record {
  all = second.all ∙ ap (λ z. z ++ ys) first.all
      ∙ append_assoc (map declaration_view a) xs ys;
}

-- by equal lists
pub adds_alike : (a b : List Declaration) (xs ys : List DeclarationAt) → Adds a b xs → xs ≡ ys
    → Adds a b ys
adds_alike a b xs ys adds same = record {
  all = adds.all ∙ ap (λ z. map declaration_view a ++ z) same;
}

-- by an equal name and an equal path
pub adds_named : (a b : List Declaration) (k : DeclarationKind) (scope name is : Text)
    (p here : Path) → Adds a b (named k scope name p ∷ []) → name ≡ is → p ≡ here
    → Adds a b (named k scope is here ∷ [])
adds_named a b k scope name is p here adds e f =
    adds_alike a b _ _ adds
    (ap (λ (t : Text). named k scope t p ∷ []) e ∙ ap (λ (q : Path). named k scope is q ∷ []) f)

-- those behind one of a list
pub drop_more : {T : Type 0} (xs : List T) (k : ℕ) (x : T) → k < length xs → x ≡ get_or xs k x
    → drop k xs ≡ x ∷ drop (k + 1) xs
drop_more xs k x lt is = rw add-one
    (drop-cons xs k x lt ∙ ap (λ y. y ∷ drop (suc k) xs) (sym is))

module _ {T X : Type 0} (view : T → X) (what : Path → X → List DeclarationAt) (p : Path) (n : ℕ)
  where
    -- what the items behind so many declare
    abbrev pub behind : ℕ → ℕ → List T → List DeclarationAt
    behind i k xs = items what p n i (map view (drop k xs))

    pub item_added : (first now new : List Declaration) (i j k : ℕ) (xs : List T) (x : T)
        (all : List DeclarationAt) → k < length xs → x ≡ get_or xs k x
        → Going first now (behind i k xs) all → Adds now new (what (nth p n i) (view x))
        → j ≡ next i → Going first new (behind j (k + 1) xs) all
    item_added first now new i j k xs x all lt is g a to =
        some_more first now new (what (nth p n i) (view x)) (behind j (k + 1) xs) all
        (record {
          same = ap (λ (z : List DeclarationAt). map declaration_view now ++ z)
              (ap (λ (m : ℕ). what (nth p n i) (view x) ++ behind m (k + 1) xs) to
              ∙ sym (ap (λ (ys : List T). items what p n i (map view ys))
              (drop_more xs k x lt is)))
              ∙ g.same;
        }) a

    pub items_added : (first now : List Declaration) (i k : ℕ) (xs : List T)
        (all : List DeclarationAt) → length xs ≤ k → Going first now (behind i k xs) all
        → Adds first now all
    items_added first now i k xs all past g = all_added first now all (record {
      same = ap (λ (ys : List T). map declaration_view now ++ items what p n i (map view ys))
          (sym (drop_of_length-le xs past))
          ∙ g.same;
    })
