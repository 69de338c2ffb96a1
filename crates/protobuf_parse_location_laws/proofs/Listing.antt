-- Lists of declarations that walks find, item by item.
use Rattle.std.proofs.Common.{◌≡◌, ℕ, List, [], ◌∷◌, ◌++◌, refl, ap, ◌∙◌}
use Rattle.protobuf_parse_source_info.specs.Declarations.{past_items}
use Rattle.protobuf_parse_source_info.specs.Parts.{next, nth}
use Rattle.protobuf_parse_source_info.specs.Walks.{Ahead, Path, Walk, empties, seeing, ◌>>◌}
use Rattle.protobuf_parse_locations.specs.Declarations.{DeclarationAt, items}
use Rattle.protobuf_parse_location_laws.proofs.Walking.{TellsAll, Within, all_seeing, all_within}
use Rattle.protobuf_parse_location_laws.proofs.Walking.{both, first_within, none_told}
use Rattle.protobuf_parse_location_laws.proofs.Walking.{second_within, within_within}

-- what an item declares, by its own path
abbrev pub What : Type 0 → Type 0
What X = Path → X → List DeclarationAt

abbrev Listed : {X : Type 0} → What X → Path → ℕ → ℕ → List X → Walk → Type 0
Listed what p n i [] w = Unit {0}
Listed what p n i (x ∷ xs) w = TellsAll (what (nth p n i) x) w × Listed what p n (next i) xs w

-- A walk finds what the items of a list declare, from an index on; it is field `n` of what stands
-- at a path.
pub record Lists {X : Type 0} (what : What X) (p : Path) (n i : ℕ) (xs : List X) (w : Walk) :
    Type 0 where
  pub each : Listed what p n i xs w

-- The same, and the index behind them is `j`.
pub record ListsUpTo {X : Type 0} (what : What X) (p : Path) (n i j : ℕ) (xs : List X) (w : Walk) :
    Type 0 where
  pub counted : past_items i xs ≡ j
  pub lists : Lists what p n i xs w

-- ---- lists without an item, and with one

pub no_items : {X : Type 0} (what : What X) (p : Path) (n i : ℕ) (w : Walk)
    → Lists what p n i [] w
no_items what p n i w = record { each = tt }

pub up_to_itself : {X : Type 0} (what : What X) (p : Path) (n i : ℕ) (w : Walk)
    → ListsUpTo what p n i i [] w
up_to_itself what p n i w = record { counted = refl; lists = no_items what p n i w }

pub one_item : {X : Type 0} (what : What X) (p : Path) (n i : ℕ) (x : X) (w : Walk)
    → TellsAll (what (nth p n i) x) w → ListsUpTo what p n i (next i) (x ∷ []) w
one_item what p n i x w t = record { counted = refl; lists = record { each = (t, tt) } }

-- ---- in other walks

listed_within : {X : Type 0} (what : What X) (p : Path) (n i : ℕ) (xs : List X) (v w : Walk)
    → Within v w → Listed what p n i xs v → Listed what p n i xs w
listed_within what p n i [] v w in_w l = tt
listed_within what p n i (x ∷ xs) v w in_w l =
    (all_within in_w l.0, listed_within what p n (next i) xs v w in_w l.1)

pub lists_within : {X : Type 0} {what : What X} {p : Path} {n i : ℕ} {xs : List X} {v w : Walk}
    → Within v w → Lists what p n i xs v → Lists what p n i xs w
lists_within {what = what} {p = p} {n = n} {i = i} {xs = xs} {v = v} {w = w} in_w l =
    record { each = listed_within what p n i xs v w in_w l.each }

pub up_to_within : {X : Type 0} {what : What X} {p : Path} {n i j : ℕ} {xs : List X} {v w : Walk}
    → Within v w → ListsUpTo what p n i j xs v → ListsUpTo what p n i j xs w
up_to_within in_w l = record { counted = l.counted; lists = lists_within in_w l.lists }

listed_seeing : {X : Type 0} (what : What X) (p : Path) (n i : ℕ) (xs : List X)
    (w : Ahead → Walk) → ((a : Ahead) → Listed what p n i xs (w a))
    → Listed what p n i xs (seeing w)
listed_seeing what p n i [] w l = tt
listed_seeing what p n i (x ∷ xs) w l =
    (all_seeing w (λ a. (l a).0), listed_seeing what p n (next i) xs w (λ a. (l a).1))

pub lists_seeing : {X : Type 0} {what : What X} {p : Path} {n i : ℕ} {xs : List X}
    (w : Ahead → Walk) → ((a : Ahead) → Lists what p n i xs (w a)) → Lists what p n i xs (seeing w)
lists_seeing {what = what} {p = p} {n = n} {i = i} {xs = xs} w l =
    record { each = listed_seeing what p n i xs w (λ a. (l a).each) }

-- ---- one after another

listed_joined : {X : Type 0} (what : What X) (p : Path) (n i : ℕ) (xs ys : List X) (w : Walk)
    → Listed what p n i xs w → Listed what p n (past_items i xs) ys w
    → Listed what p n i (xs ++ ys) w
listed_joined what p n i [] ys w s t = t
listed_joined what p n i (x ∷ xs) ys w s t =
    (s.0, listed_joined what p n (next i) xs ys w s.1 t)

past_joined : {X : Type 0} (i : ℕ) (xs ys : List X)
    → past_items i (xs ++ ys) ≡ past_items (past_items i xs) ys
past_joined i [] ys = refl
past_joined i (x ∷ xs) ys = past_joined (next i) xs ys

pub joined : {X : Type 0} {what : What X} {p : Path} {n i j : ℕ} {xs ys : List X} {w : Walk}
    → ListsUpTo what p n i j xs w → Lists what p n j ys w → Lists what p n i (xs ++ ys) w
joined {what = what} {p = p} {n = n} {i = i} {xs = xs} {ys = ys} {w = w} s t = record {
  each = listed_joined what p n i xs ys w s.lists.each
      (rw s.counted t.each);
}

pub up_to_joined : {X : Type 0} {what : What X} {p : Path} {n i j k : ℕ} {xs ys : List X}
    {w : Walk} → ListsUpTo what p n i j xs w → ListsUpTo what p n j k ys w
    → ListsUpTo what p n i k (xs ++ ys) w
up_to_joined {i = i} {xs = xs} {ys = ys} s t = record {
  counted = past_joined i xs ys ∙ ap (λ h. past_items h ys) s.counted ∙ t.counted;
  lists = joined s t.lists;
}

-- ---- the statements of a body, with empty ones between them

pub statement_within : (s ss : Walk) → Within s (empties >> s >> ss)
statement_within s ss =
    within_within (second_within empties s) (first_within (empties >> s) ss)

pub statements_within : (s ss : Walk) → Within ss (empties >> s >> ss)
statements_within s ss = second_within (empties >> s) ss

pub behind_statement : {X : Type 0} {what : What X} {p : Path} {n i j : ℕ} {xs ys : List X}
    (s ss : Walk) → ListsUpTo what p n i j xs s → Lists what p n j ys ss
    → Lists what p n i (xs ++ ys) (empties >> s >> ss)
behind_statement s ss f g =
    joined (up_to_within (statement_within s ss) f) (lists_within (statements_within s ss) g)

pub up_to_statement : {X : Type 0} {what : What X} {p : Path} {n i j k : ℕ} {xs ys : List X}
    (s ss : Walk) → ListsUpTo what p n i j xs s → ListsUpTo what p n j k ys ss
    → ListsUpTo what p n i k (xs ++ ys) (empties >> s >> ss)
up_to_statement s ss f g =
    up_to_joined (up_to_within (statement_within s ss) f) (up_to_within (statements_within s ss) g)

-- ---- as `items` has them

all_items : {X : Type 0} (what : What X) (p : Path) (n i : ℕ) (xs : List X) (w : Walk)
    → Listed what p n i xs w → TellsAll (items what p n i xs) w
all_items what p n i [] w l = none_told w
all_items what p n i (x ∷ xs) w l = both l.0 (all_items what p n (next i) xs w l.1)

pub items_told : {X : Type 0} {what : What X} {p : Path} {n i : ℕ} {xs : List X} {w : Walk}
    → Lists what p n i xs w → TellsAll (items what p n i xs) w
items_told {what = what} {p = p} {n = n} {i = i} {xs = xs} {w = w} l =
    all_items what p n i xs w l.each
