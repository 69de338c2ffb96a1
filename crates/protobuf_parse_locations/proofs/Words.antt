-- The first word of a line, and lists of comments.
use Rattle.std.proofs.Common.{◌≡◌, Bool, true, false, cond, List, [], ◌∷◌, map, refl, ap}
use Rattle.std.specs.Prelude.{◌||◌, Option, Some, None, find, filter, bytes_eq, codes}
use Rattle.std.specs.List.{list_any}
use Rattle.protobuf_parse_lexer.specs.Text.{Bytes}
use Rattle.protobuf_parse_locations.specs.Ignoring.{begin_with_ignore}

-- whether there is a word, and it is the one that asks
abbrev pub asks_first : Option Bytes → Bool
asks_first None = false
asks_first (Some first) = bytes_eq first (codes "lint:ignore")

by_test : (b : Bool) (w : Bytes) (kept : List Bytes) (rest : Option Bytes)
    → begin_with_ignore kept ≡ asks_first rest
    → begin_with_ignore (cond b (w ∷ kept) kept) ≡ asks_first (cond b (Some w) rest)
by_test true w kept rest e = refl
by_test false w kept rest e = e

-- the first that passes is the first of those that pass
pub first_word : (test : Bytes → Bool) (ws : List Bytes)
    → begin_with_ignore (filter test ws) ≡ asks_first (find test ws)
first_word test [] = refl
first_word test (w ∷ ws) =
    by_test (test w) w (filter test ws) (find test ws) (first_word test ws)

-- whether any passes, of a list that is mapped
pub list_any_map : {X Y : Type 0} (f : X → Y) (test : Y → Bool) (xs : List X)
    → list_any (λ (x : X). test (f x)) xs ≡ list_any test (map f xs)
list_any_map f test [] = refl
list_any_map f test (x ∷ xs) = ap (λ b. test (f x) || b) (list_any_map f test xs)
