-- What the maps of a file's declarations and locations have.
use Rattle.std.specs.Prelude.{ℕ, suc, Bool, List, [], ◌∷◌, Vec, Option, Some, None, option_map}
use Rattle.std.specs.Prelude.{if◌then◌else◌}
use Rattle.std.specs.BTreeMap.{BTreeMap, get, get_by}
use Rattle.std.specs.Cmp.Lexicographic.{slice_cmp}
use Rattle.std.specs.Global.{Global}
use Rattle.std.specs.Option.{option_and_then}
use Rattle.std.specs.Ordering.{nat_cmp}
use Rattle.protobuf_parse_source_info.specs.Walks.{Path}

-- the position of the first element that passes
abbrev pub first_at : {X : Type 0} → (X → Bool) → List X → Option ℕ
first_at test [] = None
first_at test (x ∷ xs) = if test x then Some 0 else option_map suc (first_at test xs)

-- positions by paths
abbrev pub ByPath : Type 0
ByPath = BTreeMap (Vec ℕ Global) ℕ

-- the position that a map has for a path
abbrev pub path_kept : ByPath → Path → Option ℕ
path_kept m p = get_by (λ (k : Vec ℕ Global). slice_cmp nat_cmp p k.items) m

-- positions by the last numbers of paths, and then by what stands before them
abbrev pub ByPart : Type 0
ByPart = BTreeMap ℕ ByPath

-- the position that a map has for a path with a number behind it
abbrev pub part_kept : ByPart → Path → ℕ → Option ℕ
part_kept m p n = option_and_then (λ (inside : ByPath). path_kept inside p) (get nat_cmp m n)
