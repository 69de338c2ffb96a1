-- No public clause rests on this file.
-- What one declaration more makes of a map by hashes.
use Rattle.std.specs.Prelude.{◌≡◌, ◌⊎◌, ℕ, List, [], ◌∷◌, ◌++◌, Option, Some, if◌then◌else◌}
use Rattle.std.specs.Prelude.{bytes_eq}
use Rattle.std.specs.BTreeMap.{BTreeMap, get}
use Rattle.std.specs.Ordering.{nat_cmp}
use Rattle.protobuf_parse_model.specs.declared.scope.seen.Declaration.{Declaration}
use Rattle.protobuf_parse_model.specs.declared.scope.seen.OneHash.{OneHash}
use Rattle.protobuf_parse_model.specs.ByHash.{declared_by_hash, declared_of, hash_of}

-- the declarations of the full name in one map
abbrev pub declared_in_map : BTreeMap ℕ OneHash → List ℕ → List Declaration
declared_in_map by_hash name = declared_of (get nat_cmp by_hash (hash_of name)) name

-- the declaration was added at the end of those of the full name in a map
abbrev pub AddsInMap : (old new : BTreeMap ℕ OneHash) → List ℕ → Declaration → Type 0
AddsInMap old new full d = (name : List ℕ) → declared_in_map new name
    ≡ declared_in_map old name ++ (if bytes_eq full name then d ∷ [] else [])

-- and in all of them
abbrev pub AddsByHash : (old new : List (BTreeMap ℕ OneHash)) → List ℕ → Declaration → Type 0
AddsByHash old new full d = (name : List ℕ) → declared_by_hash new name
    ≡ declared_by_hash old name ++ (if bytes_eq full name then d ∷ [] else [])

-- what the names of a hash become, where the full name gets the declaration at the end of its own
abbrev pub IsWith : Option OneHash → List ℕ → Declaration → OneHash → Type 0
IsWith old full d new = (name : List ℕ) → declared_of (Some new) name
    ≡ declared_of old name ++ (if bytes_eq full name then d ∷ [] else [])

-- each full name is declared in a map as it was, or no more
abbrev pub MayForgetInMap : (old new : BTreeMap ℕ OneHash) → Type 0
MayForgetInMap old new = (name : List ℕ) → (declared_in_map new name ≡ declared_in_map old name)
    ⊎ (declared_in_map new name ≡ [])

-- and in all of them
abbrev pub MayForget : (old new : List (BTreeMap ℕ OneHash)) → Type 0
MayForget old new = (name : List ℕ) → (declared_by_hash new name ≡ declared_by_hash old name)
    ⊎ (declared_by_hash new name ≡ [])
