-- What full names are declared as, by their hashes.
use Rattle.std.specs.Prelude.{ℕ, List, [], ◌∷◌, Option, None, Some, if◌then◌else◌}
use Rattle.std.specs.Prelude.{◌/◌, ◌^◌, bytes_eq, slice_get, string_bytes}
use Rattle.std.specs.BTreeMap.{BTreeMap, get, get_by_text}
use Rattle.std.specs.Hash.FoldHasher.{initial, write, finish}
use Rattle.std.specs.Ordering.{nat_cmp}
use Rattle.protobuf_parse_model.specs.declared.scope.seen.Declaration.{Declaration}
use Rattle.protobuf_parse_model.specs.declared.scope.seen.OneHash.{OneHash}
use Rattle.protobuf_parse_model.specs.declared.scope.seen.Declared.{Declared}
use Rattle.protobuf_parse_model.specs.declared.scope.seen.Declared.TheVariants.{Once, Often}
use Rattle.protobuf_parse_model.specs.declared.scope.seen.OneHash.TheVariants.{Name, Names}
use Rattle.std.specs.Global.{Vec}

-- the hash of a name: what the hasher of std's maps makes of its bytes
abbrev pub hash_of : List ℕ → ℕ
hash_of name = finish (write initial name)

-- the declarations of a full name, as they were added
abbrev pub declarations_in : Declared → List Declaration
declarations_in (Once d) = d ∷ []
declarations_in (Often ds) = ds.items

-- the declarations of a list that may be there
abbrev pub listed : Option (Vec Declaration) → List Declaration
listed None = []
listed (Some v) = v.items

-- the declarations of the full name, among the names of its hash
abbrev pub declared_of : Option OneHash → List ℕ → List Declaration
declared_of None name = []
declared_of (Some (Name n)) name =
    if bytes_eq (string_bytes n.name) name then declarations_in n.declared else []
declared_of (Some (Names names)) name = listed (get_by_text names name)

-- which of the maps has a hash: by its highest byte
abbrev pub map_of : ℕ → ℕ
map_of hash = hash / 2 ^ 56

-- the names of a hash in a map that may be there
abbrev pub names_in : Option (BTreeMap ℕ OneHash) → ℕ → Option OneHash
names_in None hash = None
names_in (Some by_hash) hash = get nat_cmp by_hash hash

-- the names of the hash
abbrev pub names_of_hash : List (BTreeMap ℕ OneHash) → ℕ → Option OneHash
names_of_hash maps hash = names_in (slice_get maps (map_of hash)) hash

-- the declarations of the full name
abbrev pub declared_by_hash : List (BTreeMap ℕ OneHash) → List ℕ → List Declaration
declared_by_hash maps name = declared_of (names_of_hash maps (hash_of name)) name
