-- No public clause rests on this file.
-- The loaded files and their numbers.
use Rattle.std.specs.Prelude.{◌≡◌, ℕ, suc, List, [], ◌∷◌, Option, Some, None, option_map, bytes_eq}
use Rattle.std.specs.Prelude.{String, string_bytes, if◌then◌else◌, length, ◌<◌, ◌^◌}
use Rattle.std.specs.BTreeMap.{BTreeMap, get_by_text}
use Rattle.std.specs.Global.{Global}
use Rattle.protobuf_parse_model.specs.Descriptors.{Text}
use Rattle.protobuf_parse_run.specs.Loading.{LoadedEntry}

-- What contracts see of the loaded files: each with its path, in the order of loading.
pub record LoadedList : Type 0 where
  pub entries : List LoadedEntry

-- the number of the first file of the path
abbrev pub number_in : Text → List LoadedEntry → Option ℕ
number_in path [] = None
number_in path (e ∷ es) =
    if bytes_eq path (string_bytes e.0) then Some 0 else option_map suc (number_in path es)

-- The map has the number of the first file of each path, and no other path.
abbrev pub HasNumbers : BTreeMap (String Global) ℕ → List LoadedEntry → Type 0
HasNumbers numbers loaded = (path : Text) → get_by_text numbers path ≡ number_in path loaded

-- The same, and there are so few files that their numbers have 32 bits.
pub record HasSmallNumbers
    (numbers : BTreeMap (String Global) ℕ) (loaded : List LoadedEntry) : Type 0 where
  pub found : HasNumbers numbers loaded
  pub few : length loaded < 2 ^ 31
