-- Ordered maps with any number of values under a name.
use Rattle.std.specs.Prelude.{ℕ, List, [], String}
use Rattle.std.specs.Option.{option_map_or}
use Rattle.std.specs.Global.{Vec}
use Rattle.std.specs.BTreeMap.{BTreeMap, get_by_text}

-- what stands under the name, in the order in which it was put there
abbrev pub values_under : {T A : Type 0} → BTreeMap (String A) (Vec T) → List ℕ → List T
values_under map name = option_map_or (λ values. values.items) (get_by_text map name) []
