-- No public clause rests on this file.
-- What the code has of a set.
use Rattle.std.specs.Prelude.{ℕ, Bool, List, map, Option, None, Some, string_bytes, slice_get}
use Rattle.std.specs.Borrow.{Bor}
use Rattle.std.specs.BTreeMap.{BTreeMap, get_by}
use Rattle.std.specs.BTreeSet.{BTreeSet, contains}
use Rattle.std.specs.Cmp.Lexicographic.{slice_cmp}
use Rattle.std.specs.Global.{Vec}
use Rattle.std.specs.Option.{option_and_then}
use Rattle.std.specs.Ordering.{nat_cmp}
use Rattle.protobuf_parse_model.specs.Descriptors.{Text}
use Rattle.protobuf_parse_set_rules.specs.Breaches.{Site}
use Rattle.protobuf_parse_set_rules.specs.Names.{within}
use Rattle.protobuf_parse_set_rules.specs.Sights.{Known, Paths, Sight, kind_seen}
use Rattle.protobuf_parse_set_rules.specs.Types.{DeclaredType}
use Rattle.protobuf_parse_set_rules.specs.declared.known.KnownSet.{KnownSet}
use Rattle.protobuf_parse_set_rules.specs.declared.sight.FileSight.{FileSight}
use Rattle.protobuf_parse_set_rules.specs.declared.types.TypeName.{TypeName}
use Rattle.protobuf_parse_set_rules.specs.declared.violation.Spot.{Spot}

-- the full name of what has the name in the scope, or of what has the scope
abbrev pub spot_name : Text → Option (Bor (List ℕ)) → Text
spot_name scope None = scope
spot_name scope (Some name) = within scope name.now

-- where something is told
abbrev pub site_of : Spot → Site
site_of s = record { file = s.file.now; construct = spot_name s.scope.now s.name }

-- texts that are lent
abbrev pub texts_of : List (Bor (List ℕ)) → List Text
texts_of ts = map (λ (t : Bor (List ℕ)). t.now) ts

-- the position that the map has of a text
abbrev pub positions_view : BTreeMap (Bor (List ℕ)) ℕ → Paths
positions_view m text = get_by (λ (k : Bor (List ℕ)). slice_cmp nat_cmp text k.now) m

-- a message or an enum
abbrev pub type_view : TypeName → DeclaredType
type_view t = record { name = string_bytes t.name; kind = t.kind; file = t.file }

-- lists of positions
abbrev pub lists_view : List (Vec ℕ) → List (List ℕ)
lists_view ls = map (λ (l : Vec ℕ). l.items) ls

-- the type at the position that the map has of a name
abbrev pub types_view : List TypeName → BTreeMap (Bor (List ℕ)) ℕ → Text → Option DeclaredType
types_view types names name =
    option_and_then (slice_get (map type_view types)) (positions_view names name)

-- what is known of the files
abbrev pub known_view : KnownSet → Known
known_view k = record {
  paths = positions_view k.paths;
  publics = lists_view k.publics.items;
  types = types_view k.types.now k.names;
}

-- whether the set has the position
abbrev pub has : BTreeSet ℕ → ℕ → Bool
has s n = contains nat_cmp s n

-- what names mean in a file
abbrev pub sight_view : FileSight → Sight
sight_view s name = kind_seen (has s.files) (types_view s.types.now s.names.now name)
