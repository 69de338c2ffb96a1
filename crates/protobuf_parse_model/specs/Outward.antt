-- The full names that a name may have in a scope, in the order in which they are looked up.
use Rattle.std.specs.Prelude.{List, [], ◌∷◌, Option, Some, None, map, drop, string_bytes}
use Rattle.std.specs.Prelude.{if◌then◌else◌}
use Rattle.protobuf_parse_base.specs.Names.{fronts}
use Rattle.protobuf_parse_model.specs.declared.scope.outward.Outward.{Outward}
use Rattle.protobuf_parse_model.specs.Descriptors.{Text}
use Rattle.protobuf_parse_model.specs.Declarations.{Scope, full_name}
use Rattle.protobuf_parse_model.specs.Lookup.{begins_with_dot}
use Rattle.protobuf_parse_model.specs.SeenFiles.{name_texts}

-- those of what has the name in the scope and in each around it
abbrev pub names_outward : Scope → Text → List Text
names_outward scope name = map (λ front. full_name front name) (fronts scope)

-- a name with a first dot has but itself
abbrev pub full_names : Scope → Text → List Text
full_names scope name = if begins_with_dot name then name ∷ [] else names_outward scope name

-- ---- those that the code goes through

-- the name that is looked up now
abbrev pub first_name : Outward → Text
first_name names = string_bytes names.first

-- those that come after it
abbrev pub later_names : Outward → List Text
later_names names = drop 1 (names_outward (name_texts names.scope.now) names.name.now)

-- all that are left, the one that is looked up now first
abbrev pub names_of : Outward → List Text
names_of names = first_name names ∷ later_names names

-- those that are left; there are none behind the last
abbrev pub names_left : Option Outward → List Text
names_left None = []
names_left (Some names) = names_of names
