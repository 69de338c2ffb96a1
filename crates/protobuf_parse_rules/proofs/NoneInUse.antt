-- That no violation is C1, by a test of each and by the list of those that are.
use Rattle.std.proofs.Common.{◌≡◌, Bool, true, false, ◌&&◌, not, cond, List, [], ◌∷◌, map, filter}
use Rattle.std.proofs.Common.{refl}
use Rattle.std.specs.List.{list_all}
use Rattle.protobuf_parse_rules.specs.Law.{NoneIsInUse, is_number_in_use}
use Rattle.protobuf_parse_rules.specs.Rules.{Breach, violation_view}
use Rattle.protobuf_parse_rules.specs.declared.violation.Violation.{Violation}

abbrev in_use : Breach → Bool
in_use b = is_number_in_use b.broken.rule

abbrev unused : Violation → Bool
unused v = not (is_number_in_use v.rule)

pub none_where_all : (vs : List Violation) → list_all unused vs ≡ true
    → NoneIsInUse (map violation_view vs)
none_where_all [] e = refl
none_where_all (v ∷ vs) e = at (is_number_in_use v.rule) (none_where_all vs) e
  where
    at : (b : Bool) → (list_all unused vs ≡ true → NoneIsInUse (map violation_view vs))
        → (not b && list_all unused vs) ≡ true
        → cond b (violation_view v ∷ filter in_use (map violation_view vs))
        (filter in_use (map violation_view vs)) ≡ []
    at true more e = absurd cc
    at false more e = more e

pub all_where_none : (vs : List Violation) → NoneIsInUse (map violation_view vs)
    → list_all unused vs ≡ true
all_where_none [] none = refl
all_where_none (v ∷ vs) none = at (is_number_in_use v.rule) (all_where_none vs) none
  where
    at : (b : Bool) → (NoneIsInUse (map violation_view vs) → list_all unused vs ≡ true)
        → cond b (violation_view v ∷ filter in_use (map violation_view vs))
        (filter in_use (map violation_view vs)) ≡ []
        → (not b && list_all unused vs) ≡ true
    at true more none = absurd cc
    at false more none = more none
