-- Names by their first parts.
use Rattle.std.proofs.Common.{◌≡◌, ◌∙◌, ◌<◌, ◌&&◌, ◌==◌, ◌++◌, ◌∷◌, [], ℕ, Bool, true, false}
use Rattle.std.proofs.Common.{if◌then◌else◌, List, ap, append_assoc, length, map, not, refl, sym}
use Rattle.std.proofs.Common.{arith}
use Rattle.std.specs.List.{list_any, position_or_len}
use Rattle.std.proofs.lemmas.Bool.{cond-true, cond-false}
use Rattle.std.proofs.lemmas.List.Folds.{list_any_at, list_any_none}
use Rattle.std.proofs.lemmas.List.Sums.{fails_before_first, passes_at_first}
use Rattle.protobuf_parse_base.specs.Characters as char
use Rattle.protobuf_parse_base.specs.Names.{absolute_text, fronts}
use Rattle.protobuf_parse_model.specs.Declarations.{Scope, full_name}
use Rattle.protobuf_parse_model.specs.Descriptors.{Text}
use Rattle.protobuf_parse_model.specs.Lookup.{begins_with_dot}
use Rattle.protobuf_parse_model.specs.Outward.{full_names, names_outward}
use Rattle.protobuf_parse_name_rules.specs.Lookups.{Sight, holds_names}
use Rattle.protobuf_parse_name_rules.specs.Names.{first_part, has_parts, is_lost}

abbrev is_dot : ℕ → Bool
is_dot b = b == char.dot

-- a text has no dot, where the first is looked for in vain
pub no_dot : (text : Text) → position_or_len is_dot text ≡ length text
    → list_any is_dot text ≡ false
no_dot text e =
    list_any_none is_dot text (λ k d l. fails_before_first is_dot text k d (omega (arith, e, l)))

-- and has one, where it is found
pub a_dot : (text : Text) → position_or_len is_dot text < length text
    → list_any is_dot text ≡ true
a_dot text l =
    list_any_at is_dot text (position_or_len is_dot text) 0 l (passes_at_first is_dot text 0 l)

pub begins_front : (name first rest : Text) → name ≡ first ++ char.dot ∷ rest
    → begins_with_dot name ≡ false → begins_with_dot first ≡ false
begins_front name [] rest is e = refl
begins_front name (b ∷ bs) rest is e = sym (ap begins_with_dot is) ∙ e

-- ---- names of one part

pub without_parts : (name : Text) (rest : Bool) → list_any is_dot name ≡ false
    → false ≡ (has_parts name && rest)
without_parts name rest e =
    by (not (begins_with_dot name)) ∙ ap (λ b. (not (begins_with_dot name) && b) && rest) (sym e)
  where
    by : (b : Bool) → false ≡ ((b && false) && rest)
    by true = refl
    by false = refl

pub absolute : (name : Text) (rest : Bool) → begins_with_dot name ≡ true
    → false ≡ (has_parts name && rest)
absolute name rest e =
    ap (λ b. (not b && list_any is_dot name) && rest) (sym e)

-- ---- names of several parts

pub with_parts : (sight : Sight) (is : Text → Bool) (name first rest : Text) (scopes : List Scope)
    (b : Bool) → begins_with_dot name ≡ false → list_any is_dot name ≡ true
    → first ≡ first_part name → name ≡ first ++ char.dot ∷ rest
    → b ≡ is_lost sight is first (first ++ char.dot ∷ rest) scopes
    → b ≡ (has_parts name && is_lost sight is (first_part name) name scopes)
with_parts sight is name first rest scopes b absolute dot begins apart e =
    e ∙ ap (λ whole. is_lost sight is first whole scopes) (sym apart)
    ∙ ap (λ (part : Text). is_lost sight is part name scopes) begins
    ∙ ap (λ (a : Bool). not a && true && is_lost sight is (first_part name) name scopes)
    (sym absolute)
    ∙ ap (λ (d : Bool). (not (begins_with_dot name) && d)
    && is_lost sight is (first_part name) name scopes) (sym dot)

-- ---- from a scope outward

module _ (sight : Sight) (is : Text → Bool) (rest : Text) where
  -- by the full names of the first part
  abbrev pub lost_names : List Text → Bool
  lost_names [] = false
  lost_names (n ∷ ns) =
      if holds_names sight n then not (is (n ++ char.dot ∷ rest)) else lost_names ns

  among_fronts : (first : Text) (scopes : List Scope)
      → lost_names (map (λ scope. full_name scope first) scopes)
      ≡ is_lost sight is first (first ++ char.dot ∷ rest) scopes
  among_fronts first [] = refl
  among_fronts first (scope ∷ scopes) =
      ap (λ (whole : Text). if holds_names sight (full_name scope first) then not (is whole)
      else lost_names (map (λ scope. full_name scope first) scopes))
      (append_assoc (absolute_text scope) (char.dot ∷ first) (char.dot ∷ rest))
      ∙ ap (λ (b : Bool). if holds_names sight (full_name scope first)
      then not (is (full_name scope (first ++ char.dot ∷ rest))) else b)
      (among_fronts first scopes)

  pub lost_full_names : (first : Text) (scope : Scope) → begins_with_dot first ≡ false
      → lost_names (full_names scope first)
      ≡ is_lost sight is first (first ++ char.dot ∷ rest) (fronts scope)
  lost_full_names first scope e =
      ap (λ (b : Bool). lost_names (if b then first ∷ [] else names_outward scope first)) e
      ∙ among_fronts first (fronts scope)

  -- where the first of them holds names
  pub lost_here : (n : Text) (ns : List Text) (b : Bool) → b ≡ holds_names sight n → b ≡ true
      → lost_names (n ∷ ns) ≡ not (is (n ++ char.dot ∷ rest))
  lost_here n ns b e t =
      cond-true (holds_names sight n) (not (is (n ++ char.dot ∷ rest))) (lost_names ns) (sym e ∙ t)

  -- and where it doesn't
  pub lost_later : (n : Text) (ns : List Text) (b : Bool) → b ≡ holds_names sight n → b ≡ false
      → lost_names (n ∷ ns) ≡ lost_names ns
  lost_later n ns b e t =
      cond-false (holds_names sight n) (not (is (n ++ char.dot ∷ rest))) (lost_names ns) (sym e ∙ t)
